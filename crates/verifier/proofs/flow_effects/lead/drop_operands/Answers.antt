use Rattle.std.proofs.Common.{refl}
use Rattle.types.specs.View.{frame_in}
use Rattle.instruction_types.specs.Successors.{left_by}
use Rattle.verifier.proofs.flow_effects.lead.drop_operands.Goals as goal
use Rattle.instruction_types.proofs.operand_types.Operands.{shown_by}

pub returns : goal.returns
returns c =
    let t = c.args.frame.now in
    λ files. shown_by files (record { locals = t.locals; stack = c.pop.new.stack; constructed = t.constructed }) (frame_in files t).slots.locals (left_by files c.args.wants.now t) t.constructed refl (c.pop.ensures files) refl
