use Rattle.std.proofs.Common.{refl, ◌∷◌}
use Rattle.types.specs.View.{type_in, frame_in}
use Rattle.instruction_types.specs.Successors.{left_by}
use Rattle.instruction_types.proofs.Leading.{pushed_on}
use Rattle.verifier.proofs.flow_effects.lead.push_type.Goals as goal
use Rattle.instruction_types.proofs.operand_types.Operands.{shown_by}

pub returns : goal.returns
returns c =
    let t = c.args.frame.now in
    λ files. shown_by files (record { locals = t.locals; stack = c.push.new.self; constructed = t.constructed }) (frame_in files t).slots.locals
    (type_in files c.args.pushed ∷ left_by files c.args.wants.now t) t.constructed refl (pushed_on files c.pop.new.stack.items _ c.args.pushed _ c.in_ok-push.ensures.items (c.pop.ensures files)) refl
