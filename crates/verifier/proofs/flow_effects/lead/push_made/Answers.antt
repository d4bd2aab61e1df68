use Rattle.std.proofs.Common.{refl, ◌∷◌, map}
use Rattle.model.specs.Types as model
use Rattle.model.specs.InitialisedTypes.{forgotten}
use Rattle.hierarchy.specs.Places.{name_at}
use Rattle.types.specs.View.{frame_in}
use Rattle.instruction_types.specs.Successors.{left_by}
use Rattle.instruction_types.proofs.Leading.{pushed_on}
use Rattle.verifier.proofs.flow_effects.lead.push_made.Goals as goal
use Rattle.instruction_types.proofs.operand_types.Operands.{shown_by}

pub returns : goal.returns
returns c =
    let t = c.args.frame.now in
    λ files. shown_by files (record { locals = c.forget_all.new.types; stack = c.push.new.self; constructed = t.constructed }) (map (forgotten c.args.offset) (frame_in files t).slots.locals)
    (model.Uninitialised c.args.offset (name_at files c.args.class) ∷ left_by files c.args.wants.now t) t.constructed (c.forget_all.ensures files)
    (pushed_on files c.pop.new.stack.items _ _ _ c.in_ok-push.ensures.items (c.pop.ensures files)) refl
