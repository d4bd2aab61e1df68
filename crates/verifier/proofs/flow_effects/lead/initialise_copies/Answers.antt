use Rattle.std.proofs.Common.{refl, ◌∙◌, ap, map, get_or}
use Rattle.model.specs.Types as model
use Rattle.model.specs.InitialisedTypes.{initialised}
use Rattle.types.specs.View.{frame_in}
use Rattle.instruction_types.specs.Successors.{found_by, left_by}
use Rattle.instruction_types.proofs.Leading.{initialised_under}
use Rattle.verifier.proofs.flow_effects.lead.initialise_copies.Goals as goal
use Rattle.instruction_types.proofs.operand_types.Operands.{shown_by}

pub returns : goal.returns
returns c =
    let t = c.args.frame.now in
    let files = c.args.set.now in
    let r = get_or (found_by files c.args.wants.now t) c.args.place model.NullType in
    let is = c.operand_in-receiver.ensures files in
    shown_by files (record { locals = c.initialise_all.new.types; stack = c.initialise_all-2.new.types; constructed = t.constructed }) (map (initialised r) (frame_in files t).slots.locals)
    (map (initialised r) (left_by files c.args.wants.now t)) t.constructed (c.initialise_all.ensures ∙ ap (λ x. map (initialised x) (frame_in files t).slots.locals) is)
    (initialised_under files c.initialise_all-2.new.types.items c.pop.new.stack.items _ r (left_by files c.args.wants.now t) c.initialise_all-2.ensures is (c.pop.ensures files)) refl
