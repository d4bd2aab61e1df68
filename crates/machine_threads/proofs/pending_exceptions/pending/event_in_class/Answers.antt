use Rattle.std.proofs.Common.{◌∷◌, subst}
use Rattle.model.specs.ClassInitialisation.{with_class_status}
use Rattle.model.specs.Operands.{words}
use Rattle.model.specs.State.{Erroneous, Initialisation}
use Rattle.model.specs.Step.{failed}
use Rattle.machine_state.specs.Events.{Becomes}
use Rattle.machine_threads.proofs.pending_exceptions.Caught.{fits}
use Rattle.machine_threads.proofs.pending_exceptions.pending.event_in_class.Goals as goal

pub returns : goal.returns
returns c = λ trees bounds inflated state class phase rest at is.
    let p = c.args.program.now in
    subst (λ b. Becomes trees p bounds inflated state.world (failed words trees c.args.thread c.args.exception b (with_class_status state.world class Erroneous) rest)
    c.fail.result c.args.shared.now c.fail.new.shared c.args.stack.now c.fail.new.stack)
    (c.is_error-is_error.ensures is.program.files trees is.program.linkable is.program.linked state.world.heap is.lent.represents.world_is.objects)
    (c.fail.ensures trees p bounds inflated state.world is.program is.lent.represents
    (fits trees p bounds inflated c.args.thread c.args.exception c.args.shared.now c.args.stack.now state (Initialisation class phase ∷ rest) is)
    class phase rest at is.lent.shows_stack)
