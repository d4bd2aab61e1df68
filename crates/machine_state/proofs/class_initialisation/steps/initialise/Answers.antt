use Rattle.std.proofs.Common.{List, drop, sym, ap, subst}
use Rattle.model.specs.State.{Initialised}
use Rattle.model.specs.State as model
use Rattle.model.specs.Operands.{words}
use Rattle.model.specs.ClassInitialisation.{with_class_status}
use Rattle.model.specs.Step.{initialisation_event}
use Rattle.thread_stacks.specs.declared.entry.Phase.{Phase}
use Rattle.thread_stacks.specs.Stacks.{ShownEntry}
use Rattle.machine_state.specs.shown_stacks.Shown.{phase_of}
use Rattle.machine_state.specs.declared.state.Shared.{Shared}
use Rattle.machine_state.specs.Events.{IsDone}
use Rattle.machine_state.proofs.class_initialisation.Beginning.{free_done}
use Rattle.machine_state.proofs.class_initialisation.Failing.{under}
use Rattle.machine_state.proofs.class_initialisation.steps.initialise.Goals as goal

pub returns-in-End : goal.returns-in-End
returns-in-End c = λ trees bounds inflated world program is class rest at s.
    let p = c.args.program.now in
    subst (λ (at : Phase). IsDone trees p bounds inflated world (initialisation_event words trees c.args.frames c.args.thread class (phase_of at) world rest) c.args.shared.now c.end.new.shared c.end.new.stack) (sym c.in-End.is)
    (subst (λ (l : List ShownEntry). IsDone trees p bounds inflated world (initialisation_event words trees c.args.frames c.args.thread class model.End world rest) c.args.shared.now c.end.new.shared l) (sym c.end.ensures.stack)
    (free_done trees p bounds inflated world (with_class_status world class Initialised) rest c.args.shared.now c.end.new.shared (drop 1 c.args.stack.now)
    (c.end.ensures.set trees p bounds world program is.represents class at) (under trees p c.args.stack.now _ rest s)
    (ap (λ (m : Shared). m.heap) c.end.ensures.kept) (ap (λ (m : Shared). m.stacks) c.end.ensures.kept) (ap (λ (m : Shared). m.threads) c.end.ensures.kept)))
