use Rattle.std.proofs.Common.{List, None, Option, ℕ, ◌∷◌, [], refl, sym, subst}
use Rattle.model.specs.Classes.{Body}
use Rattle.model.specs.Frames.{frame_with}
use Rattle.model.specs.Names.{initialiser_of}
use Rattle.model.specs.Operands.{words}
use Rattle.model.specs.State as model
use Rattle.model.specs.Step.{initialiser_event, pushed}
use Rattle.thread_stacks.specs.Stacks.{ShownEntry}
use Rattle.machine_state.specs.Events.{Becomes, IsDone}
use Rattle.machine_state.proofs.class_initialisation.Beginning.{free_done}
use Rattle.machine_state.proofs.class_initialisation.Phases.{at_end}
use Rattle.machine_state.proofs.class_initialisation.steps.run_initialiser.Goals as goal

pub returns-in-Some : goal.returns-in-Some
returns-in-Some c = λ trees bounds inflated world program is class rest at s.
    let p = c.args.program.now in
    let own = model.Initialisation class model.End ∷ rest in
    let found = c.in-Some.ensures.initialiser trees program class at in
    subst (λ (o : Option Body). Becomes trees p bounds inflated world (initialiser_event words trees c.args.frames c.args.thread (initialiser_of class) world own o) c.call_over.result c.args.shared.now c.call_over.new.shared c.args.stack.now c.call_over.new.stack) (sym found.1)
    (subst (λ (entered : Option ℕ). Becomes trees p bounds inflated world (pushed words trees c.args.frames c.args.thread world world own own (frame_with words (initialiser_of class) [] entered found.0)) c.call_over.result c.args.shared.now c.call_over.new.shared c.args.stack.now c.call_over.new.stack) c.in-Some.ensures.entered
    (c.call_over.ensures trees bounds inflated world program is class rest s (initialiser_of class) found.0 found.2))

pub returns-in-None : goal.returns-in-None
returns-in-None c = λ trees bounds inflated world program is class rest at s.
    let p = c.args.program.now in
    let own = model.Initialisation class model.End ∷ rest in
    subst (λ (o : Option Body). IsDone trees p bounds inflated world (initialiser_event words trees c.args.frames c.args.thread (initialiser_of class) world own o) c.args.shared.now c.args.shared.now c.set_phase.new.self) (sym (c.in-None.ensures.initialiser trees program class at))
    (subst (λ (l : List ShownEntry). IsDone trees p bounds inflated world (initialiser_event words trees c.args.frames c.args.thread (initialiser_of class) world own None) c.args.shared.now c.args.shared.now l) (sym c.set_phase.ensures)
    (free_done trees p bounds inflated world world own c.args.shared.now c.args.shared.now _ is.represents (at_end trees p class rest c.args.stack.now s) refl refl refl))
