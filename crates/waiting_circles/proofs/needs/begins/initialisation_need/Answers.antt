use Rattle.std.proofs.Common.{Option, None, refl, sym, ap, subst, ◌∙◌}
use Rattle.model.specs.Names.{Name}
use Rattle.model.specs.Operands.{words}
use Rattle.machine_state.proofs.class_initialisation.Supers.{some_first, none_first}
use Rattle.machine_state.specs.shown_stacks.Shown.{phase_of}
use Rattle.data_races.specs.EventActions.{Initialises, needed_before}
use Rattle.search_laws.specs.Waits.{class_need}
use Rattle.waiting_circles.specs.Needs.{IsNeed}
use Rattle.waiting_circles.proofs.needs.Classes.{phase_need}
use Rattle.waiting_circles.proofs.needs.begins.initialisation_need.Goals as goal

pub returns-in-Some : goal.returns-in-Some
returns-in-Some c = λ trees bounds world program r class rest at frames.
    let phase = phase_of c.args.phase in
    let first = some_first trees c.in-Some.first (needed_before trees class phase) (c.in-Some.ensures trees program (Initialises class phase) (class, at, refl)) in
    subst (IsNeed trees c.class_need.result)
    (sym (phase_need trees frames c.args.thread world class rest phase
    ∙ ap (λ (o : Option Name). class_need words trees frames c.args.thread world o None) first.1))
    (c.class_need.ensures trees c.args.program.now bounds world program r first.0 first.2 frames)

pub returns-in-None : goal.returns-in-None
returns-in-None c = λ trees bounds world program r class rest at frames.
    let phase = phase_of c.args.phase in
    phase_need trees frames c.args.thread world class rest phase
    ∙ ap (λ (o : Option Name). class_need words trees frames c.args.thread world o None)
    (none_first trees (needed_before trees class phase) (c.in-None.ensures trees program (Initialises class phase) (class, at, refl)))
