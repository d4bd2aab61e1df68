use Rattle.std.proofs.Common.{[], sym, ap, subst, refl, ◌∙◌}
use Rattle.model.specs.Frames.{entered_by}
use Rattle.model.specs.Names.{main_of}
use Rattle.model.specs.Opening.{class_reference}
use Rattle.model.specs.Operands.{words}
use Rattle.model.specs.Step.{initial_class}
use Rattle.data_races.specs.EventActions.{Begins}
use Rattle.search_laws.specs.Waits.{frame_need}
use Rattle.waiting_circles.specs.Needs.{IsNeed}
use Rattle.waiting_circles.proofs.needs.Classes.{ready_class, held_class, new_class, failed_class}
use Rattle.waiting_circles.proofs.needs.begins.main_need.Goals as goal

pub returns-in_default : goal.returns-in_default
returns-in_default c = λ trees bounds world program r. absurd (c.in_default.ensures trees program Begins refl)

pub returns-in-Ready : goal.returns-in-Ready
returns-in-Ready c = λ trees bounds world program r.
    let class = initial_class trees in
    let next = frame_need words trees c.args.frames 0 world [] (entered_by trees (main_of class) (class_reference trees class)) in
    let at = c.in-Some.ensures trees program Begins refl in
    subst (IsNeed trees c.first_need.result)
    (ap (frame_need words trees c.args.frames 0 world []) (c.entered_by_main.ensures trees program)
    ∙ sym (ready_class trees c.args.frames 0 world next class (c.in-Ready.ensures trees c.args.program.now bounds world program r class at)))
    (c.first_need.ensures trees 0 world)

pub returns-in-Held : goal.returns-in-Held
returns-in-Held c = λ trees bounds world program r.
    let class = initial_class trees in
    let next = frame_need words trees c.args.frames 0 world [] (entered_by trees (main_of class) (class_reference trees class)) in
    let at = c.in-Some.ensures trees program Begins refl in
    held_class trees c.args.frames 0 world next class c.in-Some.class at (c.in-Held.ensures trees c.args.program.now bounds world program r class at)

pub returns-in-New : goal.returns-in-New
returns-in-New c = λ trees bounds world program r.
    let class = initial_class trees in
    let next = frame_need words trees c.args.frames 0 world [] (entered_by trees (main_of class) (class_reference trees class)) in
    let at = c.in-Some.ensures trees program Begins refl in
    new_class trees c.args.frames 0 world next class (c.in-New.ensures trees c.args.program.now bounds world program r class at)

pub returns-in-Failed : goal.returns-in-Failed
returns-in-Failed c = λ trees bounds world program r.
    let class = initial_class trees in
    let next = frame_need words trees c.args.frames 0 world [] (entered_by trees (main_of class) (class_reference trees class)) in
    let at = c.in-Some.ensures trees program Begins refl in
    failed_class trees c.args.frames 0 world next class (c.in-Failed.ensures trees c.args.program.now bounds world program r class at)
