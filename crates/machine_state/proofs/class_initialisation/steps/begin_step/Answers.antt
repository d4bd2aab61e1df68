use Rattle.std.proofs.Common.{Option, Ok, Err, Result, sym, ap, subst, ◌∙◌}
use Rattle.model.specs.Step.{before}
use Rattle.machine_state.specs.declared.answers.Answer.{Answer}
use Rattle.machine_state.specs.declared.refusals.EventRefusal.{EventRefusal}
use Rattle.machine_state.specs.class_initialisation.Needed.{Needs}
use Rattle.machine_state.proofs.class_initialisation.Supers.{Steps, some_first, with_none, with_ready}
use Rattle.machine_state.proofs.class_initialisation.steps.begin_step.Goals as goal

pub returns-in_default : goal.returns-in_default
returns-in_default c = λ trees bounds inflated world program is class rest at s.
    with_none trees c.args.program.now bounds inflated world class rest c.args.frames c.args.thread c.run_initialiser.result c.args.shared.now c.run_initialiser.new.shared c.args.stack.now c.run_initialiser.new.stack
    (c.in_default.ensures trees program class at) (c.run_initialiser.ensures trees bounds inflated world program is class rest at s)

pub returns-in-Ok-None : goal.returns-in-Ok-None
returns-in-Ok-None c = λ trees bounds inflated world program is class rest at s.
    let first = some_first trees c.in-Some.first (before trees class) (c.in-Some.ensures trees program class at) in
    let ready =
    subst (λ (r : Result (Option Answer) EventRefusal). Needs c.args.program.now r c.args.thread c.in-Some.first c.args.shared.now c.need_class.new.shared c.args.stack.now c.need_class.new.stack)
    (c.in-Ok-None.is ∙ ap (λ (o : Option Answer). Ok o) c.in-Ok-None.field-0-is) c.need_class.ensures trees bounds inflated world _ program is.represents s first.0 first.2 in
    with_ready trees c.args.program.now bounds inflated world class rest c.args.frames c.args.thread c.run_initialiser-in-Ok-None.result c.args.shared.now c.run_initialiser-in-Ok-None.new.shared c.args.stack.now c.run_initialiser-in-Ok-None.new.stack
    program is c.args.class at s first.0 first.1 ready.0 c.need_class.new.shared c.need_class.new.stack ready.1 c.run_initialiser-in-Ok-None.ensures

pub returns-in-Ok-Some : goal.returns-in-Ok-Some
returns-in-Ok-Some c = λ trees bounds inflated world program is class rest at s.
    let first = some_first trees c.in-Some.first (before trees class) (c.in-Some.ensures trees program class at) in
    subst (Steps trees c.args.program.now bounds inflated world class rest c.args.frames c.args.thread (Ok c.in-Ok-Some.answer) c.args.shared.now c.need_class.new.shared c.args.stack.now c.need_class.new.stack) (sym first.1)
    (subst (λ (r : Result (Option Answer) EventRefusal). Needs c.args.program.now r c.args.thread c.in-Some.first c.args.shared.now c.need_class.new.shared c.args.stack.now c.need_class.new.stack)
    (c.in-Ok-Some.is ∙ ap (λ (o : Option Answer). Ok o) c.in-Ok-Some.field-0-is) c.need_class.ensures trees bounds inflated world _ program is.represents s first.0 first.2 _)

pub returns-in-Err : goal.returns-in-Err
returns-in-Err c = λ trees bounds inflated world program is class rest at s.
    let first = some_first trees c.in-Some.first (before trees class) (c.in-Some.ensures trees program class at) in
    subst (Steps trees c.args.program.now bounds inflated world class rest c.args.frames c.args.thread (Err c.in-Err.refusal) c.args.shared.now c.need_class.new.shared c.args.stack.now c.need_class.new.stack) (sym first.1)
    (c.in-Err.ensures trees bounds inflated world _ program is.represents s first.0 first.2 _)
