use Rattle.std.proofs.Common.{[], Option, Ok, Result, ap, subst, ◌∙◌}
use Rattle.model.specs.Step.{initial_class}
use Rattle.machine_state.specs.declared.answers.Answer.{Answer}
use Rattle.machine_state.specs.declared.refusals.EventRefusal.{EventRefusal}
use Rattle.machine_state.specs.class_initialisation.Needed.{Needs}
use Rattle.machine_threads.proofs.thread_begins.Following.{still_able, follows}
use Rattle.machine_threads.proofs.thread_begins.initial.begin_main.Goals as goal

pub call_main-requires-clause-able : goal.call_main-requires-clause-able
call_main-requires-clause-able c =
    let able = c.requires.able in
    let needs =
    subst (λ (r : Result (Option Answer) EventRefusal). Needs c.args.program.now r 0 c.initial_class-class.result c.args.shared.now c.need_class.new.shared c.args.stack.now c.need_class.new.stack)
    (c.in-Ok-None.is ∙ ap (λ (o : Option Answer). Ok o) c.in-Ok-None.field-0-is) c.need_class.ensures in
    let ready = needs able.trees able.bounds able.inflated able.state.world [] able.program able.lent.represents able.lent.shows_stack (initial_class able.trees) (c.initial_class-class.ensures able.trees able.program) in
    still_able c.args.program.now 0 c.args.shared.now c.need_class.new.shared c.args.stack.now c.need_class.new.stack ready.1 able

pub returns-in-Ok-None : goal.returns-in-Ok-None
returns-in-Ok-None c = λ trees bounds inflated state program lent.
    let needs =
    subst (λ (r : Result (Option Answer) EventRefusal). Needs c.args.program.now r 0 c.initial_class-class.result c.args.shared.now c.need_class.new.shared c.args.stack.now c.need_class.new.stack)
    (c.in-Ok-None.is ∙ ap (λ (o : Option Answer). Ok o) c.in-Ok-None.field-0-is) c.need_class.ensures in
    let ready = needs trees bounds inflated state.world [] program lent.represents lent.shows_stack (initial_class trees) (c.initial_class-class.ensures trees program) in
    follows c.args.program.now c.call_main.result c.args.frames c.args.shared.now c.need_class.new.shared c.call_main.new.shared c.args.stack.now c.need_class.new.stack c.call_main.new.stack
    ready.1 c.call_main.ensures trees bounds inflated state program lent ready.0

pub returns-in-Ok-Some : goal.returns-in-Ok-Some
returns-in-Ok-Some c = λ trees bounds inflated state program lent.
    subst (λ (r : Result (Option Answer) EventRefusal). Needs c.args.program.now r 0 c.initial_class-class.result c.args.shared.now c.need_class.new.shared c.args.stack.now c.need_class.new.stack)
    (c.in-Ok-Some.is ∙ ap (λ (o : Option Answer). Ok o) c.in-Ok-Some.field-0-is) c.need_class.ensures
    trees bounds inflated state.world [] program lent.represents lent.shows_stack (initial_class trees) (c.initial_class-class.ensures trees program) _

pub returns-in-Err : goal.returns-in-Err
returns-in-Err c = λ trees bounds inflated state program lent.
    c.in-Err.ensures trees bounds inflated state.world [] program lent.represents lent.shows_stack (initial_class trees) (c.initial_class-class.ensures trees program) _
