use Rattle.std.proofs.Common.{true, List, Some, Ok, drop, sym, subst, ap}
use Rattle.model.specs.State.{Erroneous}
use Rattle.model.specs.Outcomes.{ExceptionInInitializer}
use Rattle.model.specs.ClassInitialisation.{with_class_status}
use Rattle.model.specs.Operands.{words}
use Rattle.model.specs.Step.{failed, raised_for}
use Rattle.thread_stacks.specs.Stacks.{ShownEntry}
use Rattle.machine_state.specs.declared.state.ClassStatus.TheVariants as status
use Rattle.machine_state.specs.declared.state.Shared.{Shared}
use Rattle.machine_state.specs.Events.{Becomes, IsDone}
use Rattle.machine_state.proofs.class_initialisation.Beginning.{free_done}
use Rattle.machine_state.proofs.class_initialisation.Failing.{under, still_refused, still_answered}
use Rattle.machine_state.proofs.class_initialisation.Looking.{told_so}
use Rattle.machine_state.proofs.class_initialisation.steps.fail.Goals as goal

-- an Error stays pending
pub returns-then-is_error : goal.returns-then-is_error
returns-then-is_error c = λ trees p bounds inflated world program r there class phase rest at s.
    let after = with_class_status world class Erroneous in
    subst (λ b. IsDone trees p bounds inflated world (failed words trees c.args.thread c.args.exception b after rest) c.args.shared.now c.end.new.shared c.end.new.stack) (sym c.if-is_error.true)
    (subst (λ (l : List ShownEntry). IsDone trees p bounds inflated world (failed words trees c.args.thread c.args.exception true after rest) c.args.shared.now c.end.new.shared l) (sym c.end.ensures.stack)
    (free_done trees p bounds inflated world after rest c.args.shared.now c.end.new.shared (drop 1 c.args.stack.now)
    (c.end.ensures.set trees p bounds world program r class at) (under trees p c.args.stack.now _ rest s)
    (ap (λ (m : Shared). m.heap) c.end.ensures.kept) (ap (λ (m : Shared). m.stacks) c.end.ensures.kept) (ap (λ (m : Shared). m.threads) c.end.ensures.kept)))

-- what is none is replaced
pub returns-in_err-answer : goal.returns-in_err-answer
returns-in_err-answer c = λ trees p bounds inflated world program r there class phase rest at s.
    let after = with_class_status world class Erroneous in
    subst (λ b. Becomes trees p bounds inflated world (failed words trees c.args.thread c.args.exception b after rest) c.from_residual.result c.args.shared.now c.raise_in_initialiser.new.shared c.args.stack.now c.args.stack.now) (sym c.if-is_error.false)
    (told_so (λ result. Becomes trees p bounds inflated world (raised_for words trees c.args.thread ExceptionInInitializer (Some c.args.exception) after rest) result c.args.shared.now c.raise_in_initialiser.new.shared c.args.stack.now c.args.stack.now)
    c.in_err-answer.field-0.0 c.from_residual.result c.from_residual.ensures.1
    (still_refused trees p bounds inflated world program class c.args.class c.args.thread at rest status.Erroneous ExceptionInInitializer (Some c.args.exception) c.args.shared.now
    c.in_err-answer.field-0.0 c.raise_in_initialiser.new.shared c.args.stack.now (drop 1 c.args.stack.now)
    (c.in_err-answer.ensures trees p bounds inflated world r there (drop 1 c.args.stack.now) rest (under trees p c.args.stack.now _ rest s))))

pub returns : goal.returns
returns c = λ trees p bounds inflated world program r there class phase rest at s.
    let after = with_class_status world class Erroneous in
    subst (λ b. Becomes trees p bounds inflated world (failed words trees c.args.thread c.args.exception b after rest) (Ok c.in_ok-answer.answer) c.args.shared.now c.end-2.new.shared c.args.stack.now c.end-2.new.stack) (sym c.if-is_error.false)
    (still_answered trees p bounds inflated world program class c.args.class c.args.thread at rest status.Erroneous ExceptionInInitializer (Some c.args.exception) c.args.shared.now
    c.in_ok-answer.answer c.raise_in_initialiser.new.shared c.end-2.new.shared c.args.stack.now (drop 1 c.args.stack.now) c.end-2.new.stack
    (c.in_ok-answer.ensures trees p bounds inflated world r there (drop 1 c.args.stack.now) rest (under trees p c.args.stack.now _ rest s))
    c.end-2.ensures.kept c.end-2.ensures.set c.end-2.ensures.stack)
