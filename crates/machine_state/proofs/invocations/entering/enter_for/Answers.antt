use Rattle.machine_state.proofs.invocations.Pushing.{enters_ok}
use Rattle.machine_state.proofs.invocations.entering.enter_for.Goals as goal

-- src/entering.rt:27:1
pub returns-in_ok-enter : goal.returns-in_ok-enter
returns-in_ok-enter c = λ trees p bounds inflated world s may.
    enters_ok trees p bounds inflated world c.args.shared.now s c.args.thread c.in-Some.object c.args.entered c.in-Some.is c.in_ok-enter.field-0 c.enter.new.heap c.in_ok-enter.ensures may
