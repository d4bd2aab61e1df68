use Rattle.state_actions.proofs.wait_ends.Waits.{wake_added}
use Rattle.state_actions.proofs.wait_ends.push_wakes.Goals as goal

pub threads-preserved : goal.threads-preserved
threads-preserved c =
    wake_added c.args.waiting.now c.threads.thread c.args.actions.now.items c.threads.actions.items _ c.threads.invariant c.in_ok-push_wake.ensures
