use Rattle.std.proofs.Common.{sym, ap}
use Rattle.model.specs.State.{Waiter}
use Rattle.model.specs.Monitors.{monitor_at}
use Rattle.state_actions.proofs.wait_ends.Waits.{waiter_added}
use Rattle.state_actions.proofs.wait_ends.waiters_on.Goals as goal

pub waiters-preserved : goal.waiters-preserved
waiters-preserved c =
    waiter_added (monitor_at c.args.heap.now.locks.monitors c.args.object).waiters c.waiters.pick c.in-Some.waiter c.waiters.waiting.items
    c.push.new.self.items _ (sym c.in-Some.ensures) c.waiters.invariant c.in_ok-push.ensures.items (ap (λ (w : Waiter). w.thread) c.waiter-in-waiters.view_is)
