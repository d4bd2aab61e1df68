use Rattle.std.proofs.Common.{◌≡◌, take}
use Rattle.model.specs.Monitors.{monitor_at}
use Rattle.state_actions.specs.wait_ends.Ends.{threads_of}
use Rattle.state_actions.proofs.wait_ends.waiters_on.Given as goal

abbrev pub invariant-waiters : goal.invariant-waiters
invariant-waiters l = l.waiting.items ≡ threads_of (take l.pick (monitor_at l.heap.locks.monitors l.object).waiters)
