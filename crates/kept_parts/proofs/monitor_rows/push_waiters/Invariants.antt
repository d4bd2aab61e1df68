use Rattle.std.proofs.Common.{◌≡◌, ◌++◌, take}
use Rattle.model.specs.Monitors.{monitor_at}
use Rattle.kept_parts.specs.Objects.{waiters_row}
use Rattle.kept_parts.proofs.monitor_rows.push_waiters.Given as goal

abbrev pub invariant-waiters : goal.invariant-waiters
invariant-waiters l = l.row.items ≡ l.fn.row.items ++ waiters_row (take l.pick (monitor_at l.heap.locks.monitors l.object).waiters)
