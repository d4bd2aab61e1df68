use Rattle.std.proofs.Common.{◌≡◌, take}
use Rattle.model.specs.Monitors.{monitor_at}
use Rattle.heap.proofs.monitor.table.Table.waiters.Given as goal

abbrev pub invariant-loop-pick : goal.invariant-loop-pick
invariant-loop-pick l = l.waiters.items ≡ take l.pick (monitor_at l.self-inside.records l.index).waiters
