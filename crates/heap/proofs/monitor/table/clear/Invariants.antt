use Rattle.std.proofs.Common.{◌≡◌, ◌≤◌, length, set, take}
use Rattle.model.specs.Monitors.{monitor_at}
use Rattle.heap.proofs.monitor.table.clear.Given as goal

abbrev pub invariant-loop-count : goal.invariant-loop-count
invariant-loop-count l = record {
  in_range : l.count ≤ length (monitor_at l.initial.records l.index).waiters;
  left : l.records ≡ set l.initial.records
      l.index (record (monitor_at l.initial.records l.index)
      { waiters = take l.count (monitor_at l.initial.records l.index).waiters });
}

abbrev pub decreases-loop-count : goal.decreases-loop-count
decreases-loop-count l = l.count
