use Rattle.model.specs.Monitors.{monitor_at}
use Rattle.heap.proofs.monitor.Waiting.{IsPassed}
use Rattle.heap.proofs.monitor.table.position.Given as goal

abbrev pub invariant-loop-at : goal.invariant-loop-at
invariant-loop-at l = IsPassed l.thread (monitor_at l.records l.index).waiters l.at
