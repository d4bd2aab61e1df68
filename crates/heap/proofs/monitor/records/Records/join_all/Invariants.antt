use Rattle.std.proofs.Common.{◌≡◌, take, set}
use Rattle.model.specs.Monitors.{monitor_at}
use Rattle.heap.proofs.monitor.records.Records.join_all.Given as goal

abbrev pub invariant-waiters : goal.invariant-waiters
invariant-waiters l = l.self ≡ set l.initial.self l.at (record
    (monitor_at l.initial.self l.at) { waiters = take l.pick (monitor_at l.other l.index).waiters })
