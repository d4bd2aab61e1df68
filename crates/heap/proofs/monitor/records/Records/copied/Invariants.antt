use Rattle.std.proofs.Common.{◌≡◌, take}
use Rattle.heap.proofs.monitor.records.Records.copied.Given as goal

abbrev pub invariant-records : goal.invariant-records
invariant-records l = l.copy ≡ take l.index l.other
