use Rattle.std.proofs.Common.{◌≡◌, ◌++◌, take}
use Rattle.std.specs.List.{flat_map}
use Rattle.model.specs.Schedule.{entry}
use Rattle.schedule.proofs.write.push_entries.Given as goal

abbrev pub invariant-loop-entry : goal.invariant-loop-entry
invariant-loop-entry l = l.bytes.items ≡ l.fn.bytes.items ++ flat_map entry (take l.entry-index l.entries)
