use Rattle.std.proofs.Common.{◌≡◌, ◌*◌, ◌≤◌, length, take}
use Rattle.model.specs.Schedule.{events_of}
use Rattle.schedule.proofs.runs.Schedule.count.Given as goal

abbrev pub invariant-entries : goal.invariant-entries
invariant-entries l = (l.count ≡ length (events_of (take l.entry-index l.self))) × (l.count ≤ l.entry-index * 4294967295)
