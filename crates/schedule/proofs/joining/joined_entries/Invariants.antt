use Rattle.std.proofs.Common.{◌≡◌, ◌≤◌, take}
use Rattle.std.specs.Prelude.{vec_len}
use Rattle.model.specs.Schedule.{events_of}
use Rattle.schedule.specs.Joined.{AreRuns}
use Rattle.schedule.proofs.joining.joined_entries.Given as goal

abbrev pub invariant-entries : goal.invariant-entries
invariant-entries l = (events_of l.joined.items ≡ events_of (take l.entry-index l.entries)) × AreRuns l.joined.items × (vec_len l.joined ≤ l.entry-index)
