-- Where the last events of a schedule begin (own).
use Rattle.std.specs.Prelude.{◌≡◌, ◌≤◌, ◌<◌, ◌+◌, ◌-◌, ℕ, List, drop, length, Some, slice_get}
use Rattle.model.specs.declared.event.ScheduleEntry.{ScheduleEntry}
use Rattle.model.specs.Schedule.{events_of}

-- The last so many events are those of the entries from a place on, and so many of the entry before that.
pub record IsSeam (entries : List ScheduleEntry) (last at left : ℕ) : Type 0 where
  pub within : at ≤ length entries
  pub count : left + length (events_of (drop at entries)) ≡ last
  pub before : 0 < left → (entry : ScheduleEntry) × (slice_get entries (at - 1) ≡ Some entry) × (left ≤ entry.repeat) × (0 < at)
