-- Entries of schedules that are tried (own).
use Rattle.std.specs.Prelude.{◌≡◌, ◌+◌, ◌<◌, ℕ, List, slice_index_or}
use Rattle.std.specs.List.{insert, remove}
use Rattle.model.specs.declared.event.Event.{Event}
use Rattle.model.specs.declared.event.ScheduleEntry.{ScheduleEntry}
use Rattle.model.specs.Schedule.{events_of}

-- the events of the same entries, with the one of a place behind that of another one
pub record IsMovedBehind (moved to : ℕ) (entries : List ScheduleEntry) (events : List Event) : Type 0 where
  pub entry : ScheduleEntry
  pub is : entry ≡ slice_index_or entries moved entry
  pub events_are : events ≡ events_of (insert (remove entries moved) (to + 1) entry)

-- with it behind one of those before it
abbrev pub IsGathered : (moved : ℕ) → List ScheduleEntry → List Event → Type 0
IsGathered moved entries events = (to : ℕ) × (to < moved) × IsMovedBehind moved to entries events
