-- Entries that are joined (own): as few as their events can have.
use Rattle.std.specs.Prelude.{◌≡◌, ◌+◌, ◌-◌, ◌<◌, ◌^◌, ℕ, List, [], ◌∷◌, Option, Some, length, slice_get}
use Rattle.std.specs.List.{AllByRecursion}
use Rattle.model.specs.declared.event.Event.{Event}
use Rattle.model.specs.declared.event.ScheduleEntry.{ScheduleEntry}
use Rattle.model.specs.Schedule.{EntryFits}
use Rattle.schedule.specs.Files.{Recording, ScheduleFile}

-- an entry could stand for this event, too: it is of the same one, which picks nothing, and of fewer than it may be
pub record CanTake (entry : ScheduleEntry) (event : Event) : Type 0 where
  pub same : entry.event ≡ event
  pub plain : event.pick ≡ 0
  pub room : entry.repeat < 2 ^ 32 - 1

-- no two neighbours could be joined: none could stand for an event of the next one, too
abbrev pub AreJoined : List ScheduleEntry → Type 0
AreJoined [] = Unit {0}
AreJoined (first ∷ []) = Unit {0}
AreJoined (first ∷ second ∷ others) = (CanTake first second.event → ⊥) × AreJoined (second ∷ others)

-- each fits a schedule file, and they are joined
pub record AreRuns (entries : List ScheduleEntry) : Type 0 where
  pub each : AllByRecursion EntryFits entries
  pub joined : AreJoined entries

-- a file of these events as they are recorded: in entries that are joined
pub record RecordedFile (bytes : List ℕ) (recorded : Option Recording) (events : List Event) : Type 0 where
  pub file : ScheduleFile bytes recorded events
  pub joined : AreJoined file.entries

-- ---- more events at the end

abbrev pub last_of : List ScheduleEntry → Option ScheduleEntry
last_of entries = slice_get entries (length entries - 1)

-- the last entry could not stand for this event, too
abbrev pub IsApart : List ScheduleEntry → Event → Type 0
IsApart entries event = (last : ScheduleEntry) → last_of entries ≡ Some last → CanTake last event → ⊥

-- with so many more events of this kind the last entry stands for as many as it may
pub record HasRoom (entries : List ScheduleEntry) (event : Event) (n : ℕ) : Type 0 where
  pub last : ScheduleEntry
  pub is : last_of entries ≡ Some last
  pub same : last.event ≡ event
  pub plain : event.pick ≡ 0
  pub full : last.repeat + n ≡ 2 ^ 32 - 1
