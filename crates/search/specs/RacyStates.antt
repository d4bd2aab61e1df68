-- The first racy state that a search has met (own; JLS 17.4.5).
use Rattle.std.specs.Prelude.{◌≡◌, ◌<◌, ℕ, List, Option, Some, None, Bool, true, false, IsTrue, IsFalse, length}
use Rattle.model.specs.declared.event.Event.{Event}
use Rattle.model.specs.declared.event.ScheduleEntry.{ScheduleEntry}
use Rattle.model.specs.declared.limits.Limits.{Limits}
use Rattle.model.specs.Classes.{Program}
use Rattle.model.specs.Schedule.{events_of}
use Rattle.data_races.specs.Races.{IsRacy}
use Rattle.search.specs.declared.kinds.Kinds.{Kinds}
use Rattle.search.specs.declared.searching.Verdict.{Verdict}
use Rattle.search.specs.declared.searching.Verdict.TheVariants as verdict
use Rattle.search.specs.declared.visiting.SeenStates.{SeenStates}
use Rattle.search.specs.declared.visiting.Visit.{Visit}
use Rattle.search.specs.declared.visiting.Visit.TheVariants as visit
use Rattle.search.specs.States.{StatesOf, IsSchedule}
use Rattle.search.specs.Verdicts.{ComesTo}

-- the one that was told, or else this one, if it is racy
abbrev pub first_race : Option ℕ → (is_racy : Bool) → (number : ℕ) → Option ℕ
first_race (Some first) is_racy number = Some first
first_race None true number = Some number
first_race None false number = None

-- the schedule of this number leads to a racy state
pub record IsRacyAt (trees : Program) (limits : Limits) (s : StatesOf) (number : ℕ) : Type 0 where
  pub within : number < length s.schedules
  pub events : List Event
  pub at : IsSchedule s number events
  pub comes : ComesTo trees limits (IsRacy trees limits.frames) events

-- a race was met exactly where there is such a number
abbrev pub HasRaceAt : Program → Limits → StatesOf → (race : Bool) → Option ℕ → Type 0
HasRaceAt trees limits s race None = IsFalse race
HasRaceAt trees limits s race (Some number) = IsTrue race × IsRacyAt trees limits s number

-- so it is behind a state that was visited
abbrev pub HasRaceAfter : Program → Limits → Visit → StatesOf → SeenStates → Type 0
HasRaceAfter trees limits visit.Visited s visited = HasRaceAt trees limits s visited.seen.kinds.race visited.race
HasRaceAfter trees limits v s visited = Unit {0}

-- ---- what is said

-- a complete answer tells a race where these kinds do
abbrev pub KeepsRace : Kinds → Verdict → Type 0
KeepsRace kinds (verdict.Complete outcomes told) = told.race ≡ kinds.race
KeepsRace kinds v = Unit {0}

-- the number is that of a state
abbrev pub IsNumberIf : StatesOf → Option ℕ → Type 0
IsNumberIf s None = Unit {0}
IsNumberIf s (Some number) = number < length s.schedules

-- where a complete answer tells a race, the number is that of a racy state
abbrev pub TellsRaceAt : Program → Limits → StatesOf → Verdict → Option ℕ → Type 0
TellsRaceAt trees limits s (verdict.Complete outcomes told) race = HasRaceAt trees limits s told.race race
TellsRaceAt trees limits s v race = IsNumberIf s race

-- the schedule of a number, if there is one
abbrev pub IsScheduleIf : StatesOf → Option ℕ → Option (List ScheduleEntry) → Type 0
IsScheduleIf s None schedule = schedule ≡ None
IsScheduleIf s (Some number) schedule = (one : List ScheduleEntry) × (schedule ≡ Some one) × IsSchedule s number (events_of one)

-- a race is told exactly where there is a schedule to a racy state
abbrev pub IsRaceShown : Program → Limits → (race : Bool) → Option (List ScheduleEntry) → Type 0
IsRaceShown trees limits race None = IsFalse race
IsRaceShown trees limits race (Some schedule) = IsTrue race × ComesTo trees limits (IsRacy trees limits.frames) (events_of schedule)

-- so it is beside a complete answer
abbrev pub TellsRace : Program → Limits → Verdict → Option (List ScheduleEntry) → Type 0
TellsRace trees limits (verdict.Complete outcomes told) race = IsRaceShown trees limits told.race race
TellsRace trees limits v race = Unit {0}
