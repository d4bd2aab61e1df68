-- What is told of the data races of a run that was recorded (JLS 17.4.5).
use Rattle.std.specs.Prelude.{ℕ, Bool, List, IsTrue, IsFalse}
use Rattle.std.specs.Arc.{arc_value}
use Rattle.model.specs.declared.event.Event.{Event}
use Rattle.model.specs.Accepted.{IsAccepted}
use Rattle.model.specs.Classes.{Program}
use Rattle.model.specs.Schedule.{events_of}
use Rattle.data_races.specs.Races.{HasRace}
use Rattle.program_runs.specs.declared.worlds.records.Recorded.{Recorded}
use Rattle.program_runs.specs.worlds.Records.{IsRecorded}
use Rattle.run_races.specs.declared.told_races.Race.{Race}
use Rattle.run_races.specs.named_races.Named.{AreRaces}
use Rattle.race_runs.specs.race_lines.Lines.{AreRaceLines}

-- the record is that of a run of accepted class files
pub record WasRecorded (r : Recorded) : Type 0 where
  pub files : List (List ℕ)
  pub accepted : IsAccepted files (arc_value r.verified)
  pub budget : ℕ
  pub recorded : IsRecorded (arc_value r.verified) r.limits budget (events_of r.schedule) r.report r.end

-- the races of these events, a line for each, and whether there is one
pub record AreRacesTold (trees : Program) (frames : ℕ) (events : List Event) (lines : List ℕ) (has_race : Bool) : Type 0 where
  pub races : List Race
  pub told : AreRaces trees frames events races
  pub spelled : AreRaceLines trees races lines
  pub raced : IsTrue has_race → HasRace trees frames events
  pub free : IsFalse has_race → HasRace trees frames events → ⊥
