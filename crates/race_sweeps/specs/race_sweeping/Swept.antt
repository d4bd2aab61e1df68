-- What comes of a sweep for a data race (own; JLS 17.4.5).
use Rattle.std.specs.Prelude.{◌≡◌, ◌<◌, ◌≤◌, ◌+◌, ℕ, Bool, true, false, List, [], ◌∷◌, ◌++◌, IsTrue, length}
use Rattle.model.specs.Accepted.{IsAccepted}
use Rattle.model.specs.Classes.{Program}
use Rattle.model.specs.Schedule.{events_of}
use Rattle.data_races.specs.Races.{HasRace}
use Rattle.program_runs.specs.declared.worlds.records.Recorded.{Recorded}
use Rattle.recorded_races.specs.declared.record_races.RecordRaces.{RecordRaces}
use Rattle.recorded_races.specs.record_races.Told.{AreRacesTold}
use Rattle.sweeps.specs.declared.sweeping.SweepEnd.{SweepEnd}
use Rattle.sweeps.specs.declared.sweeping.SweepEnd.TheVariants as ends
use Rattle.sweeps.specs.Policies.{IsRunWith, RunsBy}
use Rattle.sweeps.specs.Shown.{shown_by}
use Rattle.sweeps.specs.Sweeps.{AreRuns}
use Rattle.sweeps.specs.Tallies.{TallyOf, tally_of, with_run}
use Rattle.race_sweeps.specs.declared.race_sweeping.RaceSweep.{RaceSweep}

-- the class files are accepted
abbrev pub AreAccepted : Program → Type 0
AreAccepted trees = (files : List (List ℕ)) × IsAccepted files trees

-- a run has a race
abbrev pub Races : RunsBy → Recorded → Type 0
Races by r = HasRace by.trees by.limits.frames (events_of r.schedule)

abbrev pub NoneRaces : RunsBy → List Recorded → Type 0
NoneRaces by [] = Unit {0}
NoneRaces by (r ∷ runs) = (Races by r → ⊥) × NoneRaces by runs

-- the races of a run are told so
abbrev pub TellsRaces : RunsBy → Recorded → RecordRaces → Type 0
TellsRaces by r told = AreRacesTold by.trees by.limits.frames (events_of r.schedule) told.lines.items told.has_race

-- the run of a seed is done and counted, and its races are told
pub record HasRacedRun (by : RunsBy) (seed : ℕ) (told : RecordRaces) (old new : TallyOf) : Type 0 where
  pub run : Recorded
  pub is : IsRunWith by seed run
  pub counted : new ≡ with_run (shown_by run) (events_of run.schedule) run.report.events seed old
  pub races : TellsRaces by run told

abbrev pub last_end : (has_race : Bool) → SweepEnd
last_end true = ends.Found
last_end false = ends.Done

-- Done: the seed of the last run is the last one, and that run has no race. Found: it has one. A sweep gives up only where it may be
-- stopped, behind a run that has none.
abbrev pub EndsAtRace : SweepEnd → (may_stop : Bool) → (seed last : ℕ) → (HasOne : Type 0) → Type 0
EndsAtRace ends.Done may_stop seed last HasOne = (seed ≡ last) × (HasOne → ⊥)
EndsAtRace ends.Found may_stop seed last HasOne = (seed ≤ last) × HasOne
EndsAtRace ends.GaveUp may_stop seed last HasOne = IsTrue may_stop × (seed < last) × (HasOne → ⊥)

-- There is a run for each seed from the first one up. Of those before the last run none has a race. The tally is that of all, and the lines
-- are those of the races of the last run.
pub record SweepsForRace (by : RunsBy) (may_stop : Bool) (first last : ℕ) (s : RaceSweep) : Type 0 where
  pub before : List Recorded
  pub run : Recorded
  pub are : AreRuns (IsRunWith by) first (before ++ run ∷ [])
  pub none : NoneRaces by before
  pub first_is : s.report.first ≡ first
  pub tally_is : s.report.tally ≡ tally_of first (before ++ run ∷ [])
  pub races : TellsRaces by run s.races
  pub ends : EndsAtRace s.report.end may_stop (first + length before) last (Races by run)
