-- What comes of a sweep (own).
use Rattle.std.specs.Prelude.{◌≡◌, ◌≤◌, ◌+◌, ℕ, suc, Bool, true, false, List, [], ◌∷◌, ◌++◌, IsTrue, length}
use Rattle.model.specs.Schedule.{events_of}
use Rattle.program_runs.specs.declared.worlds.records.Recorded.{Recorded}
use Rattle.search.specs.declared.run_outcomes.wanted.Wanted.{Wanted}
use Rattle.sweeps.specs.declared.sweeping.SweepReport.{SweepReport}
use Rattle.sweeps.specs.declared.sweeping.SweepEnd.{SweepEnd}
use Rattle.sweeps.specs.declared.sweeping.SweepEnd.TheVariants as ends
use Rattle.sweeps.specs.Shown.{IsShownWanted, shown_by}
use Rattle.sweeps.specs.Tallies.{TallyOf, tally_of, with_run}

-- one run for each seed from one up
abbrev pub AreRuns : (IsRun : ℕ → Recorded → Type 0) → (seed : ℕ) → List Recorded → Type 0
AreRuns IsRun seed [] = Unit {0}
AreRuns IsRun seed (r ∷ runs) = IsRun seed r × AreRuns IsRun (suc seed) runs

-- a run shows what is wanted
abbrev pub Shows : Wanted → Recorded → Type 0
Shows want r = IsShownWanted want (shown_by r)

abbrev pub NoneShows : Wanted → List Recorded → Type 0
NoneShows want [] = Unit {0}
NoneShows want (r ∷ runs) = (Shows want r → ⊥) × NoneShows want runs

-- the run of a seed is done and counted, and shows what is wanted, or not
pub record HasRun (IsRun : ℕ → Recorded → Type 0) (want : Wanted) (seed : ℕ) (found : Bool) (old new : TallyOf) : Type 0 where
  pub run : Recorded
  pub is : IsRun seed run
  pub counted : new ≡ with_run (shown_by run) (events_of run.schedule) run.report.events seed old
  pub shows : found ≡ true → Shows want run
  pub lacks : found ≡ false → Shows want run → ⊥

abbrev pub last_end : Bool → SweepEnd
last_end true = ends.Found
last_end false = ends.Done

-- Done: there is a run for each seed up to the last, and none shows what is wanted. Found: the last run shows it, and
-- none before it.
-- A sweep gives up only where it may be stopped, behind a run, and no run shows it.
abbrev pub EndsSo : SweepEnd → (may_stop : Bool) → Wanted → (first last : ℕ) → List Recorded → Type 0
EndsSo ends.Done may_stop want first last runs = (first + length runs ≡ suc last) × NoneShows want runs
EndsSo ends.Found may_stop want first last runs = (before : List Recorded) × (r : Recorded) × (runs ≡ before ++ r ∷ [])
    × (first + length before ≤ last) × NoneShows want before × Shows want r
EndsSo ends.GaveUp may_stop want first last runs = IsTrue may_stop × (suc first ≤ first + length runs) × (first + length runs ≤ last) × NoneShows want runs

-- what is told of the runs that there were
pub record Sweeps (IsRun : ℕ → Recorded → Type 0) (may_stop : Bool) (want : Wanted) (first last : ℕ) (s : SweepReport) : Type 0 where
  pub runs : List Recorded
  pub are : AreRuns IsRun first runs
  pub first_is : s.first ≡ first
  pub tally_is : s.tally ≡ tally_of first runs
  pub ends : EndsSo s.end may_stop want first last runs
