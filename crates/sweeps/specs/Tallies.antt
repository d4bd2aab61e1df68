-- What runs have shown, and how often (own).
use Rattle.std.specs.Prelude.{◌≡◌, ◌<◌, ◌≤◌, ◌+◌, ◌*◌, ◌-◌, ◌^◌, ℕ, List, [], ◌∷◌, ◌++◌, cond, length, map, slice_index_or, slice_set, sum_by}
use Rattle.model.specs.declared.event.Event.{Event}
use Rattle.model.specs.Schedule.{events_of}
use Rattle.program_runs.specs.declared.worlds.records.Recorded.{Recorded}
use Rattle.sweeps.specs.declared.same_runs.SameRuns.{SameRuns}
use Rattle.sweeps.specs.Firsts.{First, firsts}
use Rattle.sweeps.specs.Shown.{Shown, is_same_shown, show_same, shown_by, shown_in}

-- what some runs show, how many they are, the seed of the first of them, and its events
pub record Same : Type 0 where
  pub shown : Shown
  pub count : ℕ
  pub first : ℕ
  pub events : List Event

abbrev pub same_in : SameRuns → Same
same_in s = record { shown = shown_in s.shown; count = s.count; first = s.first; events = events_of s.schedule }

-- of those that show the same as a run, which is the first of them
abbrev pub same_as : First Recorded → Same
same_as f = record { shown = shown_by f.run; count = f.count; first = f.seed; events = events_of f.run.schedule }

-- what all show, how many runs there were, and how many events in all
pub record TallyOf : Type 0 where
  pub same : List Same
  pub runs : ℕ
  pub events : ℕ

-- Of runs with the seeds from one up: what they show, by the first seed that shows it, each with how often it is shown.
abbrev pub tally_of : (seed : ℕ) → List Recorded → TallyOf
tally_of seed runs = record {
  same = map same_as (firsts show_same seed runs);
  runs = length runs;
  events = sum_by (λ (r : Recorded). r.report.events) runs;
}

-- ---- one run more

abbrev pub empty : TallyOf
empty = record { same = []; runs = 0; events = 0 }

-- it is one of those that show the same, or shows what none did
abbrev pub with_one_more : Shown → List Event → (seed : ℕ) → List Same → List Same
with_one_more shown events seed [] = record { shown = shown; count = 1; first = seed; events = events } ∷ []
with_one_more shown events seed (s ∷ others) =
    cond (is_same_shown shown s.shown) (record s { count = s.count + 1 } ∷ others) (s ∷ with_one_more shown events seed others)

abbrev pub with_run : Shown → List Event → (count seed : ℕ) → TallyOf → TallyOf
with_run shown events count seed t = record {
  same = with_one_more shown events seed t.same;
  runs = t.runs + 1;
  events = t.events + count;
}

-- one of those at a place is counted once more
abbrev pub IsCountedAt : (at : ℕ) → (old new : List SameRuns) → Type 0
IsCountedAt at old new = (s : SameRuns) → s ≡ slice_index_or old at s → new ≡ slice_set old at (record s { count = s.count + 1 })

-- ---- numbers are in range

abbrev pub AreFew : (most : ℕ) → List Same → Type 0
AreFew most [] = Unit {0}
AreFew most (s ∷ others) = (s.count ≤ most) × AreFew most others

pub record HasRoom (t : TallyOf) : Type 0 where
  pub runs : t.runs ≤ 2 ^ 64
  pub counts : AreFew t.runs t.same
  pub events : t.events ≤ t.runs * (2 ^ 64 - 1)
