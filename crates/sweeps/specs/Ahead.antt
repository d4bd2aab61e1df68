-- Runs that are done ahead (own).
use Rattle.std.specs.Prelude.{◌≤◌, ◌<◌, ◌+◌, ◌^◌, ℕ, List, IfOk, Result, length, slice_index_or}
use Rattle.std.specs.declared.alloc.AllocError.{AllocError}
use Rattle.program_runs.specs.declared.worlds.records.Recorded.{Recorded}
use Rattle.sweeps.specs.Policies.{IsRunWith, RunsBy}

-- the runs with the seeds from one on, memory aside
abbrev pub AreRunsOf : RunsBy → (seed : ℕ) → List (Result Recorded AllocError) → Type 0
AreRunsOf by seed runs = (i : ℕ) (d : Result Recorded AllocError) → i < length runs → IfOk (slice_index_or runs i d) (IsRunWith by (seed + i))

-- the first of them is that with the next seed, and no seed passes 64 bits
pub record AreAhead (by : RunsBy) (next : ℕ) (ahead : List (Result Recorded AllocError)) : Type 0 where
  pub fit : next + length ahead ≤ 2 ^ 64
  pub are : AreRunsOf by next ahead
