-- The ranges of the limits of a run (own).
use Rattle.std.specs.Prelude.{ℕ, ◌≤◌}
use Rattle.model.specs.BuiltInNumbers.{most_threads}

-- a u32 of cells is always in its range
pub record AreLimits (objects monitors threads frames : ℕ) : Type 0 where
  pub objects_fit : objects ≤ 4000000000
  pub monitors_fit : monitors ≤ 8388608
  pub threads_fit : (1 ≤ threads) × (threads ≤ most_threads)
  pub frames_fit : (1 ≤ frames) × (frames ≤ 65535)
