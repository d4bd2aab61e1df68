-- The times of clocks, each a list by the numbers of threads.
use Rattle.std.specs.Prelude.{◌≡◌, ℕ, ◌≤◌, List, [], length, max, slice_index, slice_index_or}

-- the time of a thread in the clock of a number; 0 where there is none
abbrev pub time_in : List (List ℕ) → ℕ → ℕ → ℕ
time_in clocks k t = slice_index (slice_index_or clocks k []) t

abbrev pub AreSameTimes : List (List ℕ) → List (List ℕ) → Type 0
AreSameTimes old new = (k t : ℕ) → time_in new k t ≡ time_in old k t

-- the clock of one number has the later times of its own and of others; the rest stays
pub record IsRaised (old new : List (List ℕ)) (k : ℕ) (by : ℕ → ℕ) : Type 0 where
  pub raised : (t : ℕ) → time_in new k t ≡ max (time_in old k t) (by t)
  pub others : (j t : ℕ) → (j ≡ k → ⊥) → time_in new j t ≡ time_in old j t

-- it has one time; the rest stays
pub record IsStamped (old new : List (List ℕ)) (k thread time : ℕ) : Type 0 where
  pub stamped : time_in new k thread ≡ time
  pub rest : (t : ℕ) → (t ≡ thread → ⊥) → time_in new k t ≡ time_in old k t
  pub others : (j t : ℕ) → (j ≡ k → ⊥) → time_in new j t ≡ time_in old j t

-- it has none; the rest stays
pub record IsReset (old new : List (List ℕ)) (k : ℕ) : Type 0 where
  pub reset : (t : ℕ) → time_in new k t ≡ 0
  pub others : (j t : ℕ) → (j ≡ k → ⊥) → time_in new j t ≡ time_in old j t

-- the clock of a number has room for the times of another one
abbrev pub HasRoom : List (List ℕ) → ℕ → List ℕ → Type 0
HasRoom clocks k other = length other ≤ length (slice_index_or clocks k [])

-- there are as many clocks, each with as much room
pub record AreAsLong (old new : List (List ℕ)) : Type 0 where
  pub count : length new ≡ length old
  pub rooms : (k : ℕ) → length (slice_index_or new k []) ≡ length (slice_index_or old k [])
