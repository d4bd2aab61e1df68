-- The order of the actions of a run (JLS 17.4.3 to 17.4.5), over any kind of actions. An action is meant by its place in the run,
-- counted from 0.
use Rattle.std.specs.Prelude.{◌≡◌, ℕ, ◌<◌, List, Some, Bool, slice_get, IsTrue, IsFalse}

-- what is asked of two actions of a run, of which the second one comes later
pub record Relations (A : Type 0) : Type 0 where
  -- actions of one thread
  pub is_of_one_thread : A → A → Bool
  -- the first one synchronizes-with the second one (17.4.4), unless an action between them ..
  pub synchronizes : A → A → Bool
  -- .. takes away what the first one left to be found
  pub takes_away : A → A → Bool
  -- accesses that conflict (17.4.1), neither of them a synchronization action
  pub conflict : A → A → Bool

-- two actions of a run, the second one later in it
pub record Pair {A : Type 0} (run : List A) (i j : ℕ) : Type 0 where
  pub first : A
  pub second : A
  pub earlier : i < j
  pub at_first : slice_get run i ≡ Some first
  pub at_second : slice_get run j ≡ Some second

-- program order (17.4.3)
pub record IsProgramOrdered {A : Type 0} (R : Relations A) (run : List A) (i j : ℕ) : Type 0 where
  pub pair : Pair run i j
  pub same : IsTrue (R.is_of_one_thread pair.first pair.second)

-- 17.4.4; the synchronization order is the order of the run
pub record SynchronizesWith {A : Type 0} (R : Relations A) (run : List A) (i j : ℕ) : Type 0 where
  pub pair : Pair run i j
  pub synchronizes : IsTrue (R.synchronizes pair.first pair.second)
  pub stays : (k : ℕ) (between : A) → i < k → k < j → slice_get run k ≡ Some between → IsFalse (R.takes_away pair.first between)

-- the transitive closure of both (17.4.5)
pub data HappensBefore {A : Type 0} (R : Relations A) (run : List A) : ℕ → ℕ → Type 0 where
  InProgramOrder : (i j : ℕ) → IsProgramOrdered R run i j → HappensBefore R run i j
  Synchronized : (i j : ℕ) → SynchronizesWith R run i j → HappensBefore R run i j
  Through : (i k j : ℕ) → HappensBefore R run i k → HappensBefore R run k j → HappensBefore R run i j

-- a data race: two conflicting accesses that happens-before does not order (17.4.5)
pub record IsRace {A : Type 0} (R : Relations A) (run : List A) (i j : ℕ) : Type 0 where
  pub pair : Pair run i j
  pub conflict : IsTrue (R.conflict pair.first pair.second)
  pub unordered : HappensBefore R run i j → ⊥
