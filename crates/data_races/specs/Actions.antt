-- Actions (JLS 17.4.2), and which of them synchronize (17.4.4, 12.4.2).
use Rattle.std.specs.Prelude.{ℕ, Bool, false, not, ◌&&◌, ◌||◌, ◌==◌}
use Rattle.model.specs.Names.{Name, name_eq}
use Rattle.model.specs.Classes.{Program}
use Rattle.data_races.specs.Variables.{Variable, is_same_variable, is_volatile}

pub data Action : Type 0 where
  Read : (variable : Variable) → Action
  Write : (variable : Variable) → Action
  -- a monitor, by its object (17.1); an entry or exit that only changes the count is no action
  Lock : (object : ℕ) → Action
  Unlock : (object : ℕ) → Action
  -- the first action of a thread, and the last one
  Begin : (thread : ℕ) → Action
  Finish : (thread : ℕ) → Action
  Start : (thread : ℕ) → Action
  Interrupt : (thread : ℕ) → Action
  -- the status of a thread that was interrupted is cleared (17.2.3)
  ClearInterrupt : (thread : ℕ) → Action
  -- the last action of a thread wakes another one that waits on its Thread object
  Wake : (thread : ℕ) → Action
  -- a class is initialised or erroneous from here on (12.4.2)
  FinishInitialisation : (class : Name) → Action
  -- what an event finds of a thread or of a class: that it was started, has ended, was interrupted, is not interrupted, was woken, is done
  FindStarted : (thread : ℕ) → Action
  FindFinished : (thread : ℕ) → Action
  FindInterrupted : (thread : ℕ) → Action
  FindNotInterrupted : (thread : ℕ) → Action
  FindWoken : (thread : ℕ) → Action
  FindInitialised : (class : Name) → Action

-- ---- synchronizes-with

abbrev pub is_lock : ℕ → Action → Bool
is_lock object (Lock other) = object == other
is_lock object _ = false

abbrev pub is_read : Variable → Action → Bool
is_read variable (Read other) = is_same_variable variable other
is_read variable _ = false

abbrev pub finds_started : ℕ → Action → Bool
finds_started thread (Begin other) = thread == other
finds_started thread (FindStarted other) = thread == other
finds_started thread _ = false

abbrev pub finds_finished : ℕ → Action → Bool
finds_finished thread (FindFinished other) = thread == other
finds_finished thread _ = false

abbrev pub finds_interrupted : ℕ → Action → Bool
finds_interrupted thread (FindInterrupted other) = thread == other
finds_interrupted thread _ = false

abbrev pub finds_not_interrupted : ℕ → Action → Bool
finds_not_interrupted thread (FindNotInterrupted other) = thread == other
finds_not_interrupted thread _ = false

abbrev pub finds_woken : ℕ → Action → Bool
finds_woken thread (FindWoken other) = thread == other
finds_woken thread _ = false

abbrev pub finds_initialised : Name → Action → Bool
finds_initialised class (FindInitialised other) = name_eq class other
finds_initialised class _ = false

-- An action synchronizes-with a later one: an unlock with each lock of the same monitor, a write of a volatile variable with each read
-- of it, the start of a thread with its first action, its last action with each that finds it ended, an interrupt with each that finds it,
-- and (12.4.2) the end of an initialisation with each that finds the class done. Own, since each is asked for by what a thread sees of
-- another: the start of a thread with each that finds it started, a cleared interrupt with each that finds the status cleared, and
-- the last action of a thread with the return of a wait that it ended.
abbrev pub synchronizes : Program → Action → Action → Bool
synchronizes files (Unlock object) later = is_lock object later
synchronizes files (Write variable) later = is_volatile files variable && is_read variable later
synchronizes files (Start thread) later = finds_started thread later
synchronizes files (Finish thread) later = finds_finished thread later
synchronizes files (Interrupt thread) later = finds_interrupted thread later
synchronizes files (ClearInterrupt thread) later = finds_not_interrupted thread later
synchronizes files (Wake thread) later = finds_woken thread later
synchronizes files (FinishInitialisation class) later = finds_initialised class later
synchronizes files _ later = false

-- an interrupt is found until the status is cleared
abbrev pub is_clear_of : ℕ → Action → Bool
is_clear_of thread (ClearInterrupt other) = thread == other
is_clear_of thread _ = false

abbrev pub takes_away : Action → Action → Bool
takes_away (Interrupt thread) between = is_clear_of thread between
takes_away _ between = false

-- ---- conflicts (17.4.1)

abbrev pub is_write : Variable → Action → Bool
is_write variable (Write other) = is_same_variable variable other
is_write variable _ = false

-- accesses of one variable that is not volatile, at least one of them a write
abbrev pub conflicts : Program → Action → Action → Bool
conflicts files (Read variable) other = not (is_volatile files variable) && is_write variable other
conflicts files (Write variable) other = not (is_volatile files variable) && (is_write variable other || is_read variable other)
conflicts files _ other = false
