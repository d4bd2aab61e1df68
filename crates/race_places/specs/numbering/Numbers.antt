-- Actions of a run as steps of a detector: places and variables have numbers, each the place of its key in a list.
use Rattle.std.specs.Prelude.{◌≡◌, ℕ, List, [], ◌∷◌, ◌++◌, Option, Some, None, Bool, true, false, IsTrue, ⊤, Result, Ok, Err, map, slice_get, ◌↔◌}
use Rattle.std.specs.List.{list_any, position_or_len}
use Rattle.race_detection.specs.declared.run_steps.Action.{Action as Numbered}
use Rattle.race_detection.specs.declared.run_steps.Action.TheVariants as numbered
use Rattle.race_detection.specs.declared.run_steps.Step.{Step}
use Rattle.race_detection.specs.run_steps.Synchronization.{step_order}
use Rattle.data_races.specs.HappensBefore.{IsRace}
use Rattle.race_places.specs.declared.run_actions.Variable.{Variable}
use Rattle.race_places.specs.declared.run_actions.Action.{Action}
use Rattle.race_places.specs.declared.run_actions.Action.TheVariants.{Read, Write, Lock, Unlock, Begin, Finish, Start, Interrupt, ClearInterrupt, Wake, FinishInitialisation, FindStarted, FindFinished, FindInterrupted, FindNotInterrupted, FindWoken, FindInitialised}
use Rattle.race_places.specs.declared.run_actions.RunAction.{RunAction}
use Rattle.race_places.specs.declared.run_actions.Key.{Key}
use Rattle.race_places.specs.run_actions.Order.{is_same_key, variable_key, monitor_key, start_key, end_key, interrupts_key, cleared_key, wake_key, initialisation_key, left_by, found_by, taken_by, read_by, written_by, run_order}

-- the keys that have numbers
pub record NumberingOf : Type 0 where
  pub places : List Key
  pub variables : List Key

abbrev pub number_in : List Key → Key → ℕ
number_in keys k = position_or_len (is_same_key k) keys

abbrev pub is_in : List Key → Key → Bool
is_in keys k = list_any (is_same_key k) keys

-- ---- the step of an action

abbrev pub read_in : NumberingOf → Variable → Bool → Numbered
read_in n variable true = numbered.Acquire (number_in n.places (variable_key variable))
read_in n variable false = numbered.Read (number_in n.variables (variable_key variable))

abbrev pub write_in : NumberingOf → Variable → Bool → Numbered
write_in n variable true = numbered.Release (number_in n.places (variable_key variable))
write_in n variable false = numbered.Write (number_in n.variables (variable_key variable))

abbrev pub found_in : NumberingOf → Key → Numbered
found_in n k = numbered.Acquire (number_in n.places k)

abbrev pub left_in : NumberingOf → Key → Numbered
left_in n k = numbered.Release (number_in n.places k)

abbrev pub numbered_action : NumberingOf → Action → Numbered
numbered_action n (Read variable is_volatile) = read_in n variable is_volatile
numbered_action n (Write variable is_volatile) = write_in n variable is_volatile
numbered_action n (Lock object) = found_in n (monitor_key object)
numbered_action n (Unlock object) = left_in n (monitor_key object)
numbered_action n (Begin thread) = found_in n (start_key thread)
numbered_action n (Finish thread) = left_in n (end_key thread)
numbered_action n (Start thread) = left_in n (start_key thread)
numbered_action n (Interrupt thread) = left_in n (interrupts_key thread)
numbered_action n (ClearInterrupt thread) = numbered.Clear (number_in n.places (interrupts_key thread)) (number_in n.places (cleared_key thread))
numbered_action n (Wake thread) = left_in n (wake_key thread)
numbered_action n (FinishInitialisation class) = left_in n (initialisation_key class)
numbered_action n (FindStarted thread) = found_in n (start_key thread)
numbered_action n (FindFinished thread) = found_in n (end_key thread)
numbered_action n (FindInterrupted thread) = found_in n (interrupts_key thread)
numbered_action n (FindNotInterrupted thread) = found_in n (cleared_key thread)
numbered_action n (FindWoken thread) = found_in n (wake_key thread)
numbered_action n (FindInitialised class) = found_in n (initialisation_key class)

abbrev pub numbered_step : NumberingOf → RunAction → Step
numbered_step n a = record { thread = a.thread; event = a.event; action = numbered_action n a.action }

-- ---- keys that have numbers

abbrev pub AreIn : List Key → Option Key → Type 0
AreIn keys None = ⊤
AreIn keys (Some k) = IsTrue (is_in keys k)

-- all that an action asks for has a number
pub record HasNumbers (n : NumberingOf) (action : Action) : Type 0 where
  pub left : AreIn n.places (left_by action)
  pub found : AreIn n.places (found_by action)
  pub taken : AreIn n.places (taken_by action)
  pub read : AreIn n.variables (read_by action)
  pub written : AreIn n.variables (written_by action)

-- numbers that are given stay
pub record IsLonger (old new : NumberingOf) : Type 0 where
  pub places : (more : List Key) × (new.places ≡ old.places ++ more)
  pub variables : (more : List Key) × (new.variables ≡ old.variables ++ more)

-- ---- what is added

-- a key has a number; where memory is missing, nothing changes
abbrev pub IsAdded : {E : Type 0} → Result ℕ E → Key → List Key → List Key → Type 0
IsAdded (Ok number) k old new = (number ≡ number_in new k) × IsTrue (is_in new k) × (more : List Key) × (new ≡ old ++ more)
IsAdded (Err e) k old new = new ≡ old

-- a place has a number
abbrev pub IsPlaceNumber : {E : Type 0} → Result ℕ E → Key → NumberingOf → NumberingOf → Type 0
IsPlaceNumber (Ok number) k old new = (number ≡ number_in new.places k) × IsTrue (is_in new.places k) × IsLonger old new
IsPlaceNumber (Err e) k old new = new ≡ old

-- a place has a number, and it is found or left there
abbrev pub IsPlace : {E : Type 0} → (ℕ → Numbered) → Result Numbered E → Key → NumberingOf → NumberingOf → Type 0
IsPlace step (Ok a) k old new = (a ≡ step (number_in new.places k)) × IsTrue (is_in new.places k) × IsLonger old new
IsPlace step (Err e) k old new = new ≡ old

abbrev pub IsFound : {E : Type 0} → Result Numbered E → Key → NumberingOf → NumberingOf → Type 0
IsFound result k old new = IsPlace numbered.Acquire result k old new

abbrev pub IsLeft : {E : Type 0} → Result Numbered E → Key → NumberingOf → NumberingOf → Type 0
IsLeft result k old new = IsPlace numbered.Release result k old new

-- a variable has a number, and it is read or written
abbrev pub IsVariable : {E : Type 0} → (ℕ → Numbered) → Result Numbered E → Key → NumberingOf → NumberingOf → Type 0
IsVariable step (Ok a) k old new = (a ≡ step (number_in new.variables k)) × IsTrue (is_in new.variables k) × IsLonger old new
IsVariable step (Err e) k old new = new ≡ old

abbrev pub IsRead : {E : Type 0} → Result Numbered E → Key → NumberingOf → NumberingOf → Type 0
IsRead result k old new = IsVariable numbered.Read result k old new

abbrev pub IsWritten : {E : Type 0} → Result Numbered E → Key → NumberingOf → NumberingOf → Type 0
IsWritten result k old new = IsVariable numbered.Write result k old new

-- the step of an action; in any case numbers stay
abbrev pub IsNumbered : {E : Type 0} → Result Numbered E → Action → NumberingOf → NumberingOf → Type 0
IsNumbered (Ok a) action old new = (a ≡ numbered_action new action) × HasNumbers new action × IsLonger old new
IsNumbered (Err e) action old new = IsLonger old new

-- ---- all actions of a run

abbrev pub Has : {A : Type 0} → List A → A → Type 0
Has run a = (k : ℕ) × (slice_get run k ≡ Some a)

-- these are the steps of the actions of a run
pub record Numbers (run : List RunAction) (steps : List Step) (n : NumberingOf) : Type 0 where
  pub steps_are : steps ≡ map (numbered_step n) run
  pub have_numbers : (a : RunAction) → Has run a → HasNumbers n a.action

abbrev pub IsNext : {E : Type 0} → Result Step E → List RunAction → List Step → RunAction → NumberingOf → Type 0
IsNext (Ok step) run steps next n = Numbers (run ++ next ∷ []) (steps ++ step ∷ []) n
IsNext (Err e) run steps next n = Numbers run steps n

-- whatever actions were numbered before
abbrev pub IsNumbering : {E : Type 0} → Result Step E → RunAction → NumberingOf → NumberingOf → Type 0
IsNumbering result next old new = (run : List RunAction) (steps : List Step) → Numbers run steps old → IsNext result run steps next new

-- two steps race exactly where their actions do
abbrev pub AreActionsAlike : Type 0
AreActionsAlike =
    (run : List RunAction) (steps : List Step) (n : NumberingOf) → Numbers run steps n → (i j : ℕ) → IsRace run_order run i j ↔ IsRace step_order steps i j
