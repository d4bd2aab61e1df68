-- What a detector has to keep of a run, and what it tells of its next step.
use Rattle.std.specs.Prelude.{◌≡◌, ℕ, ◌<◌, ◌≤◌, ◌⊎◌, ◌↔◌, List, [], ◌∷◌, ◌++◌, Option, Some, None, Result, Ok, Err, length, slice_get, IsFalse}
use Rattle.race_detection.specs.declared.run_steps.Action.{Action}
use Rattle.race_detection.specs.declared.run_steps.Action.TheVariants.{Read, Write}
use Rattle.race_detection.specs.declared.run_steps.Step.{Step}
use Rattle.race_detection.specs.declared.last_accesses.Access.{Access}
use Rattle.data_races.specs.HappensBefore.{HappensBefore, IsRace}
use Rattle.race_detection.specs.run_steps.Synchronization.{left_by, takes, step_order}
use Rattle.race_detection.specs.vector_clocks.Times.{time_in}
use Rattle.race_detection.specs.last_accesses.Accesses.{Has, AccessesOf, accesses_at}

-- what a detector has: of how many steps it was told, clocks of threads and of places, and the last accesses of variables
pub record DetectorOf : Type 0 where
  pub position : ℕ
  pub threads : List (List ℕ)
  pub places : List (List ℕ)
  pub variables : List AccessesOf

abbrev pub accesses_of : DetectorOf → ℕ → AccessesOf
accesses_of d variable = accesses_at d.variables variable

-- ---- what threads know, and what is left at places

-- the step at i is the one at k, or happens before it
abbrev pub IsUpTo : List Step → ℕ → ℕ → Type 0
IsUpTo run i k = (i ≡ k) ⊎ HappensBefore step_order run i k

-- the step at i is up to one of the thread
pub record IsKnownTo (run : List Step) (thread i : ℕ) : Type 0 where
  pub by : ℕ
  pub step : Step
  pub at : slice_get run by ≡ Some step
  pub of_thread : step.thread ≡ thread
  pub up_to : IsUpTo run i by

-- it is up to one that left something at the place, which was not taken away
pub record IsLeftAt (run : List Step) (place i : ℕ) : Type 0 where
  pub by : ℕ
  pub step : Step
  pub at : slice_get run by ≡ Some step
  pub left : left_by step.action ≡ Some place
  pub stays : (k : ℕ) (between : Step) → by < k → slice_get run k ≡ Some between → IsFalse (takes place between.action)
  pub up_to : IsUpTo run i by

-- ---- the last accesses

abbrev pub step_with : Action → Access → Step
step_with action access = record { thread = access.thread; event = access.event; action = action }

-- the last steps of threads that do this action
pub record AreLast (run : List Step) (action : Action) (accesses : List Access) : Type 0 where
  pub stand : (access : Access) → Has accesses access → slice_get run access.position ≡ Some (step_with action access)
  pub last : (i : ℕ) (step : Step) → slice_get run i ≡ Some step → step.action ≡ action
      → (access : Access) × Has accesses access × (access.thread ≡ step.thread) × (i ≤ access.position)

-- ---- a detector that was told of the steps of a run

-- A position that is below the time of its thread, in the clock of a thread or of a place, is known to that thread or left at that place.
-- What a thread knows of itself is not asked of its clock.
pub record Watches (run : List Step) (d : DetectorOf) : Type 0 where
  pub position : d.position ≡ length run
  pub threads : (thread i : ℕ) (step : Step) → slice_get run i ≡ Some step → (step.thread ≡ thread → ⊥)
      → (i < time_in d.threads thread step.thread) ↔ IsKnownTo run thread i
  pub places : (place i : ℕ) (step : Step) → slice_get run i ≡ Some step → (i < time_in d.places place step.thread) ↔ IsLeftAt run place i
  pub threads_bounded : (thread t : ℕ) → time_in d.threads thread t ≤ length run
  pub places_bounded : (place t : ℕ) → time_in d.places place t ≤ length run
  pub reads : (variable : ℕ) → AreLast run (Read variable) (accesses_of d variable).reads
  pub writes : (variable : ℕ) → AreLast run (Write variable) (accesses_of d variable).writes

-- ---- what it tells

-- a step of the run that races with the next one, if there is any
abbrev pub Tells : List Step → Step → Option Step → Type 0
Tells run next None = (i : ℕ) → IsRace step_order (run ++ next ∷ []) i (length run) → ⊥
Tells run next (Some earlier) = (i : ℕ) × (slice_get run i ≡ Some earlier) × IsRace step_order (run ++ next ∷ []) i (length run)

-- it was told of the next step; where memory is missing it wasn't
abbrev pub IsTold : {E : Type 0} → Result (Option Step) E → List Step → Step → DetectorOf → Type 0
IsTold (Ok told) run next d = Watches (run ++ next ∷ []) d × Tells run next told
IsTold (Err e) run next d = Watches run d

-- whatever run the detector was told of before
abbrev pub IsWatching : {E : Type 0} → Result (Option Step) E → Step → DetectorOf → DetectorOf → Type 0
IsWatching result next old new = (run : List Step) → Watches run old → IsTold result run next new
