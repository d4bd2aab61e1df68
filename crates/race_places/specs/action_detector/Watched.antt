-- What is kept of the actions of a run, and what is told of the next one.
use Rattle.std.specs.Prelude.{◌≡◌, ℕ, List, [], ◌∷◌, ◌++◌, Option, Some, None, Result, Ok, Err, length, slice_get}
use Rattle.data_races.specs.HappensBefore.{IsRace}
use Rattle.race_detection.specs.declared.run_steps.Step.{Step}
use Rattle.race_detection.specs.race_detector.Watched.{DetectorOf, Watches}
use Rattle.race_places.specs.declared.run_actions.RunAction.{RunAction}
use Rattle.race_places.specs.run_actions.Order.{run_order}
use Rattle.race_places.specs.numbering.Numbers.{NumberingOf, Numbers, numbered_step}

pub record ActionDetectorOf : Type 0 where
  pub numbering : NumberingOf
  pub detector : DetectorOf

-- it was told of these actions
pub record WatchesActions (run : List RunAction) (d : ActionDetectorOf) : Type 0 where
  pub steps : List Step
  pub numbers : Numbers run steps d.numbering
  pub watches : Watches steps d.detector

-- an action of the run that races with the next one, by its thread and its event, if there is any
pub record IsEarlier (run : List RunAction) (next : RunAction) (told : Step) : Type 0 where
  pub place : ℕ
  pub earlier : RunAction
  pub at : slice_get run place ≡ Some earlier
  pub thread : told.thread ≡ earlier.thread
  pub event : told.event ≡ earlier.event
  pub race : IsRace run_order (run ++ next ∷ []) place (length run)

abbrev pub TellsAction : List RunAction → RunAction → Option Step → Type 0
TellsAction run next None = (i : ℕ) → IsRace run_order (run ++ next ∷ []) i (length run) → ⊥
TellsAction run next (Some told) = IsEarlier run next told

abbrev pub with_step : {E : Type 0} → Step → Result (Option Step) E → Result (Step × Option Step) E
with_step step (Ok told) = Ok (step, told)
with_step step (Err e) = Err e

-- it was told of the next action, and answers its step; where memory is missing it wasn't
abbrev pub IsActionTold : {E : Type 0} → Result (Step × Option Step) E → List RunAction → RunAction → ActionDetectorOf → Type 0
IsActionTold (Ok told) run next d = (told.0 ≡ numbered_step d.numbering next) × WatchesActions (run ++ next ∷ []) d × TellsAction run next told.1
IsActionTold (Err e) run next d = WatchesActions run d

-- whatever run it was told of before
abbrev pub IsWatchingActions : {E : Type 0} → Result (Step × Option Step) E → RunAction → ActionDetectorOf → ActionDetectorOf → Type 0
IsWatchingActions result next old new = (run : List RunAction) → WatchesActions run old → IsActionTold result run next new
