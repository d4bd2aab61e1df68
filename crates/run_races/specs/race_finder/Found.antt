-- The races that are told of the actions of a run so far (JLS 17.4.5), where each access goes by its number.
use Rattle.std.specs.Prelude.{◌≡◌, ℕ, List, Option, Some, None, Bool, true, false, slice_get}
use Rattle.data_races.specs.HappensBefore.{IsRace}
use Rattle.race_detection.specs.declared.run_steps.Step.{Step}
use Rattle.race_places.specs.declared.run_actions.Variable.{Variable}
use Rattle.race_places.specs.declared.run_actions.Action.{Action}
use Rattle.race_places.specs.declared.run_actions.Action.TheVariants as action
use Rattle.race_places.specs.declared.run_actions.RunAction.{RunAction}
use Rattle.race_places.specs.run_actions.Order.{run_order}
use Rattle.race_places.specs.action_detector.Watched.{ActionDetectorOf, WatchesActions}
use Rattle.run_races.specs.declared.told_races.Race.{Race}
use Rattle.run_races.specs.labels.Labels.{access_of}
use Rattle.run_races.specs.told_races.Variables.{numbers_of}

-- what an action reads or writes, and whether it writes
abbrev pub accessed : Action → Option (Variable × Bool)
accessed (action.Read variable is_volatile) = Some (variable, false)
accessed (action.Write variable is_volatile) = Some (variable, true)
accessed _ = None

abbrev pub race_by : (first second : RunAction) → Variable → Race
race_by first second variable =
    record { variable = numbers_of variable; first = access_of first.thread first.event; second = access_of second.thread second.event }

-- the race of an action with an earlier step
abbrev pub told_with : Step → RunAction → Variable → Race
told_with earlier second variable =
    record { variable = numbers_of variable; first = access_of earlier.thread earlier.event; second = access_of second.thread second.event }

-- ---- what is told of a run

-- two of its actions race
pub record IsTold (run : List RunAction) (race : Race) : Type 0 where
  pub i : ℕ
  pub j : ℕ
  pub is : IsRace run_order run i j
  pub first : RunAction
  pub at_first : slice_get run i ≡ Some first
  pub second : RunAction
  pub at_second : slice_get run j ≡ Some second
  pub variable : Variable
  pub writes : Bool
  pub accesses : accessed second.action ≡ Some (variable, writes)
  pub told : race ≡ race_by first second variable

-- of this action as the second one, with its variable, a race is told
pub record HasTold (races : List Race) (second : RunAction) (variable : Variable) : Type 0 where
  pub place : ℕ
  pub race : Race
  pub at : slice_get races place ≡ Some race
  pub of_variable : race.variable ≡ numbers_of variable
  pub of_second : race.second ≡ access_of second.thread second.event

-- each race that is told is one of the run, and each action that races with an earlier one has one told
pub record AreTold (run : List RunAction) (races : List Race) : Type 0 where
  pub each : (k : ℕ) (race : Race) → slice_get races k ≡ Some race → IsTold run race
  pub all : (i j : ℕ) → IsRace run_order run i j → (second : RunAction) → slice_get run j ≡ Some second
      → (variable : Variable) (writes : Bool) → accessed second.action ≡ Some (variable, writes) → HasTold races second variable

-- what a finder has been told of
pub record HasWatched (run : List RunAction) (d : ActionDetectorOf) (races : List Race) : Type 0 where
  pub watches : WatchesActions run d
  pub told : AreTold run races
