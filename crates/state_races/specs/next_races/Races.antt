-- The data race of a state (JLS 17.4.5), told with the places in code of its accesses.
use Rattle.std.specs.Prelude.{◌≡◌, ℕ, List, Option, Some, None, IsTrue, slice_get}
use Rattle.model.specs.declared.event.Event.{Event}
use Rattle.model.specs.Classes.{Program}
use Rattle.model.specs.Run.{run}
use Rattle.model.specs.State.{State}
use Rattle.data_races.specs.Actions.{conflicts}
use Rattle.data_races.specs.EventActions.{actions_of}
use Rattle.data_races.specs.Races.{IsRacy}
use Rattle.data_races.specs.Variables as variables
use Rattle.machine.specs.Machines.{MachineOf}
use Rattle.machine.specs.schedule_runs.Done.{HasDone}
use Rattle.race_places.specs.declared.run_actions.Variable.{Variable}
use Rattle.race_places.specs.named_actions.Names.{named_variable}
use Rattle.field_names.specs.named_fields.Fields.{names_of}
use Rattle.run_races.specs.declared.told_races.Race.{Race}
use Rattle.run_races.specs.declared.told_races.RaceAccess.{RaceAccess}
use Rattle.run_races.specs.named_races.Named.{StandsAt, access_action}
use Rattle.run_races.specs.told_races.Variables.{numbers_of}

-- the next event of a thread is enabled with pick 0 and does this access of a variable; its instruction stands there
pub record IsNextAccess (trees : Program) (frames : ℕ) (state : State) (variable : variables.Variable) (told : RaceAccess) : Type 0 where
  pub place : ℕ
  pub at : slice_get (actions_of trees frames state (record { thread = told.thread; pick = 0 })) place ≡ Some (access_action told.is_write variable)
  pub stands : StandsAt trees state told.thread told.method told.offset

-- the next events of two threads do accesses of the variable that conflict (17.4.1)
pub record IsRaceOfState (trees : Program) (frames : ℕ) (state : State) (race : Race) : Type 0 where
  pub of : Variable
  pub variable_is : race.variable ≡ numbers_of of
  pub first : IsNextAccess trees frames state (named_variable (names_of trees) of) race.first
  pub second : IsNextAccess trees frames state (named_variable (names_of trees) of) race.second
  pub apart : race.first.thread ≡ race.second.thread → ⊥
  pub conflict :
      IsTrue (conflicts trees (access_action race.first.is_write (named_variable (names_of trees) of)) (access_action race.second.is_write (named_variable (names_of trees) of)))

-- one is told exactly where the state is racy
abbrev pub IsRaceOfStateIf : Program → (frames : ℕ) → State → Option Race → Type 0
IsRaceOfStateIf trees frames state None = IsRacy trees frames state → ⊥
IsRaceOfStateIf trees frames state (Some race) = IsRaceOfState trees frames state race

-- of the state to which the events led that a machine has done
abbrev pub TellsRaceOfState : Program → MachineOf → Option Race → Type 0
TellsRaceOfState trees m told =
    (files : List (List ℕ)) (events : List Event) (state : State) → HasDone m files trees events → run trees m.limits.frames events ≡ Some state
    → IsRaceOfStateIf trees m.limits.frames state told
