-- The races that are told of a run of class files (JLS 17.4.5), each with the places in code of its accesses.
use Rattle.std.specs.Prelude.{◌≡◌, ℕ, List, [], ◌∷◌, ◌++◌, Some, Bool, true, false, map, length, slice_get}
use Rattle.model.specs.declared.event.Event.{Event}
use Rattle.model.specs.declared.value.Value.{Value}
use Rattle.model.specs.Classes.{Program}
use Rattle.model.specs.Run.{run}
use Rattle.model.specs.State as model
use Rattle.model.specs.State.{Frame, StackOf, State}
use Rattle.model.specs.Step.{step}
use Rattle.linked_code.specs.Numbers.{IsMethodAt}
use Rattle.data_races.specs.Actions as named
use Rattle.data_races.specs.Variables as variables
use Rattle.data_races.specs.EventActions.{actions_of}
use Rattle.data_races.specs.HappensBefore.{IsRace}
use Rattle.data_races.specs.Races.{ActionOfRun, actions_of_run, memory_order}
use Rattle.race_places.specs.declared.run_actions.Variable.{Variable}
use Rattle.race_places.specs.declared.run_actions.Action.{Action}
use Rattle.race_places.specs.declared.run_actions.RunAction.{RunAction}
use Rattle.race_places.specs.named_actions.Names.{AreApart, IsRight, named_variable, named_action}
use Rattle.field_names.specs.named_fields.Fields.{names_of}
use Rattle.run_races.specs.declared.told_races.Race.{Race}
use Rattle.run_races.specs.declared.told_races.RaceAccess.{RaceAccess}
use Rattle.run_races.specs.declared.told_races.RacedVariable.{RacedVariable}
use Rattle.run_races.specs.labels.Labels.{access_of}
use Rattle.run_races.specs.race_finder.Found.{accessed, AreTold}
use Rattle.run_races.specs.told_races.Variables.{numbers_of}

-- ---- where an access stood

-- the frame on top of a thread's stack stands at this offset of the method of this number
pub record StandsAt (trees : Program) (state : State) (t method offset : ℕ) : Type 0 where
  pub frame : Frame
  pub rest : StackOf Value
  pub stack : slice_get state.stacks t ≡ Some (model.Invocation frame ∷ rest)
  pub numbered : IsMethodAt trees method frame.method
  pub offset_is : offset ≡ frame.place.offset

-- in the state to which the events before it led, the thread of an event stood there
pub record StoodAt (trees : Program) (frames : ℕ) (events : List Event) (number t method offset : ℕ) : Type 0 where
  pub before : List Event
  pub event : Event
  pub left : List Event
  pub events_are : events ≡ before ++ event ∷ left
  pub count : number ≡ length before
  pub thread : event.thread ≡ t
  pub state : State
  pub reached : run trees frames before ≡ Some state
  pub stands : StandsAt trees state t method offset

-- ---- the actions of a run

-- an access by whose number it writes or not, and where it stood
pub record IsLabelled (trees : Program) (frames : ℕ) (events : List Event) (of : ActionOfRun) (writes : Bool) (told : RaceAccess) : Type 0 where
  pub is_write : told.is_write ≡ writes
  pub stood : StoodAt trees frames events of.event of.thread told.method told.offset

-- an action by numbers is one of the run, its number in the place of that of its event
pub record IsOfRun (trees : Program) (frames : ℕ) (events : List Event) (a : RunAction) (of : ActionOfRun) : Type 0 where
  pub thread : a.thread ≡ of.thread
  pub action : named_action (names_of trees) a.action ≡ of.action
  pub right : IsRight (names_of trees) trees a.action
  pub labelled : (variable : Variable) (writes : Bool) → accessed a.action ≡ Some (variable, writes) → IsLabelled trees frames events of writes (access_of a.thread a.event)

-- and so is each
abbrev pub AreAlike : Program → ℕ → List Event → List RunAction → List ActionOfRun → Type 0
AreAlike trees frames events [] [] = Unit {0}
AreAlike trees frames events [] (of ∷ more) = ⊥
AreAlike trees frames events (a ∷ run) [] = ⊥
AreAlike trees frames events (a ∷ run) (of ∷ more) = IsOfRun trees frames events a of × AreAlike trees frames events run more

abbrev pub AreOfRun : Program → ℕ → List Event → List RunAction → Type 0
AreOfRun trees frames events run = AreAlike trees frames events run (actions_of_run trees frames events)

-- ---- the races of a run

abbrev pub access_action : (is_write : Bool) → variables.Variable → named.Action
access_action true variable = named.Write variable
access_action false variable = named.Read variable

-- an action of a run is the access of a variable that is told
pub record IsAccess (trees : Program) (frames : ℕ) (events : List Event) (k : ℕ) (variable : RacedVariable) (told : RaceAccess) : Type 0 where
  pub action : ActionOfRun
  pub at : slice_get (actions_of_run trees frames events) k ≡ Some action
  pub thread : told.thread ≡ action.thread
  pub of : Variable
  pub variable_is : variable ≡ numbers_of of
  pub accesses : action.action ≡ access_action told.is_write (named_variable (names_of trees) of)
  pub stood : StoodAt trees frames events action.event action.thread told.method told.offset

-- two accesses of a run that race
pub record IsRaceOf (trees : Program) (frames : ℕ) (events : List Event) (race : Race) : Type 0 where
  pub i : ℕ
  pub j : ℕ
  pub is : IsRace (memory_order trees) (actions_of_run trees frames events) i j
  pub first : IsAccess trees frames events i race.variable race.first
  pub second : IsAccess trees frames events j race.variable race.second

-- of an access as the second one of a race
pub record IsSecondOf (trees : Program) (frames : ℕ) (events : List Event) (told : List Race) (j : ℕ) : Type 0 where
  pub place : ℕ
  pub race : Race
  pub at : slice_get told place ≡ Some race
  pub second : IsAccess trees frames events j race.variable race.second

-- each race that is told is one of the run; and each access that races with an earlier one, so each variable that has a race, has one told
pub record AreRaces (trees : Program) (frames : ℕ) (events : List Event) (told : List Race) : Type 0 where
  pub each : (k : ℕ) (race : Race) → slice_get told k ≡ Some race → IsRaceOf trees frames events race
  pub all : (i j : ℕ) → IsRace (memory_order trees) (actions_of_run trees frames events) i j → IsSecondOf trees frames events told j

abbrev pub AreRacesNamed : Type 0
AreRacesNamed =
    (trees : Program) (frames : ℕ) (events : List Event) → AreApart (names_of trees) → (run : List RunAction) → AreOfRun trees frames events run
    → (told : List Race) → AreTold run told → AreRaces trees frames events told

-- ---- one more event

abbrev pub numbered_in : (t : ℕ) → (Action → ℕ) → Action → RunAction
numbered_in t label a = record { thread = t; event = label a; action = a }

-- the actions of an event, by the names of the class files, with numbers that tell where it stands
pub record AreOfEvent (trees : Program) (frames : ℕ) (state : State) (event : Event) (label : Action → ℕ) (told : List Action) : Type 0 where
  pub are : map (named_action (names_of trees)) told ≡ actions_of trees frames state event
  pub right : (k : ℕ) (a : Action) → slice_get told k ≡ Some a → IsRight (names_of trees) trees a
  pub labelled : (k : ℕ) (a : Action) → slice_get told k ≡ Some a → (variable : Variable) (writes : Bool) → accessed a ≡ Some (variable, writes)
      → let access = access_of event.thread (label a) in
      (access.is_write ≡ writes) × StandsAt trees state event.thread access.method access.offset

abbrev pub AreActionsAdded : Type 0
AreActionsAdded =
    (trees : Program) (frames : ℕ) (events : List Event) (state : State) → run trees frames events ≡ Some state
    → (event : Event) (next : State) → step trees frames state event ≡ Some next
    → (told : List RunAction) → AreOfRun trees frames events told
    → (label : Action → ℕ) (actions : List Action) → AreOfEvent trees frames state event label actions
    → AreOfRun trees frames (events ++ event ∷ []) (told ++ map (numbered_in event.thread label) actions)
