-- Races of states (JLS 17.4.5), by the words of a machine.
use Rattle.std.specs.Prelude.{◌≡◌, ◌<◌, ℕ, List, [], ◌∷◌, ◌++◌, Option, Some, None, Bool, true, false, IsTrue, IsFalse, map, not, ◌&&◌, ◌||◌, ◌==◌, slice_get}
use Rattle.std.specs.List.{list_any}
use Rattle.model.specs.declared.event.Event.{Event}
use Rattle.model.specs.Classes.{Program}
use Rattle.model.specs.Run.{run}
use Rattle.model.specs.State.{State}
use Rattle.linked_code.specs.declared.program.LinkedProgram.{LinkedProgram}
use Rattle.machine_state.specs.declared.state.Shared.{Shared}
use Rattle.machine.specs.Machines.{MachineOf}
use Rattle.machine.specs.schedule_runs.Done.{HasDone}
use Rattle.race_places.specs.declared.run_actions.Variable.{Variable}
use Rattle.race_places.specs.declared.run_actions.Variable.TheVariants as variable
use Rattle.race_places.specs.declared.run_actions.Action.{Action}
use Rattle.race_places.specs.declared.run_actions.Action.TheVariants as action
use Rattle.race_places.specs.declared.run_actions.RunAction.{RunAction}
use Rattle.data_races.specs.Races.{IsRacy}
use Rattle.next_accesses.specs.declared.racy_states.Race.{Race}
use Rattle.next_accesses.specs.next_access.Next.{AreAccesses, TellsNext}

-- ---- conflicts (17.4.1)

abbrev pub is_same_variable : Variable → Variable → Bool
is_same_variable (variable.InstanceField object class field) (variable.InstanceField r c f) = (object == r) && ((class == c) && (field == f))
is_same_variable (variable.StaticField class field) (variable.StaticField c f) = (class == c) && (field == f)
is_same_variable (variable.Element array index) (variable.Element r i) = (array == r) && (index == i)
is_same_variable v w = false

abbrev pub writes : Variable → Action → Bool
writes v (action.Write w is_volatile) = is_same_variable v w
writes v other = false

abbrev pub reads : Variable → Action → Bool
reads v (action.Read w is_volatile) = is_same_variable v w
reads v other = false

-- accesses of one variable that is not volatile, at least one of them a write
abbrev pub conflict : Action → Action → Bool
conflict (action.Read v is_volatile) other = not is_volatile && writes v other
conflict (action.Write v is_volatile) other = not is_volatile && (writes v other || reads v other)
conflict a other = false

-- of different threads
abbrev pub do_conflict : RunAction → RunAction → Bool
do_conflict a b = not (a.thread == b.thread) && conflict a.action b.action

-- one of these conflicts with an action, or none does
abbrev pub IsConflictIn : RunAction → List RunAction → Option RunAction → Type 0
IsConflictIn a others None = list_any (do_conflict a) others ≡ false
IsConflictIn a others (Some b) = (k : ℕ) × (slice_get others k ≡ Some b) × (do_conflict a b ≡ true)

-- two of these conflict
pub record IsRaceOf (actions : List RunAction) (race : Race) : Type 0 where
  pub place : ℕ
  pub first : RunAction
  pub at : slice_get actions place ≡ Some first
  pub other_place : ℕ
  pub second : RunAction
  pub other_at : slice_get actions other_place ≡ Some second
  pub do_so : do_conflict first second ≡ true
  pub is : race ≡ record { thread = first.thread; access = first.action; other = second.thread; other_access = second.action }

-- or no two do
abbrev pub IsRaceIn : List RunAction → Option Race → Type 0
IsRaceIn actions None = list_any (λ a. list_any (do_conflict a) actions) actions ≡ false
IsRaceIn actions (Some race) = IsRaceOf actions race

-- ---- what the next events of the first threads read and write, of so many

abbrev pub next_of : (t : ℕ) → Action → RunAction
next_of t a = record { thread = t; event = 0; action = a }

abbrev pub with_accesses : (t : ℕ) → List Action → List RunAction → List RunAction
with_accesses t told found = found ++ map (next_of t) told

-- an access is among those that are told of a thread
pub record IsNext (trees : Program) (p : LinkedProgram) (shared : Shared) (t : ℕ) (a : Action) : Type 0 where
  pub told : List Action
  pub tells : TellsNext trees p shared t told
  pub place : ℕ
  pub at : slice_get told place ≡ Some a

-- what was found of a thread
pub record IsFound (trees : Program) (p : LinkedProgram) (shared : Shared) (found : List RunAction) (t : ℕ) : Type 0 where
  pub told : List Action
  pub tells : TellsNext trees p shared t told
  pub among : (k : ℕ) (a : Action) → slice_get told k ≡ Some a → (j : ℕ) × (slice_get found j ≡ Some (next_of t a))

pub record AreNext (trees : Program) (p : LinkedProgram) (shared : Shared) (threads : ℕ) (found : List RunAction) : Type 0 where
  pub each : (k : ℕ) (a : RunAction) → slice_get found k ≡ Some a → (a.thread < threads) × IsNext trees p shared a.thread a.action
  pub all : (t : ℕ) → t < threads → IsFound trees p shared found t

-- ---- states

-- of the state to which the events led that a machine has done: true exactly where something holds there
abbrev pub TellsState : Program → MachineOf → (Program → ℕ → State → Type 0) → Bool → Type 0
TellsState trees m Holds told =
    (files : List (List ℕ)) (events : List Event) (state : State) → HasDone m files trees events → run trees m.limits.frames events ≡ Some state
    → (IsTrue told → Holds trees m.limits.frames state) × (IsFalse told → Holds trees m.limits.frames state → ⊥)

-- the next event of a thread does an access
pub record DoesAccess (trees : Program) (frames : ℕ) (state : State) (t : ℕ) (a : Action) : Type 0 where
  pub told : List Action
  pub are : AreAccesses trees frames state t told
  pub place : ℕ
  pub at : slice_get told place ≡ Some a

-- the next events of two threads do these accesses, which conflict, and the state is racy
pub record IsRaceAt (trees : Program) (frames : ℕ) (state : State) (race : Race) : Type 0 where
  pub racy : IsRacy trees frames state
  pub these : DoesAccess trees frames state race.thread race.access
  pub others : DoesAccess trees frames state race.other race.other_access
  pub do_so : do_conflict (next_of race.thread race.access) (next_of race.other race.other_access) ≡ true

-- or it is not racy
abbrev pub IsRaceIf : Program → ℕ → State → Option Race → Type 0
IsRaceIf trees frames state None = IsRacy trees frames state → ⊥
IsRaceIf trees frames state (Some race) = IsRaceAt trees frames state race

abbrev pub TellsRace : Program → MachineOf → Option Race → Type 0
TellsRace trees m told =
    (files : List (List ℕ)) (events : List Event) (state : State) → HasDone m files trees events → run trees m.limits.frames events ≡ Some state
    → IsRaceIf trees m.limits.frames state told
