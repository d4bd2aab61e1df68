-- Events that are a thread's own: functions of its stack, which change its stack alone.
use Rattle.std.specs.Prelude.{◌≡◌, ℕ, List, Option, Some, Bool, false, true, slice_get, IsTrue, IsFalse}
use Rattle.std.specs.Option.{option_and_then}
use Rattle.model.specs.declared.event.Event.{Event}
use Rattle.model.specs.declared.value.Value.{Value}
use Rattle.model.specs.Accepted.{IsAccepted}
use Rattle.model.specs.Classes.{Program}
use Rattle.model.specs.ClassInitialisation.{IsReady, look_at}
use Rattle.model.specs.Names.{Name, Member}
use Rattle.model.specs.Run.{run, run_from}
use Rattle.model.specs.State.{types_of, Running, StackOf, World, State}
use Rattle.model.specs.Step.{step}
use Rattle.model.specs.WellTyped.{Extends, IsWellTyped}
use Rattle.model.specs.Worlds.{thread_at, value_in}
use Rattle.run_laws.specs.interleavings.Ends.{Outcome}
use Rattle.run_laws.specs.interleavings.Local.{next_local, with_stack}
use Rattle.run_laws.specs.interleavings.Statements.{IsLeftAlone}
use Rattle.run_laws.specs.searches.Searches.{IsWhole}
use Rattle.search_laws.specs.Alone.{passing, next_event, AreOfOthers, IsAlone, HaveSameWords}
use Rattle.search_laws.specs.KeptStates.{Graph, IsReached}
use Rattle.search_laws.specs.Writes.{Variables, Statics, AreWritesOfOthers, KeepsVariables}
use Rattle.search_laws.specs.Preemptions.{LeavesEnabled}
use Rattle.search_laws.specs.Verdicts.{IsWholeSearch, AreListed}

-- classes that a thread may use, it may use (JVMS 5.5)
abbrev pub KeepsReady : ℕ → World → World → Type 0
KeepsReady t before after = (class : Option Name) → look_at t before class ≡ IsReady → look_at t after class ≡ IsReady

-- and the static fields of such a class have their values, but for what may be written
abbrev pub KeepsStatics : (Variables → Bool) → ℕ → World → World → Type 0
KeepsStatics writes t before after =
    (field : Member) (first : Value) → IsFalse (writes (Statics field)) → look_at t before (Some field.class) ≡ IsReady
    → value_in first field after.statics ≡ value_in first field before.statics

-- The thread stands as it stood, may use the classes that it might, and the objects that were there are there, with their types, and with all but what may be written.
pub record StandsAs (writes : Variables → Bool) (before : State) (t : ℕ) (after : State) : Type 0 where
  pub alone : IsLeftAlone before after t
  pub ready : KeepsReady t before.world after.world
  pub statics : KeepsStatics writes t before.world after.world
  pub types : Extends (types_of before.world.heap) (types_of after.world.heap)
  pub variables : KeepsVariables writes before.world.heap after.world.heap

-- Wherever the thread, which runs, stands as here, and no more is written, it has one event, which leaves it this stack, and all
-- else as it is.
pub record IsOwnEvent (files : Program) (frames : ℕ) (writes : Variables → Bool) (state : State) (t : ℕ) (own : StackOf Value) : Type 0 where
  pub stack : StackOf Value
  pub there : slice_get state.stacks t ≡ Some stack
  pub runs : (thread_at state.world t).status ≡ Running
  pub goes : (later : State) → IsWellTyped files later → StandsAs writes state t later
      → step files frames later (next_event t) ≡ Some (with_stack later t own)
  pub only : (later next : State) (pick : ℕ) → IsWellTyped files later → StandsAs writes state t later
      → step files frames later (record { thread = t; pick = pick }) ≡ Some next → pick ≡ 0

-- behind each run of the others, it is in conflict with none
abbrev pub IsFreeOf : Program → ℕ → (State → ℕ → ℕ → Bool) → State → ℕ → Type 0
IsFreeOf files frames conflict state t =
    (others : List Event) (later : State) → AreOfOthers t others → run_from files frames state others ≡ Some later
    → (u : ℕ) → IsTrue (conflict later t u) → ⊥

-- where the others write no more, a thread's own event is alone, and leaves the others enabled
abbrev pub AreOwnEventsAlone : Type 0
AreOwnEventsAlone =
    (files : List (List ℕ)) (trees : Program) → IsAccepted files trees → (frames : ℕ) (conflict : State → ℕ → ℕ → Bool) (state : State)
    → IsReached trees frames state → (t : ℕ) (own : StackOf Value) (writes : Variables → Bool) → AreWritesOfOthers trees frames writes state t
    → IsOwnEvent trees frames writes state t own → IsFreeOf trees frames conflict state t
    → IsAlone trees frames (passing conflict) (HaveSameWords trees) state t (with_stack state t own)
    × LeavesEnabled trees frames (passing conflict) (HaveSameWords trees) state t

-- a local event is its thread's own
abbrev pub AreLocalEventsOwn : Type 0
AreLocalEventsOwn =
    (files : List (List ℕ)) (trees : Program) → IsAccepted files trees → (frames : ℕ) (state : State) → IsWellTyped trees state
    → (t : ℕ) (own : StackOf Value) (writes : Variables → Bool) → next_local trees state t ≡ Some own → IsOwnEvent trees frames writes state t own

-- ---- searches past local events

abbrev pub no_conflict : State → ℕ → ℕ → Bool
no_conflict state t u = false

-- the states that the schedules lead to, and edges between all of them
abbrev pub graph_of : Program → ℕ → List (List Event) → Graph
graph_of files frames schedules =
    record { kept = λ k. option_and_then (run files frames) (slice_get schedules k); edge = λ node to. true }

-- a search that goes past local events is whole
abbrev pub AreSearchesWhole : Type 0
AreSearchesWhole =
    (files : List (List ℕ)) (trees : Program) → IsAccepted files trees → (frames : ℕ) (schedules : List (List Event)) (outcomes : List Outcome)
    → IsWhole trees frames schedules outcomes
    → IsWholeSearch files trees frames no_conflict (graph_of trees frames schedules) × AreListed trees frames (graph_of trees frames schedules) outcomes
