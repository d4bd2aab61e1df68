-- The actions of an event that is done (JLS 17.4.2), by what was known before it and by the words of a machine after it.
use Rattle.std.specs.Prelude.{◌≡◌, ℕ, List, ◌++◌, Option, Some, Bool, map, length, slice_get}
use Rattle.model.specs.declared.event.Event.{Event}
use Rattle.model.specs.declared.value.Value.{Value}
use Rattle.model.specs.Classes.{Program}
use Rattle.model.specs.LimitStands.{Bounds}
use Rattle.model.specs.Operands.{values}
use Rattle.model.specs.Outcomes.{Cost}
use Rattle.model.specs.State.{Monitor, StackOf, World, State}
use Rattle.model.specs.Step.{Next, stepped}
use Rattle.model.specs.Worlds.{thread_at, waiters_of}
use Rattle.linked_code.specs.declared.program.LinkedProgram.{LinkedProgram}
use Rattle.thread_stacks.specs.Stacks.{ShownEntry}
use Rattle.machine_state.specs.declared.state.Shared.{Shared}
use Rattle.race_places.specs.declared.run_actions.Action.{Action}
use Rattle.race_places.specs.named_actions.Names.{Names, named_action}
use Rattle.data_races.specs.Actions as named
use Rattle.data_races.specs.EventActions.{actions_of, clear_actions, started}
use Rattle.table_actions.specs.tables.Owners.{OwnsTheRest, WasOwner, TellsLocks, TellsUnlocks}
use Rattle.table_actions.specs.tables.Told.{MayStartOne, all_found, listed}
pub use Rattle.next_accesses.specs.next_access.Added.{Adds}
use Rattle.next_accesses.specs.next_access.Next.{IsReached, AreAccesses}
use Rattle.state_actions.specs.changed_monitors.Changed.{ChangesMonitor}
use Rattle.state_actions.specs.class_ends.Classes.{FinishesClass}
use Rattle.state_actions.specs.declared.changed_monitors.MonitorBefore.{MonitorBefore}
use Rattle.state_actions.specs.wait_ends.Ends.{threads_of}
use Rattle.race_actions.specs.declared.event_actions.EventActions.{EventActions}
use Rattle.race_actions.specs.declared.looking.EventBefore.{EventBefore}
use Rattle.race_actions.specs.looking.Known.{IsKnown, KnowsEvent, AreAllRight, names_given}

-- ---- before the event

-- of a thread that is there
abbrev pub KnowsThread : Program → LinkedProgram → Shared → (t : ℕ) → Option EventBefore → Type 0
KnowsThread trees p shared t told =
    (stack : List ShownEntry) → slice_get shared.stacks.items t ≡ Some stack → (before : EventBefore) × (told ≡ Some before) × KnowsEvent trees p shared t stack before

-- it was looked at the next event of a thread, in a state that was reached
pub record HasLooked (trees : Program) (bounds : Bounds) (state : State) (t : ℕ) (e : EventActions) : Type 0 where
  pub before : EventBefore
  pub is : e.before ≡ Some before
  pub known : IsKnown trees bounds.frames state t before
  pub accesses : AreAccesses trees bounds.frames state t e.accesses.items
  pub waiting : e.waiting.items ≡ threads_of (waiters_of state.world (thread_at state.world t).object)
  pub p : LinkedProgram
  pub shared : Shared
  pub reached : IsReached trees p bounds shared state

abbrev pub LooksAt : Program → LinkedProgram → Shared → (t : ℕ) → EventActions → Type 0
LooksAt trees p shared t e =
    (bounds : Bounds) (state : State) (own : StackOf Value) → IsReached trees p bounds shared state → slice_get state.stacks t ≡ Some own
    → HasLooked trees bounds state t e

-- ---- parts of what is told

abbrev pub found_in : EventBefore → List Action
found_in before = listed before.found_class ++ all_found before.finds

-- the lock and the unlock, and the accesses between them
pub record AreLocked (t : ℕ) (monitors : List Monitor) (stack : List ShownEntry) (before : EventBefore) (accesses told : List Action) : Type 0 where
  pub lock : Option Action
  pub unlock : Option Action
  pub are : told ≡ listed lock ++ accesses ++ listed unlock
  pub monitor : MonitorBefore
  pub changes : ChangesMonitor monitors stack before.depth before.monitor monitor
  pub locks : (old : List Monitor) → OwnsTheRest t monitor.object old monitors → WasOwner t monitor.object old monitor.was_owner → TellsLocks t old monitors lock
  pub unlocks : (old : List Monitor) → OwnsTheRest t monitor.object old monitors → WasOwner t monitor.object old monitor.was_owner → TellsUnlocks t old monitors unlock

abbrev pub TellsStart : Shared → (before : ℕ) → Option Action → Type 0
TellsStart shared before told =
    (names : Names) (old new : World) → before ≡ length old.threads → shared.threads.threads ≡ new.threads → MayStartOne old new
    → map (named_action names) (listed told) ≡ map named.Start (started old new)

abbrev pub TellsClear : Shared → (t : ℕ) → (was_interrupted : Bool) → Option Action → Type 0
TellsClear shared t was_interrupted told =
    (names : Names) (old new : World) → was_interrupted ≡ (thread_at old t).interrupted → shared.threads.threads ≡ new.threads
    → map (named_action names) (listed told) ≡ clear_actions t old new

-- what later actions may find
pub record AreLeft (t : ℕ) (shared : Shared) (before : EventBefore) (told : List Action) : Type 0 where
  pub start : Option Action
  pub clear : Option Action
  pub finish : Option Action
  pub are : told ≡ listed start ++ listed before.interrupt ++ listed clear ++ listed finish
  pub starts : TellsStart shared before.threads start
  pub clears : TellsClear shared t before.was_interrupted clear
  pub finishes : FinishesClass shared before.class before.was_finished finish

-- ---- the whole

-- by the names of the class files, the actions of an event in a state
pub record AreActions (trees : Program) (frames : ℕ) (state : State) (event : Event) (told : List Action) : Type 0 where
  pub are : names_given trees told ≡ actions_of trees frames state event
  pub right : AreAllRight trees told

-- of an event that was looked at, once it is done
abbrev pub TellsActions : EventActions → Shared → (t : ℕ) → List Action → Type 0
TellsActions e shared t told =
    (trees : Program) (bounds : Bounds) (state : State) → HasLooked trees bounds state t e → (p : LinkedProgram) (event : Event) → event.thread ≡ t
    → (cost : Cost) (next : State) → stepped values trees bounds.frames state event ≡ Next cost next → IsReached trees p bounds shared next
    → AreActions trees bounds.frames state event told
