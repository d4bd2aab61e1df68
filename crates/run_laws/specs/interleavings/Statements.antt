-- What is shown of the runs of accepted files, whatever the schedule.
use Rattle.std.specs.Prelude.{◌≡◌, ℕ, List, Some, None, slice_get, IsTrue}
use Rattle.model.specs.declared.event.Event.{Event}
use Rattle.model.specs.declared.value.Value.{Value}
use Rattle.model.specs.Classes.{Program}
use Rattle.model.specs.Operands.{values}
use Rattle.model.specs.Outcomes.{Cost, Free}
use Rattle.model.specs.State.{Running, StackOf, State}
use Rattle.model.specs.Worlds.{thread_at}
use Rattle.model.specs.Step.{Next, stepped}
use Rattle.model.specs.Run.{run, is_quiet}
use Rattle.model.specs.WellTyped.{IsWellTyped}
use Rattle.model.specs.Accepted.{IsAccepted}
use Rattle.run_laws.specs.interleavings.Local.{next_local, with_stack}
use Rattle.run_laws.specs.interleavings.Reduced.{reduced_step, reduced_run}
use Rattle.run_laws.specs.interleavings.Ends.{Outcome, AreAllOutcomes, IsSearched}

-- ---- what an event leaves of the other threads

pub record IsLeftAlone (before after : State) (t : ℕ) : Type 0 where
  pub stack : slice_get after.stacks t ≡ slice_get before.stacks t
  pub status : (thread_at after.world t).status ≡ (thread_at before.world t).status
  pub pending : (thread_at after.world t).pending ≡ (thread_at before.world t).pending

-- an event of another thread leaves a thread that runs its stack, its status and the exception that is pending in it
abbrev pub AreOthersLeftAlone : Type 0
AreOthersLeftAlone =
    (files : List (List ℕ)) (trees : Program) → IsAccepted files trees → (frames : ℕ) (state : State) → IsWellTyped trees state
    → (event : Event) (cost : Cost) (next : State) → stepped values trees frames state event ≡ Next cost next
    → (t : ℕ) (stack : StackOf Value) → slice_get state.stacks t ≡ Some stack → (thread_at state.world t).status ≡ Running
    → (t ≡ event.thread → ⊥) → IsLeftAlone state next t

-- ---- local events

-- a local event is enabled, whatever the other threads do, takes nothing, and changes the stack of its thread alone
abbrev pub AreLocalEventsTheirOwn : Type 0
AreLocalEventsTheirOwn =
    (files : List (List ℕ)) (trees : Program) → IsAccepted files trees → (frames : ℕ) (state : State) → IsWellTyped trees state
    → (event : Event) (stack : StackOf Value) → next_local trees state event.thread ≡ Some stack → event.pick ≡ 0
    → stepped values trees frames state event ≡ Next Free (with_stack state event.thread stack)

-- the event of another thread leaves it local, and leads to the same, at the same cost, before it and after it
pub record Commute (files : Program) (frames : ℕ) (state : State) (t : ℕ) (stack : StackOf Value) (event : Event) (cost : Cost)
    (next : State) : Type 0 where
  pub stays : next_local files next t ≡ Some stack
  pub same : stepped values files frames (with_stack state t stack) event ≡ Next cost (with_stack next t stack)

-- a local event of a thread and any event of another one commute
abbrev pub AreLocalEventsCommuting : Type 0
AreLocalEventsCommuting =
    (files : List (List ℕ)) (trees : Program) → IsAccepted files trees → (frames : ℕ) (state : State) → IsWellTyped trees state
    → (t : ℕ) (stack : StackOf Value) → next_local trees state t ≡ Some stack
    → (event : Event) (cost : Cost) (next : State) → (t ≡ event.thread → ⊥) → stepped values trees frames state event ≡ Next cost next
    → Commute trees frames state t stack event cost next

-- ---- the reduction

-- each run to a state in which no thread may step has one of reduced steps to the same state
abbrev pub IsEachEndExplored : Type 0
IsEachEndExplored =
    (files : List (List ℕ)) (trees : Program) → IsAccepted files trees → (frames : ℕ) (events : List Event) (state : State)
    → run trees frames events ≡ Some state → IsTrue (is_quiet trees frames state)
    → (others : List Event) × (reduced_run trees frames others ≡ Some state)

-- in a state that has no reduced step with pick 0, no thread may step
abbrev pub IsEachEndSeen : Type 0
IsEachEndSeen =
    (files : List (List ℕ)) (trees : Program) → IsAccepted files trees → (frames : ℕ) (events : List Event) (state : State)
    → run trees frames events ≡ Some state → ((t : ℕ) → reduced_step trees frames state (record { thread = t; pick = 0 }) ≡ None)
    → IsTrue (is_quiet trees frames state)

-- the outcomes that a search lists are all outcomes
abbrev pub IsSearchComplete : Type 0
IsSearchComplete =
    (files : List (List ℕ)) (trees : Program) → IsAccepted files trees → (frames : ℕ) (states : List State) (outcomes : List Outcome)
    → IsSearched trees frames states outcomes → AreAllOutcomes trees frames outcomes
