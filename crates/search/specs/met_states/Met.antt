-- When a search has met the state to which an event leads on from a schedule (own).
use Rattle.std.specs.Prelude.{◌≡◌, ◌<◌, ◌≤◌, ℕ, List, [], ◌∷◌, ◌++◌, length, slice_get, Some, IsTrue, IsFalse}
use Rattle.model.specs.declared.event.Event.{Event}
use Rattle.model.specs.Accepted.{IsAccepted}
use Rattle.model.specs.Classes.{Program}
use Rattle.model.specs.LimitStands.{Bounds}
use Rattle.model.specs.Run.{run, is_quiet}
use Rattle.model.specs.State.{State}
use Rattle.model.specs.Step.{step, is_enabled}
use Rattle.run_laws.specs.interleavings.Ends.{Has, Outcome, outcome_of, EndsWith}
use Rattle.racing_threads.specs.Racing.{are_racing}
use Rattle.search_laws.specs.KeptStates.{IsReached, IsEndless}
use Rattle.search_laws.specs.Schedules.{IsFollowed, IsWhole}
use Rattle.linked_code.specs.declared.program.LinkedProgram.{LinkedProgram}
use Rattle.machine_state.specs.declared.state.Shared.{Shared}
use Rattle.machine_state.specs.same_states.Same.{AreAlike}
use Rattle.machine_state.specs.shown_runs.Runs.{HasRun}
use Rattle.alone_events.specs.Alone.{AreAloneAfter}
use Rattle.search.specs.declared.edges.Edge.{Edge}
use Rattle.search.specs.declared.kinds.Kind.{Kind}
use Rattle.search.specs.Edges.{edge_from, LeadsToLast}
use Rattle.search.specs.Kinds.{ShowsItself}

-- ---- states

-- the schedule of this number has met the state, or one to which events that are alone, and in no race, lead from there
pub record IsMetBy (trees : Program) (frames : ℕ) (schedules : List (List Event)) (number : ℕ) (state : State) : Type 0 where
  pub followed : IsFollowed trees frames (are_racing trees frames) schedules state
  pub number_is : followed.is_met.has.0 ≡ number

-- so has one to whose number an edge leads
abbrev pub IsMetAlong : (trees : Program) (frames : ℕ) (schedules : List (List Event)) (edges : List Edge) (node : ℕ) → State → Type 0
IsMetAlong trees frames schedules edges node state = (to : ℕ) × Has edges (edge_from node to) × IsMetBy trees frames schedules to state

-- wherever the event leads on from where the first events led, it is so of the state
abbrev pub OfNext : Program → ℕ → List Event → Event → (State → Type 0) → Type 0
OfNext trees frames events event P = (state next : State) → run trees frames events ≡ Some state → step trees frames state event ≡ Some next → P next

-- where the event leads on from where the first events led, one of the schedules has met the state, or one to which events that are alone,
-- and in no race, lead from there
abbrev pub IsNextMet : (trees : Program) (frames : ℕ) (schedules : List (List Event)) (events : List Event) → Event → Type 0
IsNextMet trees frames schedules events event =
    (state next : State) → run trees frames events ≡ Some state → step trees frames state event ≡ Some next → IsFollowed trees frames (are_racing trees frames) schedules next

-- ---- one event

-- it leads, with events behind it that are alone, to a state that is alike to that of another schedule
abbrev pub AreAlikeStatesMet : Type 0
AreAlikeStatesMet =
    (trees : Program) (p : LinkedProgram) (bounds : Bounds) (schedules : List (List Event)) (events more schedule : List Event) (event : Event) (one other : Shared)
    → AreAloneAfter trees bounds.frames (events ++ event ∷ []) more
    → (has : Has schedules schedule) → HasRun trees p bounds one (events ++ event ∷ more) → HasRun trees p bounds other schedule → AreAlike one other
    → OfNext trees bounds.frames events event (IsMetBy trees bounds.frames schedules has.0)

-- the schedule that is longer by it is listed, with events behind it that are alone
abbrev pub AreNewStatesMet : Type 0
AreNewStatesMet =
    (trees : Program) (frames : ℕ) (schedules : List (List Event)) (events more : List Event) (event : Event)
    → AreAloneAfter trees frames (events ++ event ∷ []) more
    → (has : Has schedules (events ++ event ∷ more)) → OfNext trees frames events event (IsMetBy trees frames schedules has.0)

-- a lower pick is not enabled
abbrev pub AreHigherPicksLeft : Type 0
AreHigherPicksLeft =
    (trees : Program) (frames : ℕ) (events : List Event) (state : State) (t low high : ℕ) → low ≤ high
    → run trees frames events ≡ Some state → IsFalse (is_enabled trees frames state (record { thread = t; pick = low }))
    → OfNext trees frames events (record { thread = t; pick = high }) (λ next. ⊥)

-- there is no such thread
abbrev pub AreOtherThreadsLeft : Type 0
AreOtherThreadsLeft =
    (trees : Program) (p : LinkedProgram) (bounds : Bounds) (events : List Event) (event : Event) (shared : Shared)
    → HasRun trees p bounds shared events → length shared.threads.threads ≤ event.thread
    → OfNext trees bounds.frames events event (λ next. ⊥)

-- it leads on, so some thread may step
abbrev pub AreMovingStatesNotQuiet : Type 0
AreMovingStatesNotQuiet =
    (trees : Program) (p : LinkedProgram) (bounds : Bounds) (events : List Event) (event : Event) (shared : Shared) (state next : State)
    → HasRun trees p bounds shared events → run trees bounds.frames events ≡ Some state → run trees bounds.frames (events ++ event ∷ []) ≡ Some next
    → IsFalse (is_quiet trees bounds.frames state)

-- ---- many

-- each schedule of the one list has its number in the other
abbrev pub AreListed : (some all : List (List Event)) → Type 0
AreListed some all = (number : ℕ) (schedule : List Event) → slice_get some number ≡ Some schedule → slice_get all number ≡ Some schedule

abbrev pub AreMetStatesKept : Type 0
AreMetStatesKept =
    (trees : Program) (frames : ℕ) (some all : List (List Event)) (number : ℕ) (state : State)
    → AreListed some all → IsMetBy trees frames some number state → IsMetBy trees frames all number state

-- what a search has come to
pub record HasMetAll (trees : Program) (frames : ℕ) (schedules : List (List Event)) (outcomes : List Outcome) : Type 0 where
  pub opened : Has schedules []
  pub met : (events : List Event) (event : Event) → Has schedules events → IsNextMet trees frames schedules events event
  pub listed : (events : List Event) (state : State) → Has schedules events → run trees frames events ≡ Some state
      → IsTrue (is_quiet trees frames state)
      → Has outcomes (outcome_of trees frames state)
  pub only : (outcome : Outcome) → Has outcomes outcome → (events : List Event) × EndsWith trees frames events outcome

abbrev pub AreSearchesWhole : Type 0
AreSearchesWhole =
    (trees : Program) (frames : ℕ) (schedules : List (List Event)) (outcomes : List Outcome)
    → HasMetAll trees frames schedules outcomes → IsWhole trees frames (are_racing trees frames) schedules outcomes

-- ---- kinds of states

-- some run comes to a state that is of the kind by itself
abbrev pub IsShownItself : Program → ℕ → Kind → Type 0
IsShownItself trees frames kind = (state : State) × IsReached trees frames state × ShowsItself trees frames kind state

-- one of the schedules leads to one
pub record IsKindMet (trees : Program) (frames : ℕ) (schedules : List (List Event)) (kind : Kind) : Type 0 where
  pub schedule : List Event
  pub has : Has schedules schedule
  pub state : State
  pub reached : run trees frames schedule ≡ Some state
  pub shows : ShowsItself trees frames kind state

-- where a whole search has some run that comes to one
abbrev pub AreKindsMet : Type 0
AreKindsMet =
    (files : List (List ℕ)) (trees : Program) → IsAccepted files trees → (frames : ℕ) (schedules : List (List Event)) (outcomes : List Outcome)
    → IsWhole trees frames (are_racing trees frames) schedules outcomes → (kind : Kind) → IsShownItself trees frames kind
    → IsKindMet trees frames schedules kind

-- ---- endless states

-- an event of the state of the one number leads, with events behind it that are alone, to the state of the other one
pub record IsLed (trees : Program) (frames : ℕ) (schedules : List (List Event)) (edge : Edge) : Type 0 where
  pub events : List Event
  pub has : slice_get schedules edge.node ≡ Some events
  pub state : State
  pub reached : run trees frames events ≡ Some state
  pub event : Event
  pub next : State
  pub goes : step trees frames state event ≡ Some next
  pub met : IsMetBy trees frames schedules edge.to next

-- each event of each schedule's state leads along an edge, and along each edge one leads
pub record HasEdges (trees : Program) (frames : ℕ) (schedules : List (List Event)) (edges : List Edge) : Type 0 where
  pub along : (node : ℕ) (events : List Event) (event : Event) → slice_get schedules node ≡ Some events
      → OfNext trees frames events event (IsMetAlong trees frames schedules edges node)
  pub led : (edge : Edge) → Has edges edge → IsLed trees frames schedules edge

-- the state of a number is endless, where edges don't lead from it to the last one; and where they do from each, no run comes to such a state
pub record IsToldByEdges (trees : Program) (frames : ℕ) (schedules : List (List Event)) (edges : List Edge) : Type 0 where
  pub endless : (node : ℕ) (events : List Event) (state : State) → slice_get schedules node ≡ Some events → run trees frames events ≡ Some state
      → (LeadsToLast edges node → ⊥) → IsEndless trees frames state
  pub none : ((node : ℕ) → node < length schedules → LeadsToLast edges node)
      → (state : State) → IsReached trees frames state → IsEndless trees frames state → ⊥

-- so it is of a whole search
abbrev pub AreEndlessTold : Type 0
AreEndlessTold =
    (files : List (List ℕ)) (trees : Program) → IsAccepted files trees → (frames : ℕ) (schedules : List (List Event)) (outcomes : List Outcome) (edges : List Edge)
    → IsWhole trees frames (are_racing trees frames) schedules outcomes → HasEdges trees frames schedules edges
    → IsToldByEdges trees frames schedules edges
