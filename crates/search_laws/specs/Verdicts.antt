-- What the states that a search keeps tell of all runs of accepted files.
use Rattle.std.specs.Prelude.{◌≡◌, ℕ, List, Some, Bool, IsTrue}
use Rattle.model.specs.declared.event.Event.{Event}
use Rattle.model.specs.Accepted.{IsAccepted}
use Rattle.model.specs.Classes.{Program}
use Rattle.model.specs.Run.{run_from, is_quiet}
use Rattle.model.specs.State.{State}
use Rattle.model.specs.Step.{step}
use Rattle.run_laws.specs.interleavings.Ends.{Has, Outcome, outcome_of, AreAllOutcomes}
use Rattle.search_laws.specs.Alone.{HaveSameWords, IsToldByWords, passing}
use Rattle.search_laws.specs.KeptStates.{Graph, Keeps, Reaches, IsReached, IsFollowed, IsExpanded, AreExpandedFrom, AreEdges, IsExplored, IsEndless, IsTrapped}

-- ---- searches where states do the same that have the same words

pub record IsSearch (files : List (List ℕ)) (trees : Program) (frames : ℕ) (conflict : State → ℕ → ℕ → Bool) (graph : Graph)
    : Type 0 where
  pub accepted : IsAccepted files trees
  pub told : IsToldByWords trees conflict
  pub explored : IsExplored trees frames (passing conflict) (HaveSameWords trees) graph

-- one that has ended: all that it keeps is expanded
pub record IsWholeSearch (files : List (List ℕ)) (trees : Program) (frames : ℕ) (conflict : State → ℕ → ℕ → Bool) (graph : Graph)
    : Type 0 where
  pub search : IsSearch files trees frames conflict graph
  pub expanded : (node : ℕ) → IsExpanded trees frames (passing conflict) (HaveSameWords trees) graph node

-- what is said of a search
abbrev pub Statement : Type 1
Statement = Program → ℕ → (State → ℕ → ℕ → Bool) → Graph → Type 0

abbrev pub OfSearches : Statement → Type 0
OfSearches P =
    (files : List (List ℕ)) (trees : Program) (frames : ℕ) (conflict : State → ℕ → ℕ → Bool) (graph : Graph) → IsSearch files trees frames conflict graph
    → P trees frames conflict graph

abbrev pub OfWholeSearches : Statement → Type 0
OfWholeSearches P =
    (files : List (List ℕ)) (trees : Program) (frames : ℕ) (conflict : State → ℕ → ℕ → Bool) (graph : Graph) → IsWholeSearch files trees frames conflict graph
    → P trees frames conflict graph

-- a kept state of which it holds
abbrev pub IsMet : Graph → (State → Type 0) → Type 0
IsMet graph P = (node : ℕ) × (state : State) × (Keeps graph node state × P state)

-- ---- the law

-- From where all is expanded to which edges lead, alone events lead from the end of each run to one of those.
abbrev pub AreRunsFollowed : Type 0
AreRunsFollowed = OfSearches (λ files frames conflict graph.
    (start : ℕ) (state last : State) (events : List Event) → Keeps graph start state
    → AreExpandedFrom files frames (passing conflict) (HaveSameWords files) graph start → run_from files frames state events ≡ Some last
    → (node : ℕ) × (Reaches graph start node × IsFollowed files frames (passing conflict) (HaveSameWords files) graph last node))

-- so each state of a run is followed to a kept one
abbrev pub AreAllFollowed : Type 0
AreAllFollowed = OfWholeSearches (λ files frames conflict graph.
    (state : State) → IsReached files frames state → (node : ℕ) × IsFollowed files frames (passing conflict) (HaveSameWords files) graph state node)

-- ---- outcomes

-- those of the kept states in which no thread may step, and no others
pub record AreListed (files : Program) (frames : ℕ) (graph : Graph) (outcomes : List Outcome) : Type 0 where
  pub listed : (node : ℕ) (state : State) → Keeps graph node state → IsTrue (is_quiet files frames state)
      → Has outcomes (outcome_of files frames state)
  pub only : (outcome : Outcome) → Has outcomes outcome
      → IsMet graph (λ state. IsTrue (is_quiet files frames state) × (outcome_of files frames state ≡ outcome))

abbrev pub AreOutcomesMet : Type 0
AreOutcomesMet = OfWholeSearches (λ files frames conflict graph.
    (outcomes : List Outcome) → AreListed files frames graph outcomes → AreAllOutcomes files frames outcomes)

-- ---- what lasts

-- what a test tells lasts, whatever events follow
abbrev pub IsLasting : Program → ℕ → (State → Bool) → Type 0
IsLasting files frames test =
    (state next : State) (event : Event) → IsReached files frames state → step files frames state event ≡ Some next → IsTrue (test state) → IsTrue (test next)

abbrev pub IsLastingMet : Type 0
IsLastingMet = OfWholeSearches (λ files frames conflict graph.
    (test : State → Bool) → IsLasting files frames test
    → ((one other : State) → HaveSameWords files one other → IsTrue (test one) → IsTrue (test other))
    → (state : State) → IsReached files frames state → IsTrue (test state) → IsMet graph (λ kept. IsTrue (test kept)))

-- ---- endless states

-- A search that need not have ended: where all is expanded to which edges lead, and none of it is quiet, no run ends.
abbrev pub AreTrapsEndless : Type 0
AreTrapsEndless = OfSearches (λ files frames conflict graph.
    (node : ℕ) (state : State) → Keeps graph node state → AreExpandedFrom files frames (passing conflict) (HaveSameWords files) graph node
    → IsTrapped files frames graph node → IsEndless files frames state)

abbrev pub AreEndlessTrapped : Type 0
AreEndlessTrapped = OfWholeSearches (λ files frames conflict graph.
    AreEdges files frames (passing conflict) (HaveSameWords files) graph
    → (state : State) → IsReached files frames state → IsEndless files frames state
    → (node : ℕ) × (kept : State) × (Keeps graph node kept × IsTrapped files frames graph node))

-- ---- conflicts

-- the relation is symmetric, and events of other threads keep it
pub record IsLastingConflict (files : Program) (frames : ℕ) (conflict : State → ℕ → ℕ → Bool) : Type 0 where
  pub symmetric : (state : State) (t u : ℕ) → IsTrue (conflict state t u) → IsTrue (conflict state u t)
  pub lasts : (state next : State) (event : Event) (t u : ℕ) → IsReached files frames state → (t ≡ event.thread → ⊥)
      → (u ≡ event.thread → ⊥) → step files frames state event ≡ Some next → IsTrue (conflict state t u) → IsTrue (conflict next t u)

abbrev pub AreConflictsMet : Type 0
AreConflictsMet = OfWholeSearches (λ files frames conflict graph.
    IsLastingConflict files frames conflict
    → (state : State) (t u : ℕ) → IsReached files frames state → IsTrue (conflict state t u)
    → IsMet graph (λ kept. IsTrue (conflict kept t u)))
