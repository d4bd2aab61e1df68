-- What a search over all schedules keeps: states, of which each event is followed, past events that are alone.
use Rattle.std.specs.Prelude.{◌≡◌, ℕ, List, Option, Some, Bool, IsTrue}
use Rattle.model.specs.declared.event.Event.{Event}
use Rattle.model.specs.Classes.{Program}
use Rattle.model.specs.Opening.{opening}
use Rattle.model.specs.Operands.{values}
use Rattle.model.specs.Run.{run, run_from, is_quiet}
use Rattle.model.specs.State.{State}
use Rattle.model.specs.Step.{step}
use Rattle.search_laws.specs.Alone.{Relation, AreAlone}

pub record Graph : Type 0 where
  -- the state that is kept by a number, if one is
  pub kept : ℕ → Option State
  -- whether an edge leads from a number to another
  pub edge : ℕ → ℕ → Bool

abbrev pub Keeps : Graph → ℕ → State → Type 0
Keeps graph node state = graph.kept node ≡ Some state

-- edges lead from one to the other
pub data Reaches (graph : Graph) (start : ℕ) : ℕ → Type 0 where
  Here : Reaches graph start start
  Onward : (node next : ℕ) → Reaches graph start node → IsTrue (graph.edge node next) → Reaches graph start next

-- a run leads there from the opening state
abbrev pub IsReached : Program → ℕ → State → Type 0
IsReached files frames state = (events : List Event) × (run files frames events ≡ Some state)

module _ (files : Program) (frames : ℕ) (Conflict : Relation) (Like : State → State → Type 0) (graph : Graph) where
  -- past events that are alone stands a state like the one that is kept by the number
  pub record IsFollowed (state : State) (node : ℕ) : Type 0 where
    pub threads : List ℕ
    pub last : State
    pub are_alone : AreAlone files frames Conflict Like threads state last
    pub kept : State
    pub is_kept : Keeps graph node kept
    pub like : Like last kept

  -- each event of the state of that number, with each pick, is followed, and the edge is there
  abbrev pub IsExpanded : ℕ → Type 0
  IsExpanded node =
      (state next : State) (event : Event) → Keeps graph node state → step files frames state event ≡ Some next
      → (to : ℕ) × (IsTrue (graph.edge node to) × IsFollowed next to)

  -- each of the numbers to which edges lead from that one is expanded
  abbrev pub AreExpandedFrom : ℕ → Type 0
  AreExpandedFrom start = (node : ℕ) → Reaches graph start node → IsExpanded node

  -- an event of the one leads, past events that are alone, to the other
  pub record IsEdge (node to : ℕ) : Type 0 where
    pub state : State
    pub is_kept : Keeps graph node state
    pub event : Event
    pub next : State
    pub goes : step files frames state event ≡ Some next
    pub followed : IsFollowed next to

  abbrev pub AreEdges : Type 0
  AreEdges = (node to : ℕ) → IsTrue (graph.edge node to) → IsEdge node to

  -- what a search keeps, whether it has ended or not
  pub record IsExplored : Type 0 where
    pub reached : (node : ℕ) (state : State) → Keeps graph node state → IsReached files frames state
    pub start : ℕ
    pub opened : IsFollowed (opening values files) start

-- no run from the state ends
abbrev pub IsEndless : Program → ℕ → State → Type 0
IsEndless files frames state = (events : List Event) (last : State) → run_from files frames state events ≡ Some last → IsTrue (is_quiet files frames last) → ⊥

-- no edges lead from that number to a state that is quiet
abbrev pub IsTrapped : Program → ℕ → Graph → ℕ → Type 0
IsTrapped files frames graph node = (to : ℕ) (state : State) → Reaches graph node to → Keeps graph to state → IsTrue (is_quiet files frames state) → ⊥
