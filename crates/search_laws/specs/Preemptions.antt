-- Searches within so many preemptions: switches away from a thread that may still step.
use Rattle.std.specs.Prelude.{◌≡◌, ℕ, zero, suc, ◌+◌, ◌≤◌, List, [], ◌∷◌, Option, Some, Bool, not, ◌&&◌, ◌==◌, if◌then◌else◌, IsTrue}
use Rattle.std.specs.Option.{option_map_or}
use Rattle.model.specs.declared.event.Event.{Event}
use Rattle.model.specs.Accepted.{IsAccepted}
use Rattle.model.specs.Classes.{Program}
use Rattle.model.specs.Opening.{opening}
use Rattle.model.specs.Operands.{values}
use Rattle.model.specs.Run.{run, run_from, may_step, is_quiet}
use Rattle.model.specs.State.{State}
use Rattle.model.specs.Step.{step}
use Rattle.run_laws.specs.interleavings.Ends.{Has, Outcome, outcome_of, EndsWith}
use Rattle.search_laws.specs.Alone.{Relation, passing, next_event, AreOfOthers, IsAlone, HaveSameWords, IsToldByWords}

-- ---- preemptions

-- an event of the thread preempts the one that moved last, if that is another one and may step
abbrev pub is_preemption : Program → ℕ → State → ℕ → ℕ → Bool
is_preemption files frames state running t = not (t == running) && may_step files frames state running

abbrev pub preemption_at : Program → ℕ → State → ℕ → ℕ → ℕ
preemption_at files frames state running t = if is_preemption files frames state running t then 1 else 0

-- how many the events have from a state in which that thread moved last
abbrev pub preemptions : Program → ℕ → ℕ → State → List Event → ℕ
preemptions files frames running state [] = 0
preemptions files frames running state (event ∷ events) =
    preemption_at files frames state running event.thread
    + option_map_or (λ next. preemptions files frames event.thread next events) (step files frames state event) 0

-- those of a run: main's thread is the first one
abbrev pub run_preemptions : Program → ℕ → List Event → ℕ
run_preemptions files frames events = preemptions files frames 0 (opening values files) events

-- ---- what is kept

-- a state, the thread that moved last, and how many preemptions led there
pub record Node : Type 0 where
  pub state : State
  pub running : ℕ
  pub count : ℕ

module _ (files : Program) (frames : ℕ) (Conflict : Relation) (Like : State → State → Type 0) where
  -- Behind each run of the others, the event of the thread leaves it to each other one whether that may step. (A thread that leaves a
  -- monitor does not: who waited for it may be preempted then.)
  abbrev pub LeavesEnabled : State → ℕ → Type 0
  LeavesEnabled state t =
      (others : List Event) (later last : State) → AreOfOthers t others → run_from files frames state others ≡ Some later
      → step files frames later (next_event t) ≡ Some last
      → (u : ℕ) → (u ≡ t → ⊥) → may_step files frames last u ≡ may_step files frames later u

  -- so many such events of the thread, each alone, lead from a state to another
  abbrev pub AreOwnAlone : ℕ → ℕ → State → State → Type 0
  AreOwnAlone t zero state last = state ≡ last
  AreOwnAlone t (suc n) state last =
      (first : State) × (IsAlone files frames Conflict Like state t first × (LeavesEnabled state t × AreOwnAlone t n first last))

  module _ (most : ℕ) (kept : ℕ → Option Node) where
    -- past such events of the thread stands a state like one that is kept with that thread, and with no more preemptions
    pub record IsFollowedBy (state : State) (running count : ℕ) : Type 0 where
      pub length : ℕ
      pub last : State
      pub are_alone : AreOwnAlone running length state last
      pub number : ℕ
      pub node : Node
      pub is_kept : kept number ≡ Some node
      pub like : Like last node.state
      pub same : node.running ≡ running
      pub no_more : node.count ≤ count

    pub record IsExploredWithin : Type 0 where
      pub reached : (number : ℕ) (node : Node) → kept number ≡ Some node
          → (events : List Event) × ((run files frames events ≡ Some node.state) × (run_preemptions files frames events ≤ most))
      pub opened : IsFollowedBy (opening values files) 0 0
      -- each event that does not go past the bound is followed
      pub expanded : (number : ℕ) (node : Node) (event : Event) (next : State) → kept number ≡ Some node
          → step files frames node.state event ≡ Some next
          → node.count + preemption_at files frames node.state node.running event.thread ≤ most
          → IsFollowedBy next event.thread (node.count + preemption_at files frames node.state node.running event.thread)

-- ---- the statement

-- the outcomes are those of the kept states that are quiet
pub record AreListedWithin (files : Program) (frames : ℕ) (kept : ℕ → Option Node) (outcomes : List Outcome) : Type 0 where
  pub listed : (number : ℕ) (node : Node) → kept number ≡ Some node → IsTrue (is_quiet files frames node.state)
      → Has outcomes (outcome_of files frames node.state)
  pub only : (outcome : Outcome) → Has outcomes outcome
      → (number : ℕ) × (node : Node) × ((kept number ≡ Some node) × (IsTrue (is_quiet files frames node.state) × (outcome_of files frames node.state ≡ outcome)))

-- the outcome of each run that ends with no more preemptions is listed, and each that is listed such a run has
pub record AreOutcomesWithin (files : Program) (frames most : ℕ) (outcomes : List Outcome) : Type 0 where
  pub listed : (events : List Event) (outcome : Outcome) → EndsWith files frames events outcome → run_preemptions files frames events ≤ most
      → Has outcomes outcome
  pub reached : (outcome : Outcome) → Has outcomes outcome
      → (events : List Event) × (EndsWith files frames events outcome × (run_preemptions files frames events ≤ most))

abbrev pub AreBoundedSearchesComplete : Type 0
AreBoundedSearchesComplete =
    (files : List (List ℕ)) (trees : Program) → IsAccepted files trees → (frames : ℕ) (conflict : State → ℕ → ℕ → Bool)
    → IsToldByWords trees conflict → (most : ℕ) (kept : ℕ → Option Node)
    → IsExploredWithin trees frames (passing conflict) (HaveSameWords trees) most kept
    → (outcomes : List Outcome) → AreListedWithin trees frames kept outcomes → AreOutcomesWithin trees frames most outcomes
