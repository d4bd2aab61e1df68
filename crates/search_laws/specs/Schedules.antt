-- Searches that keep schedules, and go past events that are alone (own): states are told apart by their words alone.
use Rattle.std.specs.Prelude.{◌≡◌, ℕ, List, Some, Bool, IsTrue}
use Rattle.model.specs.declared.event.Event.{Event}
use Rattle.model.specs.declared.value.Value.{Value}
use Rattle.model.specs.Accepted.{IsAccepted}
use Rattle.model.specs.Classes.{Program}
use Rattle.model.specs.Opening.{opening}
use Rattle.model.specs.Operands.{values}
use Rattle.model.specs.Run.{run, is_quiet}
use Rattle.model.specs.State.{StackOf, State}
use Rattle.model.specs.Step.{step}
use Rattle.run_laws.specs.interleavings.Ends.{Has, Outcome, outcome_of, EndsWith, AreAllOutcomes}
use Rattle.run_laws.specs.interleavings.Local.{next_local}
use Rattle.run_laws.specs.searches.Searches.{IsMet, AreLocal}
use Rattle.search_laws.specs.Alone.{passing, AreAlone, HaveSameWords, IsToldByWords}
use Rattle.search_laws.specs.KeptStates.{IsReached}
use Rattle.search_laws.specs.OwnEvents.{IsFreeOf, graph_of}
use Rattle.search_laws.specs.Verdicts.{IsWholeSearch, AreListed}

module _ (files : Program) (frames : ℕ) (conflict : State → ℕ → ℕ → Bool) where
  -- events of these threads, each alone, and in no conflict, lead one after another from a state to another
  abbrev pub ArePassed : List ℕ → State → State → Type 0
  ArePassed = AreAlone files frames (passing conflict) (HaveSameWords files)

  -- a state is met, or one to which such events lead from it
  pub record IsFollowed (schedules : List (List Event)) (state : State) : Type 0 where
    pub threads : List ℕ
    pub last : State
    pub are_alone : ArePassed threads state last
    pub is_met : IsMet files frames schedules last

  pub record IsWhole (schedules : List (List Event)) (outcomes : List Outcome) : Type 0 where
    -- the opening state is followed
    pub opened : IsFollowed schedules (opening values files)
    -- and so is each state to which an event leads on from where a schedule led
    pub closed : (schedule : List Event) (state next : State) (event : Event) → Has schedules schedule
        → run files frames schedule ≡ Some state
        → step files frames state event ≡ Some next → IsFollowed schedules next
    -- where no thread may step, the outcome is listed
    pub listed : (schedule : List Event) (state : State) → Has schedules schedule → run files frames schedule ≡ Some state
        → IsTrue (is_quiet files frames state)
        → Has outcomes (outcome_of files frames state)
    -- and no other is
    pub only : (outcome : Outcome) → Has outcomes outcome → (events : List Event) × EndsWith files frames events outcome

  -- local events of states of runs are in no conflict, whatever the others do first
  abbrev pub AreLocalFree : Type 0
  AreLocalFree =
      (state : State) → IsReached files frames state → (t : ℕ) (own : StackOf Value) → next_local files state t ≡ Some own
      → IsFreeOf files frames conflict state t

-- ---- of accepted files

-- the outcomes that such a search lists are those of all runs that end
abbrev pub AreSchedulesComplete : Type 0
AreSchedulesComplete =
    (files : List (List ℕ)) (trees : Program) → IsAccepted files trees → (frames : ℕ) (conflict : State → ℕ → ℕ → Bool)
    → IsToldByWords trees conflict → (schedules : List (List Event)) (outcomes : List Outcome)
    → IsWhole trees frames conflict schedules outcomes → AreAllOutcomes trees frames outcomes

-- it is a whole search of the graph of the states to which its schedules lead
abbrev pub AreSchedulesWhole : Type 0
AreSchedulesWhole =
    (files : List (List ℕ)) (trees : Program) → IsAccepted files trees → (frames : ℕ) (conflict : State → ℕ → ℕ → Bool)
    → IsToldByWords trees conflict → (schedules : List (List Event)) (outcomes : List Outcome)
    → IsWhole trees frames conflict schedules outcomes
    → IsWholeSearch files trees frames conflict (graph_of trees frames schedules) × AreListed trees frames (graph_of trees frames schedules) outcomes

-- local events are passed
abbrev pub AreLocalPassed : Type 0
AreLocalPassed =
    (files : List (List ℕ)) (trees : Program) → IsAccepted files trees → (frames : ℕ) (conflict : State → ℕ → ℕ → Bool)
    → AreLocalFree trees frames conflict → (state last : State) (threads : List ℕ) → IsReached trees frames state
    → AreLocal trees threads state last → ArePassed trees frames conflict threads state last
