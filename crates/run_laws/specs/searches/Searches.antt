-- What a search over schedules has to come to (own): states are told apart by their words alone.
use Rattle.std.specs.Prelude.{◌≡◌, ℕ, List, [], ◌∷◌, Some, IsTrue}
use Rattle.model.specs.declared.event.Event.{Event}
use Rattle.model.specs.declared.value.Value.{Value}
use Rattle.model.specs.Accepted.{IsAccepted}
use Rattle.model.specs.Classes.{Program}
use Rattle.model.specs.Opening.{opening}
use Rattle.model.specs.Operands.{values}
use Rattle.model.specs.Run.{run, is_quiet}
use Rattle.model.specs.State.{StackOf, State}
use Rattle.model.specs.Step.{step}
use Rattle.model.specs.Words.{words_of}
use Rattle.run_laws.specs.interleavings.Ends.{Has, Outcome, outcome_of, EndsWith, AreAllOutcomes}
use Rattle.run_laws.specs.interleavings.Local.{next_local, with_stack}

-- one of these schedules leads to a state with the same words
pub record IsMet (files : Program) (frames : ℕ) (schedules : List (List Event)) (state : State) : Type 0 where
  pub schedule : List Event
  pub has : Has schedules schedule
  pub met : State
  pub leads : run files frames schedule ≡ Some met
  pub same : words_of met ≡ words_of state

-- local events of these threads, one after another, lead from a state to another
abbrev pub AreLocal : Program → List ℕ → State → State → Type 0
AreLocal files [] state last = state ≡ last
AreLocal files (t ∷ threads) state last = (stack : StackOf Value) × (next_local files state t ≡ Some stack) × AreLocal files threads (with_stack state t stack) last

-- a state is met, or one to which local events lead from it
pub record IsFollowed (files : Program) (frames : ℕ) (schedules : List (List Event)) (state : State) : Type 0 where
  pub threads : List ℕ
  pub last : State
  pub are_local : AreLocal files threads state last
  pub is_met : IsMet files frames schedules last

pub record IsWhole (files : Program) (frames : ℕ) (schedules : List (List Event)) (outcomes : List Outcome) : Type 0 where
  -- the opening state is followed
  pub opened : IsFollowed files frames schedules (opening values files)
  -- and so is each state to which an event leads on from where a schedule led
  pub closed : (schedule : List Event) (state next : State) (event : Event) → Has schedules schedule
      → run files frames schedule ≡ Some state
      → step files frames state event ≡ Some next → IsFollowed files frames schedules next
  -- where no thread may step, the outcome is listed
  pub listed : (schedule : List Event) (state : State) → Has schedules schedule → run files frames schedule ≡ Some state
      → IsTrue (is_quiet files frames state)
      → Has outcomes (outcome_of files frames state)
  -- and no other is
  pub only : (outcome : Outcome) → Has outcomes outcome → (events : List Event) × EndsWith files frames events outcome

-- the outcomes that a whole search lists are those of all runs that end
abbrev pub AreSearchesComplete : Type 0
AreSearchesComplete =
    (files : List (List ℕ)) (trees : Program) → IsAccepted files trees → (frames : ℕ) (schedules : List (List Event)) (outcomes : List Outcome)
    → IsWhole trees frames schedules outcomes → AreAllOutcomes trees frames outcomes
