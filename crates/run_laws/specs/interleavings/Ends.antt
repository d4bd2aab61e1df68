-- How runs end, and lists of all such ends (own).
use Rattle.std.specs.Prelude.{◌≡◌, ℕ, List, Some, slice_get, IsTrue}
use Rattle.model.specs.declared.event.Event.{Event}
use Rattle.model.specs.Classes.{Program}
use Rattle.model.specs.Texts.{Text}
use Rattle.model.specs.Operands.{values}
use Rattle.model.specs.Opening.{opening}
use Rattle.model.specs.Report.{ThreadEnd}
use Rattle.model.specs.State.{State}
use Rattle.model.specs.Run.{run, is_quiet}
use Rattle.model.specs.Meaning.{thread_ends}
use Rattle.run_laws.specs.interleavings.Reduced.{reduced_step}

-- what a run that has ended leaves to be seen: the text printed, and how each thread stands
pub record Outcome : Type 0 where
  pub printed : Text
  pub ends : List ThreadEnd

abbrev pub outcome_of : Program → ℕ → State → Outcome
outcome_of files frames state = record { printed = state.world.printed; ends = thread_ends files frames state }

-- the events run from the opening state to one in which no thread may step, with this outcome
pub record EndsWith (files : Program) (frames : ℕ) (events : List Event) (outcome : Outcome) : Type 0 where
  pub state : State
  pub reached : run files frames events ≡ Some state
  pub quiet : IsTrue (is_quiet files frames state)
  pub outcome_is : outcome_of files frames state ≡ outcome

-- x stands in the list
abbrev pub Has : {A : Type 0} → List A → A → Type 0
Has xs x = (k : ℕ) × (slice_get xs k ≡ Some x)

-- Each outcome that a run has is listed, and each that is listed some run has. Of runs that never end nothing is said.
pub record AreAllOutcomes (files : Program) (frames : ℕ) (outcomes : List Outcome) : Type 0 where
  pub listed : (events : List Event) (outcome : Outcome) → EndsWith files frames events outcome → Has outcomes outcome
  pub reached : (outcome : Outcome) → Has outcomes outcome → (events : List Event) × EndsWith files frames events outcome

-- what a search has done when it ends
pub record IsSearched (files : Program) (frames : ℕ) (states : List State) (outcomes : List Outcome) : Type 0 where
  -- the opening state is one of its states
  pub opened : Has states (opening values files)
  -- each is reached by a run
  pub reached : (state : State) → Has states state → (events : List Event) × (run files frames events ≡ Some state)
  -- where a reduced step of one leads is one of them
  pub closed : (state next : State) (event : Event) → Has states state → reduced_step files frames state event ≡ Some next → Has states next
  -- the outcome of each in which no thread may step is listed, and no other
  pub listed : (state : State) → Has states state → IsTrue (is_quiet files frames state) → Has outcomes (outcome_of files frames state)
  pub only : (outcome : Outcome) → Has outcomes outcome
      → (state : State) × (Has states state × (IsTrue (is_quiet files frames state) × (outcome_of files frames state ≡ outcome)))
