-- How far a search has come (own).
use Rattle.std.specs.Prelude.{◌≡◌, ◌⊎◌, ◌<◌, ℕ, suc, List, [], Option, Some, None, Bool, false, IsTrue, IsFalse, length, slice_get}
use Rattle.model.specs.declared.event.Event.{Event}
use Rattle.model.specs.declared.limits.Limits.{Limits}
use Rattle.model.specs.Classes.{Program}
use Rattle.model.specs.Run.{run, is_quiet}
use Rattle.model.specs.State.{State}
use Rattle.run_laws.specs.interleavings.Ends.{Outcome, outcome_of, EndsWith, Has}
use Rattle.machine.specs.Machines.{IsProgramOf}
use Rattle.search.specs.declared.kinds.Goal.{Goal}
use Rattle.search.specs.declared.kinds.Kind.{Kind}
use Rattle.search.specs.declared.kinds.Kinds.{Kinds}
use Rattle.search.specs.declared.run_outcomes.wanted.Wanted.{Wanted}
use Rattle.search.specs.declared.run_outcomes.outcomes.Outcome.{Outcome as TheOutcome}
use Rattle.search.specs.run_outcomes.Outcomes.{told_by, IsWanted, IsAdded}
use Rattle.search.specs.declared.states.Walk.{Walk}
use Rattle.search.specs.declared.visiting.Seen.{Seen}
use Rattle.search.specs.declared.visiting.SeenStates.{SeenStates}
use Rattle.search.specs.declared.visiting.Visit.{Visit}
use Rattle.search.specs.declared.visiting.Visit.TheVariants as visit
use Rattle.search.specs.GivingUp.{GivesUp}
use Rattle.search.specs.Kinds.{ShowsItself, IsShown, no_kinds, is_told, and_also, wanted_of, is_sought}
use Rattle.search.specs.Machines.{IsOutcomeOf}
use Rattle.search.specs.StateKinds.{AreKindsOf}
use Rattle.search.specs.States.{StatesOf, IsSchedule, AreAllMet, AreLed}
use Rattle.search.specs.Verdicts.{IsFoundBy}
use Rattle.search.specs.Walks.{IsThere}

-- the outcomes of the states below a number that are quiet are listed, and only such as a run has, none of them wanted
pub record AreListed (trees : Program) (frames : ℕ) (want : Wanted) (schedules : List (List Event)) (outcomes : List Outcome)
    (below : ℕ) : Type 0 where
  pub listed : (number : ℕ) (events : List Event) (state : State) → number < below → slice_get schedules number ≡ Some events
      → run trees frames events ≡ Some state
      → IsTrue (is_quiet trees frames state) → Has outcomes (outcome_of trees frames state)
  pub only : (outcome : Outcome) → Has outcomes outcome → (events : List Event) × EndsWith trees frames events outcome
  pub none : (outcome : Outcome) → Has outcomes outcome → IsWanted want outcome → ⊥

-- of the states below a number each kind is told that one is of by itself, and only such as a run comes to, none of them to be found
pub record AreToldBelow (trees : Program) (frames : ℕ) (goal : Goal) (schedules : List (List Event)) (kinds : Kinds) (below : ℕ)
    : Type 0 where
  pub told : (kind : Kind) (number : ℕ) (events : List Event) (state : State) → number < below → slice_get schedules number ≡ Some events
      → run trees frames events ≡ Some state → ShowsItself trees frames kind state → IsTrue (is_told kinds kind)
  pub only : (kind : Kind) → IsTrue (is_told kinds kind) → IsShown trees frames kind
  pub unsought : IsFalse (is_sought goal kinds)

-- before any state was visited
abbrev pub nothing_seen : Seen
nothing_seen = record { outcomes = []; kinds = no_kinds }

abbrev pub nothing_visited : SeenStates
nothing_visited = record { seen = nothing_seen; race = None }

-- the states below a number have been visited
pub record HasVisited (trees : Program) (limits : Limits) (goal : Goal) (s : StatesOf) (seen : Seen) (below : ℕ) : Type 0 where
  pub program : IsProgramOf trees s.program
  pub limits_are : s.limits ≡ limits
  pub opened : IsSchedule s 0 []
  pub met : (number : ℕ) → number < below → AreAllMet s number
  pub led : AreLed s
  pub outcomes_are : AreListed trees limits.frames (wanted_of goal) s.schedules seen.outcomes below
  pub kinds_are : AreToldBelow trees limits.frames goal s.schedules seen.kinds below

-- so has the next one; or it is to be found; or the search gives up, where so many states may be met
abbrev pub Visits : Program → Limits → Goal → (most number : ℕ) → Visit → StatesOf → Seen → Type 0
Visits trees limits goal most number visit.Visited s seen = HasVisited trees limits goal s seen (suc number)
Visits trees limits goal most number (visit.Found schedule) s seen = IsFoundBy trees limits goal schedule
Visits trees limits goal most number visit.GaveUp s seen = GivesUp trees limits most (length s.schedules)

-- ---- what a state shows

-- its outcome, if no thread may step there, and its kinds
pub record AreOf (trees : Program) (frames : ℕ) (outcome : Option TheOutcome) (kinds : Kinds) (state : State) : Type 0 where
  pub outcome_is : IsOutcomeOf trees frames state outcome
  pub kinds_are : AreKindsOf trees frames state kinds

-- so it is of the state in which the machine of a walk is
abbrev pub OfStateAt : Program → Walk → (ℕ → State → Type 0) → Type 0
OfStateAt trees walk P =
    (number : ℕ) → IsThere walk.states number walk → IsProgramOf trees walk.states.program
    → (events : List Event) (state : State) → IsSchedule walk.states number events → run trees walk.states.limits.frames events ≡ Some state
    → P walk.states.limits.frames state

abbrev pub HasOutcomeAt : Program → Walk → Option TheOutcome → Type 0
HasOutcomeAt trees walk outcome = OfStateAt trees walk (λ frames state. IsOutcomeOf trees frames state outcome)

abbrev pub ShowsAt : Program → Walk → Option TheOutcome → Kinds → Type 0
ShowsAt trees walk outcome kinds = OfStateAt trees walk (λ frames state. AreOf trees frames outcome kinds state)

-- an outcome, if there is one, is wanted
abbrev pub IsWantedIf : Goal → Option TheOutcome → Type 0
IsWantedIf goal None = ⊥
IsWantedIf goal (Some o) = IsWanted (wanted_of goal) (told_by o)

-- it is listed beside those that were
abbrev pub IsAddedIf : Option TheOutcome → (old new : List Outcome) → Type 0
IsAddedIf None old new = new ≡ old
IsAddedIf (Some o) old new = IsAdded (told_by o) old new

-- it is wanted; or it isn't, and is listed
abbrev pub ListsOr : Goal → Option TheOutcome → (found : Bool) → (old new : List Outcome) → Type 0
ListsOr goal outcome Bool.true old new = IsWantedIf goal outcome
ListsOr goal outcome false old new = (IsWantedIf goal outcome → ⊥) × IsAddedIf outcome old new

-- neither the outcome nor one of the kinds is to be found, and they are listed
pub record IsSeen (goal : Goal) (outcome : Option TheOutcome) (kinds : Kinds) (old new : Seen) : Type 0 where
  pub unwanted : IsWantedIf goal outcome → ⊥
  pub unsought : IsFalse (is_sought goal kinds)
  pub outcomes_are : IsAddedIf outcome old.outcomes new.outcomes
  pub kinds_are : new.kinds ≡ and_also old.kinds kinds

-- one of them is to be found, or they are listed
abbrev pub IsSeenOr : Goal → Option TheOutcome → Kinds → (found : Bool) → (old new : Seen) → Type 0
IsSeenOr goal outcome kinds Bool.true old new = IsWantedIf goal outcome ⊎ IsTrue (is_sought goal kinds)
IsSeenOr goal outcome kinds false old new = IsSeen goal outcome kinds old new
