-- What a search over all schedules answers (own; JLS 17).
use Rattle.std.specs.Prelude.{◌≡◌, ◌⊎◌, ℕ, Bool, List, Some, IsTrue, IsFalse, length}
use Rattle.model.specs.declared.event.Event.{Event}
use Rattle.model.specs.declared.event.ScheduleEntry.{ScheduleEntry}
use Rattle.model.specs.declared.limits.Limits.{Limits}
use Rattle.model.specs.Classes.{Program}
use Rattle.model.specs.LimitStands.{bounds_of, within_limits}
use Rattle.model.specs.Run.{run}
use Rattle.model.specs.Schedule.{events_of}
use Rattle.model.specs.State.{State}
use Rattle.run_laws.specs.interleavings.Ends.{Outcome, EndsWith, Has, AreAllOutcomes}
use Rattle.search.specs.declared.kinds.Goal.{Goal}
use Rattle.search.specs.declared.kinds.Goal.TheVariants as the_goal
use Rattle.search.specs.declared.kinds.Kind.{Kind}
use Rattle.search.specs.declared.kinds.Kinds.{Kinds}
use Rattle.search.specs.declared.run_outcomes.wanted.Wanted.{Wanted}
use Rattle.schedule.specs.Joined.{AreJoined}
use Rattle.search.specs.GivingUp.{GivesUp}
use Rattle.search.specs.Kinds.{Shows, AreAllKinds, wanted_of, is_sought}
use Rattle.search.specs.met_states.Met.{HasMetAll}
use Rattle.search.specs.run_outcomes.Outcomes.{IsWanted}
use Rattle.search.specs.declared.searching.Verdict.{Verdict}
use Rattle.search.specs.declared.searching.Verdict.TheVariants as verdict

-- These events run from the opening state to one in which no thread may step, no limit stood at any of them, and the outcome is wanted.
pub record IsFound (trees : Program) (limits : Limits) (want : Wanted) (events : List Event) : Type 0 where
  pub outcome : Outcome
  pub ends : EndsWith trees limits.frames events outcome
  pub within : IsTrue (within_limits trees (bounds_of limits) events)
  pub is_wanted : IsWanted want outcome

-- These events run from the opening state to such a state, and no limit stood at any of them.
pub record ComesTo (trees : Program) (limits : Limits) (P : State → Type 0) (events : List Event) : Type 0 where
  pub state : State
  pub reached : run trees limits.frames events ≡ Some state
  pub within : IsTrue (within_limits trees (bounds_of limits) events)
  pub is : P state

-- a run that is to be found: it ends with an outcome that is wanted, or comes to a state of a kind that is to be found, where it may go on
abbrev pub IsRunFor : Program → Limits → Goal → List Event → Type 0
IsRunFor trees limits (the_goal.Outcome want) events = IsFound trees limits want events
IsRunFor trees limits (the_goal.Kind kind) events = ComesTo trees limits (Shows trees limits.frames kind) events
IsRunFor trees limits the_goal.AnyKind events = ComesTo trees limits (λ state. (kind : Kind) × Shows trees limits.frames kind state) events

-- a schedule of such events, in as few entries as they can have
abbrev pub IsFoundBy : Program → Limits → Goal → List ScheduleEntry → Type 0
IsFoundBy trees limits goal schedule = IsRunFor trees limits goal (events_of schedule) × AreJoined schedule

-- These are the outcomes of all runs that come to an end, whatever the limits on objects, cells, monitors and threads, and none is wanted.
-- These are the kinds of the states that any run comes to, ending or not, and none is to be found. So many states were met: each event
-- from one of them leads to another one, and those that are quiet have these outcomes.
pub record IsComplete (trees : Program) (limits : Limits) (goal : Goal) (states : ℕ) (outcomes : List Outcome) (kinds : Kinds)
    : Type 0 where
  pub all : AreAllOutcomes trees limits.frames outcomes
  pub none : (outcome : Outcome) → Has outcomes outcome → IsWanted (wanted_of goal) outcome → ⊥
  pub kinds_are : AreAllKinds trees limits.frames kinds
  pub unsought : IsFalse (is_sought goal kinds)
  pub schedules : List (List Event)
  pub count : length schedules ≡ states
  pub met : HasMetAll trees limits.frames schedules outcomes

-- what is said where so many states may be met, and so many were, by a search that may be stopped
abbrev pub Says : Program → Limits → Goal → (may_stop : Bool) → (most states : ℕ) → Verdict → Type 0
Says trees limits goal may_stop most states (verdict.Found schedule) = IsFoundBy trees limits goal schedule
Says trees limits goal may_stop most states (verdict.Complete outcomes kinds) = IsComplete trees limits goal states outcomes kinds
Says trees limits goal may_stop most states verdict.GaveUp = IsTrue may_stop ⊎ GivesUp trees limits most states
