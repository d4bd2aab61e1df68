-- What a search promises, in the words of the theorem.
use Rattle.std.proofs.Common.{◌⊎◌, ℕ, Bool, List, [], inl, inr, subst, sym}
use Rattle.std.specs.Prelude.{IsTrue}
use Rattle.model.specs.declared.end.End.{End}
use Rattle.model.specs.declared.end.End.TheVariants as ends
use Rattle.model.specs.declared.event.Event.{Event}
use Rattle.model.specs.declared.limits.Limits.{Limits}
use Rattle.model.specs.declared.report.Report.{Report}
use Rattle.model.specs.Classes.{Program}
use Rattle.model.specs.Schedule.{events_of}
use Rattle.model.specs.State.{State}
use Rattle.run_laws.specs.interleavings.Ends.{Outcome}
use Rattle.search.specs.GivingUp as giving_up
use Rattle.search.specs.Kinds as of_kinds
use Rattle.search.specs.Verdicts as verdicts
use Rattle.search.specs.declared.kinds.Goal.{Goal}
use Rattle.search.specs.declared.kinds.Goal.TheVariants as goals
use Rattle.search.specs.declared.kinds.Kind.{Kind}
use Rattle.search.specs.declared.kinds.Kind.TheVariants as kinds
use Rattle.search.specs.declared.kinds.Kinds.{Kinds}
use Rattle.search.specs.declared.search_reports.answers.Answer.{Answer}
use Rattle.search.specs.declared.search_reports.answers.Answer.TheVariants as answers
use Rattle.search.specs.run_outcomes.Outcomes.{IsWanted}
use Rattle.search.specs.search_reports.Answers as reports
use Rattle.engines.specs.Theorem.{EndFits, GivesUp, HasManyWaiters, IsComplete, IsFound, IsLimited, IsShown, Says, Shows}

-- ---- kinds of states

shows : (trees : Program) (frames : ℕ) (kind : Kind) (state : State) → of_kinds.Shows trees frames kind state → Shows trees frames kind state
shows trees frames kinds.Race state is = is
shows trees frames kinds.Uncaught state is = is
shows trees frames kinds.Deadlock state is = is
shows trees frames kinds.Endless state is = is

shows_below : (trees : Program) (frames : ℕ) (kind : Kind) (state : State) → Shows trees frames kind state → of_kinds.Shows trees frames kind state
shows_below trees frames kinds.Race state is = is
shows_below trees frames kinds.Uncaught state is = is
shows_below trees frames kinds.Deadlock state is = is
shows_below trees frames kinds.Endless state is = is

shown : (trees : Program) (frames : ℕ) (kind : Kind) → of_kinds.IsShown trees frames kind → IsShown trees frames kind
shown trees frames kind is = (is.0, is.1, shows trees frames kind is.0 is.2)

shown_below : (trees : Program) (frames : ℕ) (kind : Kind) → IsShown trees frames kind → of_kinds.IsShown trees frames kind
shown_below trees frames kind is = (is.0, is.1, shows_below trees frames kind is.0 is.2)

-- ---- what is found

ends_so : (trees : Program) (limits : Limits) (events : List Event) (state : State) (end : End)
    → reports.EndsSo trees limits.frames state end → EndFits trees limits events [] state end
ends_so trees limits events state ends.Quiet is = is
ends_so trees limits events state ends.Schedule is = is
ends_so trees limits events state (ends.NotEnabled i) is = absurd is
ends_so trees limits events state (ends.Refused i cause) is = absurd is
ends_so trees limits events state ends.Budget is = absurd is

found : (trees : Program) (limits : Limits) (goal : Goal) (events : List Event) (r : Report) (end : End)
    → verdicts.IsRunFor trees limits goal events → reports.IsReportOf trees limits.frames events end r → IsFound trees limits goal events r end
found trees limits (goals.Outcome want) events r end is report = record {
  state = is.ends.state;
  reached = is.ends.reached;
  within = is.within;
  sought = (is.ends.quiet, subst (λ (o : Outcome). IsWanted want o) (sym is.ends.outcome_is) is.is_wanted);
  means = report.means;
  ended = ends_so trees limits events is.ends.state end (report.ends is.ends.state is.ends.reached);
}
found trees limits (goals.Kind kind) events r end is report = record {
  state = is.state;
  reached = is.reached;
  within = is.within;
  sought = shows trees limits.frames kind is.state is.is;
  means = report.means;
  ended = ends_so trees limits events is.state end (report.ends is.state is.reached);
}
found trees limits goals.AnyKind events r end is report = record {
  state = is.state;
  reached = is.reached;
  within = is.within;
  sought = (is.is.0, shows trees limits.frames is.is.0 is.state is.is.1);
  means = report.means;
  ended = ends_so trees limits events is.state end (report.ends is.state is.reached);
}

-- ---- what is complete

complete : (trees : Program) (limits : Limits) (goal : Goal) (states : ℕ) (outcomes : List Outcome) (told : Kinds)
    → verdicts.IsComplete trees limits goal states outcomes told → IsComplete trees limits goal states outcomes told
complete trees limits goal states outcomes told is = record {
  listed = is.all.listed;
  reached = is.all.reached;
  shown = λ kind tells. shown trees limits.frames kind ((is.kinds_are kind).0 tells);
  not_shown = λ kind tells_not its. (is.kinds_are kind).1 tells_not (shown_below trees limits.frames kind its);
  unwanted = is.none;
  unsought = is.unsought;
  schedules = is.schedules;
  count = is.count;
  met = is.met;
}

-- ---- why a search gives up

stopped : (trees : Program) (limits : Limits) (events : List Event)
    → giving_up.IsLimited trees limits events ⊎ giving_up.HasManyWaiters trees limits.frames events
    → IsLimited trees limits events ⊎ HasManyWaiters trees limits.frames events
stopped trees limits events (inl limited) =
    inl (record { state = limited.state; reached = limited.reached; next = limited.event; enabled = limited.enabled; cause = limited.cause; stands = limited.stands })
stopped trees limits events (inr waiters) = inr (waiters.thread, waiters.state, waiters.reached)

gives_up : (trees : Program) (limits : Limits) (may_stop : Bool) (most states : ℕ)
    → IsTrue may_stop ⊎ giving_up.GivesUp trees limits most states → GivesUp trees limits may_stop most states
gives_up trees limits may_stop most states (inl may) = inl may
gives_up trees limits may_stop most states (inr (inl many)) = inr (inl many)
gives_up trees limits may_stop most states (inr (inr is)) = inr (inr (is.0, stopped trees limits is.0 is.1))

-- ---- what is said

pub says : (trees : Program) (limits : Limits) (goal : Goal) (may_stop : Bool) (most states : ℕ) (answer : Answer)
    → reports.Answers trees limits goal may_stop most states answer → Says trees limits goal may_stop most states answer
says trees limits goal may_stop most states (answers.Found schedule r end) is =
    (found trees limits goal (events_of schedule) r end is.0.0 is.1, is.0.1)
says trees limits goal may_stop most states (answers.Complete outcomes told) is = complete trees limits goal states outcomes told is
says trees limits goal may_stop most states answers.GaveUp is = gives_up trees limits may_stop most states is
