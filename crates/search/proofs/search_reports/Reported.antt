-- What is answered where a search has found a run.
use Rattle.std.proofs.Common.{◌≡◌, List, [], ◌++◌, Some, Result, Ok, Err, sym, ap, subst, ◌∙◌}
use Rattle.std.specs.Prelude.{IfOk, IsTrue, IsFalse}
use Rattle.std.proofs.lemmas.List.{append-nil}
use Rattle.std.proofs.lemmas.Option.{same_Some}
use Rattle.model.specs.declared.end.End.{End}
use Rattle.model.specs.declared.end.End.TheVariants as ends
use Rattle.model.specs.declared.event.Event.{Event}
use Rattle.model.specs.declared.event.ScheduleEntry.{ScheduleEntry}
use Rattle.model.specs.declared.limits.Limits.{Limits}
use Rattle.model.specs.declared.report.Report.{Report}
use Rattle.model.specs.Classes.{Program}
use Rattle.model.specs.LimitStands.{bounds_of}
use Rattle.model.specs.Meaning.{meaning}
use Rattle.model.specs.Run.{run, is_quiet}
use Rattle.model.specs.State.{State}
use Rattle.machine.specs.machine_replay.Replays.{IsReplay, EndFits, text_of}
use Rattle.search.specs.declared.searching.Verdict.{Verdict}
use Rattle.search.specs.declared.searching.Verdict.TheVariants as verdict
use Rattle.search.specs.declared.search_reports.answers.Answer.{Answer}
use Rattle.search.specs.declared.search_reports.answers.Answer.TheVariants as answer
use Rattle.search.specs.declared.kinds.Kinds.{Kinds}
use Rattle.search.specs.RacyStates.{TellsRace}
use Rattle.search.specs.Verdicts.{Says}
use Rattle.search.specs.search_reports.Answers.{Answers, IsAnswerTo, IsRaceKept, IsReportOf, IsRunTold, TellsRaceOf}
use Rattle.run_laws.specs.interleavings.Ends.{Outcome}

-- the report of a replay to whose end all events were done
module _ (trees : Program) (events : List Event) (limits : Limits) (r : Report) (end : End) (replay : IsReplay trees events limits r end) where
  module _ (so : End) (is : end ≡ so) (none : replay.left ≡ []) where
    all : replay.front ≡ events
    all = sym (replay.events_are ∙ (ap (λ l. replay.front ++ l) none ∙ append-nil replay.front))

    means : meaning trees limits.frames events so ≡ Some (text_of r so)
    means = subst (λ l. meaning trees limits.frames l so ≡ Some (text_of r so)) all (subst (λ e. meaning trees limits.frames replay.front e ≡ Some (text_of r e)) is replay.means)

    state_is : (state : State) → run trees limits.frames events ≡ Some state → replay.state ≡ state
    state_is state reached = same_Some replay.state state (sym replay.reached ∙ (ap (run trees limits.frames) all ∙ reached))

  fits : (so : End) → end ≡ so → EndFits trees (bounds_of limits) replay.state replay.front replay.left so
  fits so is = subst (EndFits trees (bounds_of limits) replay.state replay.front replay.left) is replay.ended

  pub quiet_reported : end ≡ ends.Quiet → IsReportOf trees limits.frames events ends.Quiet r
  quiet_reported is =
      let fit = fits ends.Quiet is in
      record {
        means = means ends.Quiet is fit.0;
        ends = λ state reached. subst (λ s. IsTrue (is_quiet trees limits.frames s)) (state_is ends.Quiet is fit.0 state reached) fit.1;
      }

  pub moving_reported : end ≡ ends.Schedule → IsReportOf trees limits.frames events ends.Schedule r
  moving_reported is =
      let fit = fits ends.Schedule is in
      record {
        means = means ends.Schedule is fit.0;
        ends = λ state reached. subst (λ s. IsFalse (is_quiet trees limits.frames s)) (state_is ends.Schedule is fit.0 state reached) fit.1;
      }

-- where there was memory for it
pub told_if : (trees : Program) (limits : Limits) (v : Verdict) (schedule : List ScheduleEntry) → v ≡ verdict.Found schedule → {E : Type 0} (result : Result Answer E)
    → IfOk result (IsRunTold trees limits schedule) → IfOk result (IsAnswerTo trees limits v)
told_if trees limits v schedule is (Ok a) told =
    λ goal may_stop most states says. subst (Answers trees limits goal may_stop most states) (sym told.2) (subst (Says trees limits goal may_stop most states) is says, told.3)
told_if trees limits v schedule is (Err e) told = tt

-- ---- what is told of races beside it

pub found_race : (trees : Program) (limits : Limits) (v : Verdict) (schedule : List ScheduleEntry) → {E : Type 0} (result : Result Answer E)
    → IfOk result (IsRunTold trees limits schedule) → IfOk result (IsRaceKept trees limits v)
found_race trees limits v schedule (Ok a) told = λ race tells. subst (λ (x : Answer). TellsRaceOf trees limits x race) (sym told.2) tt
found_race trees limits v schedule (Err e) told = tt

pub race_kept : (trees : Program) (limits : Limits) (v : Verdict) (outcomes : List Outcome) (kinds : Kinds) → v ≡ verdict.Complete outcomes kinds
    → IsRaceKept trees limits v (answer.Complete outcomes kinds)
race_kept trees limits v outcomes kinds is race tells = subst (λ x. TellsRace trees limits x race) is tells
