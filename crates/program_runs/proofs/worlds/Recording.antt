-- What is told of a world that has ended.
use Rattle.std.proofs.Common.{◌≡◌, ℕ, [], ◌∷◌, ◌++◌, Some, Result, Ok, Err, length, refl, sym, ap, subst, ◌∙◌}
use Rattle.std.specs.Prelude.{IfOk}
use Rattle.std.specs.Arc.{arc_value}
use Rattle.model.specs.declared.end.End.{End}
use Rattle.model.specs.declared.report.Report.{Report}
use Rattle.model.specs.Classes.{Program}
use Rattle.model.specs.LimitStands.{bounds_of}
use Rattle.model.specs.Operands.{words}
use Rattle.model.specs.Schedule.{events_of}
use Rattle.model.specs.State.{StateOf}
use Rattle.run_laws.specs.soundness.Runs.{IsNoEventWrong}
use Rattle.run_laws.specs.word_reports.Reports.{IsReportedAs, AreReportsOfWords}
use Rattle.linked_code.specs.declared.program.LinkedProgram.{LinkedProgram}
use Rattle.machine_state.specs.declared.state.Shared.{Shared}
use Rattle.machine_state.specs.shown_runs.Runs.{HasRun}
use Rattle.machine.specs.machine_reports.Told.{ReportsOn, Reports}
use Rattle.machine.proofs.machine_replay.Replayed.{told_of, operands_found}
use Rattle.program_runs.specs.declared.worlds.records.Recorded.{Recorded}
use Rattle.program_runs.specs.worlds.Worlds.{WorldOf, Holds, EndFits}
use Rattle.schedule.specs.Joined.{AreJoined}
use Rattle.program_runs.specs.worlds.Records.{IsRecorded, IsRecordOf, Keeps}
use Rattle.program_runs.specs.worlds.Finishing.{HasTakenTurns, IsReportOn, IsRecordAt}
use Rattle.program_runs.proofs.worlds.Staying.{of_record}

-- ---- the report

pub is_report_on : (w : WorldOf) (classes : Program) (p : LinkedProgram) (shared : Shared) (frames count : ℕ) → classes ≡ w.trees
    → p ≡ w.machine.program → shared ≡ w.machine.shared
    → frames ≡ w.machine.limits.frames → count ≡ length w.events
    → {E : Type 0} (result : Result Report E) → IfOk result (Reports classes p shared frames count) → IfOk result (IsReportOn w)
is_report_on w classes p shared frames count classes_are p_is shared_is frames_are count_is (Err e) reports = tt
is_report_on w classes p shared frames count classes_are p_is shared_is frames_are count_is (Ok r) reports =
    let by_count : Reports classes p shared frames (length w.events) r = subst (λ n. Reports classes p shared frames n r) count_is reports in
    let by_frames : Reports classes p shared w.machine.limits.frames (length w.events) r = subst (λ n. Reports classes p shared n (length w.events) r) frames_are by_count in
    let by_shared : Reports classes p w.machine.shared w.machine.limits.frames (length w.events) r = subst (λ (s : Shared). Reports classes p s w.machine.limits.frames (length w.events) r) shared_is by_frames in
    let by_program : Reports classes w.machine.program w.machine.shared w.machine.limits.frames (length w.events) r =
    subst (λ (q : LinkedProgram). Reports classes q w.machine.shared w.machine.limits.frames (length w.events) r) p_is by_shared in
    subst (λ (t : Program). Reports t w.machine.program w.machine.shared w.machine.limits.frames (length w.events) r) classes_are by_program

-- ---- the record

module _ (reported : AreReportsOfWords) (sound : IsNoEventWrong) (w : WorldOf) (h : Holds w) (end : End) (ended : w.end ≡ Some end) where
  abbrev has : HasRun w.trees w.machine.program (bounds_of w.machine.limits) w.machine.shared w.events
  has = h.done.run

  same : IsReportedAs words w.trees w.machine.limits.frames has.at has.lead.state
  same = reported h.files w.trees h.done.accepted.linkable w.machine.limits.frames has.at has.lead.state has.lead.are

  fits : EndFits w.trees (bounds_of w.machine.limits) has.lead.state w.budget w.events (Some end)
  fits = subst (EndFits w.trees (bounds_of w.machine.limits) has.lead.state w.budget w.events) ended h.fits

  is_recorded : (r : Report) → IsReportOn w r → IsRecorded w.trees w.machine.limits w.budget w.events r end
  is_recorded r reports =
      let on : ReportsOn w.trees w.machine.limits.frames has.at (length w.events) r = reports (bounds_of w.machine.limits) _ has.at h.done.program has.shown in
      record {
        state = has.lead.state;
        reached = has.lead.reached;
        within = has.lead.within;
        few = h.within;
        printed = on.printed ∙ ap (λ (s : StateOf ℕ). s.world.printed) has.lead.are.are;
        threads = on.threads ∙ same.ends;
        count = on.count;
        means = same.report w.events end has.lead.reached ∙ ap Some (told_of w.trees w.machine.limits.frames has.at w.events (length w.events) r refl on end);
        ended = fits;
        found = λ next. operands_found sound h.files w.trees h.done.accepted w.machine.limits.frames (w.events ++ next ∷ []);
      }

  is_record_at : (r : Recorded) → arc_value r.verified ≡ w.trees → r.limits ≡ w.machine.limits → events_of r.schedule ≡ w.events
      → AreJoined r.schedule → IsReportOn w r.report → r.end ≡ end → IsRecordAt w end r
  is_record_at r trees limits events joined reports end_is =
      let by_events : IsRecorded w.trees w.machine.limits w.budget (events_of r.schedule) r.report end = subst (λ l. IsRecorded w.trees w.machine.limits w.budget l r.report end) (sym events) (is_recorded r.report reports) in
      record {
        is = (trees, limits, joined, subst (IsRecorded w.trees w.machine.limits w.budget (events_of r.schedule) r.report) (sym end_is) by_events);
        end_is = end_is;
        events = events;
      }

pub is_record_of : AreReportsOfWords → IsNoEventWrong → (w of : WorldOf) → w ≡ of → Holds w → (end : End) → of.end ≡ Some end
    → (r : Recorded) → arc_value r.verified ≡ w.trees → r.limits ≡ w.machine.limits
    → events_of r.schedule ≡ w.events → AreJoined r.schedule → IsReportOn of r.report → r.end ≡ end → IsRecordAt of end r
is_record_of reported sound w of same h end ended r trees limits events joined reports end_is =
    is_record_at reported sound of (subst Holds same h) end ended r (trees ∙ ap (λ (x : WorldOf). x.trees) same) (limits ∙ ap (λ (x : WorldOf). x.machine.limits) same)
    (events ∙ ap (λ (x : WorldOf). x.events) same) joined reports end_is

-- ---- after turns

pub of_turns : (old new : WorldOf) (end : End) → HasTakenTurns old new → {E : Type 0} (result : Result Recorded E)
    → IfOk result (IsRecordAt new end) → IfOk result (IsRecordOf old.trees old.machine.limits old.budget)
of_turns old new end turns (Ok r) at = of_record old new turns.same r at.is
of_turns old new end turns (Err e) at = tt

pub keeps : (old new : WorldOf) (end : End) → HasTakenTurns old new → new.end ≡ Some end → {E : Type 0} (result : Result Recorded E)
    → IfOk result (IsRecordAt new end) → IfOk result (Keeps old)
keeps old new end turns ended (Err e) at = tt
keeps old new end turns ended (Ok r) at = λ first is.
    let same : new ≡ old = turns.kept first is in
    let ends_so : Some end ≡ Some first = sym ended ∙ ap (λ (w : WorldOf). w.end) same ∙ is in
    let end_is : end ≡ first = cc in
    (at.end_is ∙ end_is, at.events ∙ ap (λ (w : WorldOf). w.events) same)
