use Rattle.std.proofs.Common.{◌∙◌, ap, inl, map, refl, subst, sum_by}
use Rattle.std.proofs.lemmas.Result.{IfErr-weaker, IfOk-weaker, err_from_is_err_and}
use Rattle.engines.specs.Recordings.{conditions_of}
use Rattle.engines.specs.PagedRuns.{IsUnpaged, Pages}
use Rattle.engines.specs.Failures.{FolderMayFail}
use Rattle.engines.specs.Files.{IsScheduleAt, failures_of, left_of}
use Rattle.engines.proofs.FailureLemmas.{failed_of, told_by_more}
use Rattle.engines.proofs.commands.run_pages.paged.Goals as goal

pub returns-in_err-sources-clause-faulty : goal.returns-in_err-sources-clause-faulty
returns-in_err-sources-clause-faulty g c =
    let p = err_from_is_err_and c.from_residual.result c.from_residual.ensures.1 in
    let held = g.F.Folder.held in
    let at = subst (λ word. IsScheduleAt (held c.args.folder.now) word (left_of (held c.schedule_source-schedule.result.folder.now c.schedule_source-schedule.result.path.now) c.schedule_source-schedule.result.reading)) c.as_str.ensures.value c.schedule_source-schedule.ensures.at in
    rw (p.1, p.2, c.in_err-sources.ensures.memory) (c.page_window_of-window.result, c.page_window_of-window.ensures, (_, at, inl refl))

pub returns-clause-told : goal.returns-clause-told
returns-clause-told g c =
    let none = ap (sum_by (λ file. failures_of file.reading)) c.as_mut_slice.ensures.value ∙ c.in_ok-sources.ensures.none in
    told_by_more (λ file. failures_of file.reading) (FolderMayFail g.F.Folder.may_fail)
    (λ file n failed. (file.folder.now, file.path.now, file.failed (failed_of file.reading n failed)))
    c.page_engine.result c.page_engine.new.schedule c.page_engine.new.files _ _ _ _ c.schedule_source-schedule.ensures.none none c.page_engine.ensures.counted

pub returns-clause-paged : goal.returns-clause-paged
returns-clause-paged g c =
    let held = g.F.Folder.held in
    let contents = g.W.Sink.contents in
    let options = c.args.options.now in
    let conditions = conditions_of options.limits options.any_files c.args.given 10000000 in
    let schedule = left_of (held c.schedule_source-schedule.result.folder.now c.schedule_source-schedule.result.path.now) c.schedule_source-schedule.result.reading in
    let at = subst (λ word. IsScheduleAt (held c.args.folder.now) word schedule) c.as_str.ensures.value c.schedule_source-schedule.ensures.at in
    let sources = map (λ file. left_of (held file.folder.now file.path.now) file.reading) c.as_mut_slice.result.now in
    let left = ap (map (λ file. left_of (held file.folder.now file.path.now) file.reading)) c.as_mut_slice.ensures.value ∙ c.in_ok-sources.ensures.left in
    let window = c.page_window_of-window.result in
    IfOk-weaker c.page_engine.result _ _ (λ status paged.
    let over = subst (λ over. Pages schedule sources over window paged.0 paged.1.items status) c.conditions_of-conditions.ensures paged.3 in
    let done = subst (λ lefts. Pages schedule lefts conditions window paged.0 paged.1.items status) left over in
    (paged.0, paged.1, paged.2, (window, c.page_window_of-window.ensures, (schedule, at, done)), paged.4)) c.page_engine.ensures.paged

pub returns-clause-faulty : goal.returns-clause-faulty
returns-clause-faulty g c =
    let held = g.F.Folder.held in
    let contents = g.W.Sink.contents in
    let options = c.args.options.now in
    let conditions = conditions_of options.limits options.any_files c.args.given 10000000 in
    let schedule = left_of (held c.schedule_source-schedule.result.folder.now c.schedule_source-schedule.result.path.now) c.schedule_source-schedule.result.reading in
    let at = subst (λ word. IsScheduleAt (held c.args.folder.now) word schedule) c.as_str.ensures.value c.schedule_source-schedule.ensures.at in
    let sources = map (λ file. left_of (held file.folder.now file.path.now) file.reading) c.as_mut_slice.result.now in
    let left = ap (map (λ file. left_of (held file.folder.now file.path.now) file.reading)) c.as_mut_slice.ensures.value ∙ c.in_ok-sources.ensures.left in
    let window = c.page_window_of-window.result in
    let old = contents c.args.output.now in
    let new = contents c.page_engine.new.output in
    IfErr-weaker c.page_engine.result _ _ (λ fault untraced.
    let over = subst (λ over. IsUnpaged schedule sources over window old new fault) c.conditions_of-conditions.ensures untraced in
    let undone = subst (λ lefts. IsUnpaged schedule lefts conditions window old new fault) left over in
    (window, c.page_window_of-window.ensures, (schedule, at, undone))) c.page_engine.ensures.faulty
