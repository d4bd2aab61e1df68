use Rattle.std.proofs.Common.{◌∙◌, ap, inl, map, refl, subst, sum_by, vec_items}
use Rattle.std.specs.Prelude.{unwrap_or}
use Rattle.std.specs.Option.{option_map}
use Rattle.std.proofs.lemmas.Result.{IfErr-weaker, IfOk-weaker, err_from_is_err_and}
use Rattle.engines.specs.Recordings.{conditions_of}
use Rattle.engines.specs.Continuations.{Continues, IsUncontinued}
use Rattle.engines.specs.Failures.{FolderMayFail}
use Rattle.engines.specs.Files.{IsScheduleAt, failures_of, left_of}
use Rattle.engines.proofs.FailureLemmas.{failed_of, told_by_more}
use Rattle.engines.proofs.commands.replays.continued.Goals as goal

pub returns-clause-told : goal.returns-clause-told
returns-clause-told g c =
    let none = ap (sum_by (λ file. failures_of file.reading)) c.as_mut_slice.ensures.value ∙ c.in_ok-sources.ensures.none in
    told_by_more (λ file. failures_of file.reading) (FolderMayFail g.F.Folder.may_fail)
    (λ file n failed. (file.folder.now, file.path.now, file.failed (failed_of file.reading n failed)))
    c.continue_engine.result c.continue_engine.new.schedule c.continue_engine.new.files _ _ _ _ c.schedule_source-schedule.ensures.none none c.continue_engine.ensures.counted

pub returns-in_err-sources-clause-faulty : goal.returns-in_err-sources-clause-faulty
returns-in_err-sources-clause-faulty g c =
    let p = err_from_is_err_and c.from_residual.result c.from_residual.ensures.1 in
    let held = g.F.Folder.held in
    let at = subst (λ word. IsScheduleAt (held c.args.folder.now) word (left_of (held c.schedule_source-schedule.result.folder.now c.schedule_source-schedule.result.path.now) c.schedule_source-schedule.result.reading)) c.as_str.ensures.value c.schedule_source-schedule.ensures.at in
    rw (p.1, p.2, c.in_err-sources.ensures.memory) (_, at, inl (refl, refl))

pub returns-clause-continued : goal.returns-clause-continued
returns-clause-continued g c =
    let held = g.F.Folder.held in
    let contents = g.W.Sink.contents in
    let options = c.args.options.now in
    let conditions = conditions_of options.limits options.any_files c.args.given (unwrap_or options.budget 10000000) in
    let schedule = left_of (held c.schedule_source-schedule.result.folder.now c.schedule_source-schedule.result.path.now) c.schedule_source-schedule.result.reading in
    let at = subst (λ word. IsScheduleAt (held c.args.folder.now) word schedule) c.as_str.ensures.value c.schedule_source-schedule.ensures.at in
    let sources = map (λ file. left_of (held file.folder.now file.path.now) file.reading) c.as_mut_slice.result.now in
    let left = ap (map (λ file. left_of (held file.folder.now file.path.now) file.reading)) c.as_mut_slice.ensures.value ∙ c.in_ok-sources.ensures.left in
    let then_run = c.args.then_run.now in
    let made = option_map vec_items c.continue_engine.new.file in
    IfOk-weaker c.continue_engine.result _ _ (λ status continued.
    let over = subst (λ over. Continues schedule sources over then_run continued.0 made status) c.conditions_of.ensures continued.1 in
    let done = subst (λ lefts. Continues schedule lefts conditions then_run continued.0 made status) left over in
    (continued.0, (schedule, at, done), continued.2)) c.continue_engine.ensures.continued

pub returns-clause-faulty : goal.returns-clause-faulty
returns-clause-faulty g c =
    let held = g.F.Folder.held in
    let contents = g.W.Sink.contents in
    let options = c.args.options.now in
    let conditions = conditions_of options.limits options.any_files c.args.given (unwrap_or options.budget 10000000) in
    let schedule = left_of (held c.schedule_source-schedule.result.folder.now c.schedule_source-schedule.result.path.now) c.schedule_source-schedule.result.reading in
    let at = subst (λ word. IsScheduleAt (held c.args.folder.now) word schedule) c.as_str.ensures.value c.schedule_source-schedule.ensures.at in
    let sources = map (λ file. left_of (held file.folder.now file.path.now) file.reading) c.as_mut_slice.result.now in
    let left = ap (map (λ file. left_of (held file.folder.now file.path.now) file.reading)) c.as_mut_slice.ensures.value ∙ c.in_ok-sources.ensures.left in
    let then_run = c.args.then_run.now in
    let made = option_map vec_items c.continue_engine.new.file in
    let kept = option_map vec_items c.args.file.now in
    let old = contents c.args.output.now in
    let new = contents c.continue_engine.new.report in
    IfErr-weaker c.continue_engine.result _ _ (λ fault uncontinued.
    let over = subst (λ over. IsUncontinued schedule sources over then_run old new kept made fault) c.conditions_of.ensures uncontinued in
    let undone = subst (λ lefts. IsUncontinued schedule lefts conditions then_run old new kept made fault) left over in
    (schedule, at, undone)) c.continue_engine.ensures.faulty
