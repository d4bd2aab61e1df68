use Rattle.std.proofs.Common.{◌∙◌, ap, inl, map, refl, subst, sum_by, vec_items}
use Rattle.std.specs.Option.{option_map}
use Rattle.std.proofs.lemmas.Result.{IfErr-weaker, IfOk-weaker, err_from_is_err_and}
use Rattle.engines.specs.Failures.{FolderMayFail}
use Rattle.engines.specs.Files.{IsScheduleAt, failures_of, left_of}
use Rattle.engines.specs.Shrinks.{IsUnshrunk, Shrinks}
use Rattle.engines.proofs.FailureLemmas.{failed_of, told_by_more}
use Rattle.engines.proofs.commands.shrinks.shrunk_files.Goals as goal

pub returns-clause-told : goal.returns-clause-told
returns-clause-told g c =
    let none = ap (sum_by (λ file. failures_of file.reading)) c.as_mut_slice.ensures.value ∙ c.in_ok-sources.ensures.none in
    told_by_more (λ file. failures_of file.reading) (FolderMayFail g.F.Folder.may_fail)
    (λ file n failed. (file.folder.now, file.path.now, file.failed (failed_of file.reading n failed)))
    c.shrink_engine.result c.shrink_engine.new.schedule c.shrink_engine.new.files _ _ _ _ c.schedule_source-schedule.ensures.none none c.shrink_engine.ensures.counted

pub returns-in_err-sources-clause-faulty : goal.returns-in_err-sources-clause-faulty
returns-in_err-sources-clause-faulty g c =
    let p = err_from_is_err_and c.from_residual.result c.from_residual.ensures.1 in
    let held = g.F.Folder.held in
    let at = subst (λ word. IsScheduleAt (held c.args.folder.now) word (left_of (held c.schedule_source-schedule.result.folder.now c.schedule_source-schedule.result.path.now) c.schedule_source-schedule.result.reading)) c.as_str.ensures.value c.schedule_source-schedule.ensures.at in
    rw (p.1, p.2, c.in_err-sources.ensures.memory) (_, at, inl (refl, refl))

pub returns-clause-shrunk : goal.returns-clause-shrunk
returns-clause-shrunk g c =
    let held = g.F.Folder.held in
    let options = c.args.options.now in
    let schedule = left_of (held c.schedule_source-schedule.result.folder.now c.schedule_source-schedule.result.path.now) c.schedule_source-schedule.result.reading in
    let at = subst (λ word. IsScheduleAt (held c.args.folder.now) word schedule) c.as_str.ensures.value c.schedule_source-schedule.ensures.at in
    let left = ap (map (λ file. left_of (held file.folder.now file.path.now) file.reading)) c.as_mut_slice.ensures.value ∙ c.in_ok-sources.ensures.left in
    let made = option_map vec_items c.shrink_engine.new.made.file in
    IfOk-weaker c.shrink_engine.result _ _ (λ status shrunk.
    let done = subst (λ lefts. Shrinks schedule c.args.given lefts options c.args.wanted.now shrunk.0 made status) left shrunk.1 in
    (shrunk.0, (schedule, at, done), shrunk.2)) c.shrink_engine.ensures.shrunk

pub returns-clause-faulty : goal.returns-clause-faulty
returns-clause-faulty g c =
    let held = g.F.Folder.held in
    let options = c.args.options.now in
    let schedule = left_of (held c.schedule_source-schedule.result.folder.now c.schedule_source-schedule.result.path.now) c.schedule_source-schedule.result.reading in
    let at = subst (λ word. IsScheduleAt (held c.args.folder.now) word schedule) c.as_str.ensures.value c.schedule_source-schedule.ensures.at in
    let left = ap (map (λ file. left_of (held file.folder.now file.path.now) file.reading)) c.as_mut_slice.ensures.value ∙ c.in_ok-sources.ensures.left in
    let made = option_map vec_items c.shrink_engine.new.made.file in
    let contents = g.W.Sink.contents in
    let kept = option_map vec_items c.args.made.now.file in
    let old = contents c.args.output.now in
    let new = contents c.shrink_engine.new.text in
    IfErr-weaker c.shrink_engine.result _ _ (λ fault unshrunk.
    let undone = subst (λ lefts. IsUnshrunk schedule c.args.given lefts options c.args.wanted.now old new kept made fault) left unshrunk in
    (schedule, at, undone)) c.shrink_engine.ensures.faulty
