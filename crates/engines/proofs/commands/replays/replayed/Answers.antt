use Rattle.std.proofs.Common.{◌∙◌, ap, inl, map, refl, subst, sum_by}
use Rattle.std.specs.Prelude.{unwrap_or}
use Rattle.std.proofs.lemmas.Result.{IfErr-weaker, IfOk-weaker, err_from_is_err_and}
use Rattle.engines.specs.Recordings.{conditions_of}
use Rattle.engines.specs.Replays.{IsFaulty}
use Rattle.engines.specs.Theorem.{Replays}
use Rattle.engines.specs.Failures.{FolderMayFail}
use Rattle.engines.specs.Files.{IsScheduleAt, failures_of, left_of}
use Rattle.engines.proofs.FailureLemmas.{failed_of, told_by_more}
use Rattle.engines.proofs.commands.replays.replayed.Goals as goal

pub returns-clause-told : goal.returns-clause-told
returns-clause-told g c =
    let none = ap (sum_by (λ file. failures_of file.reading)) c.as_mut_slice.ensures.value ∙ c.in_ok-sources.ensures.none in
    told_by_more (λ file. failures_of file.reading) (FolderMayFail g.F.Folder.may_fail)
    (λ file n failed. (file.folder.now, file.path.now, file.failed (failed_of file.reading n failed)))
    c.replay_engine.result c.replay_engine.new.schedule c.replay_engine.new.files _ _ _ _ c.schedule_source-schedule.ensures.none none c.replay_engine.ensures.counted

pub returns-in_err-sources-clause-faulty : goal.returns-in_err-sources-clause-faulty
returns-in_err-sources-clause-faulty g c =
    let p = err_from_is_err_and c.from_residual.result c.from_residual.ensures.1 in
    let held = g.F.Folder.held in
    let at = subst (λ word. IsScheduleAt (held c.args.folder.now) word (left_of (held c.schedule_source-schedule.result.folder.now c.schedule_source-schedule.result.path.now) c.schedule_source-schedule.result.reading)) c.as_str.ensures.value c.schedule_source-schedule.ensures.at in
    rw (p.1, p.2, c.in_err-sources.ensures.memory) (_, at, inl refl)

pub returns-clause-replayed : goal.returns-clause-replayed
returns-clause-replayed g c =
    let held = g.F.Folder.held in
    let contents = g.W.Sink.contents in
    let options = c.args.options.now in
    let conditions = conditions_of options.limits options.any_files c.args.given (unwrap_or options.budget 10000000) in
    let schedule = left_of (held c.schedule_source-schedule.result.folder.now c.schedule_source-schedule.result.path.now) c.schedule_source-schedule.result.reading in
    let at = subst (λ word. IsScheduleAt (held c.args.folder.now) word schedule) c.as_str.ensures.value c.schedule_source-schedule.ensures.at in
    let sources = map (λ file. left_of (held file.folder.now file.path.now) file.reading) c.as_mut_slice.result.now in
    let left = ap (map (λ file. left_of (held file.folder.now file.path.now) file.reading)) c.as_mut_slice.ensures.value ∙ c.in_ok-sources.ensures.left in
    IfOk-weaker c.replay_engine.result _ _ (λ status replayed.
    let over = subst (λ over. Replays schedule sources over replayed.0 status) c.conditions_of.ensures replayed.1 in
    let done = subst (λ lefts. Replays schedule lefts conditions replayed.0 status) left over in
    (replayed.0, (schedule, at, done), replayed.2)) c.replay_engine.ensures.replayed

pub returns-clause-faulty : goal.returns-clause-faulty
returns-clause-faulty g c =
    let held = g.F.Folder.held in
    let contents = g.W.Sink.contents in
    let options = c.args.options.now in
    let conditions = conditions_of options.limits options.any_files c.args.given (unwrap_or options.budget 10000000) in
    let schedule = left_of (held c.schedule_source-schedule.result.folder.now c.schedule_source-schedule.result.path.now) c.schedule_source-schedule.result.reading in
    let at = subst (λ word. IsScheduleAt (held c.args.folder.now) word schedule) c.as_str.ensures.value c.schedule_source-schedule.ensures.at in
    let sources = map (λ file. left_of (held file.folder.now file.path.now) file.reading) c.as_mut_slice.result.now in
    let left = ap (map (λ file. left_of (held file.folder.now file.path.now) file.reading)) c.as_mut_slice.ensures.value ∙ c.in_ok-sources.ensures.left in
    let old = contents c.args.output.now in
    let new = contents c.replay_engine.new.report in
    IfErr-weaker c.replay_engine.result _ _ (λ fault faulty.
    let over = subst (λ over. IsFaulty schedule sources over old new fault) c.conditions_of.ensures faulty in
    let undone = subst (λ lefts. IsFaulty schedule lefts conditions old new fault) left over in
    (schedule, at, undone)) c.replay_engine.ensures.faulty
