use Rattle.std.proofs.Common.{◌∙◌, ap, inl, map, refl, subst, sum_by}
use Rattle.std.proofs.lemmas.Result.{IfErr-weaker, IfOk-weaker, err_from_is_err_and}
use Rattle.engines.specs.Recordings.{conditions_of}
use Rattle.engines.specs.Placings.{IsUnplaced, Places}
use Rattle.engines.specs.Failures.{FolderMayFail}
use Rattle.engines.specs.Files.{IsScheduleAt, failures_of, left_of}
use Rattle.engines.proofs.FailureLemmas.{failed_of, told_by_more}
use Rattle.engines.proofs.commands.placings.places.Goals as goal

pub returns-in_err-sources-clause-faulty : goal.returns-in_err-sources-clause-faulty
returns-in_err-sources-clause-faulty g c =
    let p = err_from_is_err_and c.from_residual.result c.from_residual.ensures.1 in
    let held = g.F.Folder.held in
    let at = subst (λ word. IsScheduleAt (held c.args.folder.now) word (left_of (held c.schedule_source-schedule.result.folder.now c.schedule_source-schedule.result.path.now) c.schedule_source-schedule.result.reading)) c.as_str.ensures.value c.schedule_source-schedule.ensures.at in
    rw (p.1, p.2, c.in_err-sources.ensures.memory) (c.usual_limits-limits.result, c.usual_limits-limits.ensures, (_, at, inl refl))

pub returns-clause-told : goal.returns-clause-told
returns-clause-told g c =
    let none = ap (sum_by (λ file. failures_of file.reading)) c.as_mut_slice.ensures.value ∙ c.in_ok-sources.ensures.none in
    told_by_more (λ file. failures_of file.reading) (FolderMayFail g.F.Folder.may_fail)
    (λ file n failed. (file.folder.now, file.path.now, file.failed (failed_of file.reading n failed)))
    c.places_engine.result c.places_engine.new.schedule c.places_engine.new.files _ _ _ _ c.schedule_source-schedule.ensures.none none c.places_engine.ensures.counted

pub returns-clause-placed : goal.returns-clause-placed
returns-clause-placed g c =
    let held = g.F.Folder.held in
    let contents = g.W.Sink.contents in
    let options = c.args.options.now in
    let conditions = conditions_of c.usual_limits-limits.result options.any_files c.args.given 10000000 in
    let schedule = left_of (held c.schedule_source-schedule.result.folder.now c.schedule_source-schedule.result.path.now) c.schedule_source-schedule.result.reading in
    let at = subst (λ word. IsScheduleAt (held c.args.folder.now) word schedule) c.as_str.ensures.value c.schedule_source-schedule.ensures.at in
    let sources = map (λ file. left_of (held file.folder.now file.path.now) file.reading) c.as_mut_slice.result.now in
    let left = ap (map (λ file. left_of (held file.folder.now file.path.now) file.reading)) c.as_mut_slice.ensures.value ∙ c.in_ok-sources.ensures.left in
    let limits = c.usual_limits-limits.result in
    IfOk-weaker c.places_engine.result _ _ (λ status placed.
    let over = subst (λ over. Places schedule sources over placed.0) c.conditions_of-conditions.ensures placed.2 in
    let done = subst (λ lefts. Places schedule lefts conditions placed.0) left over in
    (placed.0, placed.1, (limits, c.usual_limits-limits.ensures, (schedule, at, done)), placed.3)) c.places_engine.ensures.placed

pub returns-clause-faulty : goal.returns-clause-faulty
returns-clause-faulty g c =
    let held = g.F.Folder.held in
    let contents = g.W.Sink.contents in
    let options = c.args.options.now in
    let conditions = conditions_of c.usual_limits-limits.result options.any_files c.args.given 10000000 in
    let schedule = left_of (held c.schedule_source-schedule.result.folder.now c.schedule_source-schedule.result.path.now) c.schedule_source-schedule.result.reading in
    let at = subst (λ word. IsScheduleAt (held c.args.folder.now) word schedule) c.as_str.ensures.value c.schedule_source-schedule.ensures.at in
    let sources = map (λ file. left_of (held file.folder.now file.path.now) file.reading) c.as_mut_slice.result.now in
    let left = ap (map (λ file. left_of (held file.folder.now file.path.now) file.reading)) c.as_mut_slice.ensures.value ∙ c.in_ok-sources.ensures.left in
    let limits = c.usual_limits-limits.result in
    let old = contents c.args.output.now in
    let new = contents c.places_engine.new.output in
    IfErr-weaker c.places_engine.result _ _ (λ fault unplaced.
    let over = subst (λ over. IsUnplaced schedule sources over old new fault) c.conditions_of-conditions.ensures unplaced in
    let undone = subst (λ lefts. IsUnplaced schedule lefts conditions old new fault) left over in
    (limits, c.usual_limits-limits.ensures, (schedule, at, undone))) c.places_engine.ensures.faulty
