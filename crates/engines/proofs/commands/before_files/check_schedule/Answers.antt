use Rattle.std.proofs.Common.{inr, subst}
use Rattle.std.proofs.lemmas.Result.{err_from_is_err_and}
use Rattle.engines.specs.Failures.{FolderMayFail, TellsFailures}
use Rattle.engines.specs.Files.{failures_of}
use Rattle.engines.proofs.FailureLemmas.{failed_of, told_by_itself}
use Rattle.engines.proofs.PlaceLemmas.{unread_is_kept}
use Rattle.engines.proofs.commands.before_files.check_schedule.Goals as goal

pub returns-in_err-read_words-clause-kept : goal.returns-in_err-read_words-clause-kept
returns-in_err-read_words-clause-kept g c =
    let p = err_from_is_err_and c.from_residual.result c.from_residual.ensures.1 in
    rw (p.1, p.2) (inr (_, c.schedule_source-schedule.ensures.at, λ lefts options. unread_is_kept _ _ lefts options c.in_err-read_words.ensures.kept))

pub returns-in_err-read_words-clause-told : goal.returns-in_err-read_words-clause-told
returns-in_err-read_words-clause-told g c =
    let p = err_from_is_err_and c.from_residual.result c.from_residual.ensures.1 in
    let may_fail = FolderMayFail g.F.Folder.may_fail in
    rw (p.1, p.2) (λ n. subst (λ r. TellsFailures may_fail r n n) (c.in_err-read_words.was) (told_by_itself (λ file. failures_of file.reading) may_fail
    (λ file n failed. (file.folder.now, file.path.now, file.failed (failed_of file.reading n failed)))
    c.read_words.result c.read_words.new.file _ n c.schedule_source-schedule.ensures.none c.read_words.ensures.counted))
