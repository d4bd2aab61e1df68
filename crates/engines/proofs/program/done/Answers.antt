use Rattle.std.proofs.Common.{map, refl}
use Rattle.library_files.specs.Adding.{library_file}
use Rattle.std.specs.Prelude.{None}
use Rattle.std.proofs.lemmas.Result.{err_from_is_err_and}
use Rattle.engines.proofs.CommandLemmas.{done_over, no_files, read_too, told_files, told_first, undone_over, unread_over}
use Rattle.engines.proofs.program.done.Goals as goal

pub returns-in_err-files-clause-faulty : goal.returns-in_err-files-clause-faulty
returns-in_err-files-clause-faulty g c =
    let p = err_from_is_err_and c.from_residual.result c.from_residual.ensures.1 in
    rw (p.1, p.2) (None, no_files _ _ _ _ _ _ _ c.in_err-files.field-0.0 c.in_err-files.ensures.faulty refl, λ path. refl)

pub returns-in_err-files-clause-told : goal.returns-in_err-files-clause-told
returns-in_err-files-clause-told g c =
    let p = err_from_is_err_and c.from_residual.result c.from_residual.ensures.1 in
    rw (p.1, p.2) (told_files _ c.in_err-files.field-0.0 _ c.in_err-files.ensures.failed)

pub returns-in_err-check_record-clause-faulty : goal.returns-in_err-check_record-clause-faulty
returns-in_err-check_record-clause-faulty g c =
    let p = err_from_is_err_and c.from_residual-in_err-check_record.result c.from_residual-in_err-check_record.ensures.1 in
    rw (p.1, p.2) (
      None,
      read_too (map library_file c.args.library.now) _ _ (g.I.Source.remaining c.args.input.now) _ _ _ _ _ c.as_slice-paths.ensures.value c.in_ok-files.ensures.files
          c.in_err-check_record.field-0.0 c.in_err-check_record.ensures.read refl,
      λ path. refl,
    )

pub returns-clause-faulty : goal.returns-clause-faulty
returns-clause-faulty g c =
    let undone = c.in-Err-outcome.ensures.faulty in (
      undone.0,
      undone_over _ _ _ _ _ _ _ _ _ c.as_slice-paths.ensures.value c.in_ok-files.ensures.files _ _ _ c.in-Ok.ensures.handed _ refl
          c.in-Err-outcome.fault c.complaint.result undone.0 c.complaint.ensures c.in_ok-check_record.ensures.apart undone.1,
      undone.2,
    )

pub returns-in-Ok-outcome-clause-done : goal.returns-in-Ok-outcome-clause-done
returns-in-Ok-outcome-clause-done g c =
    let done = c.in-Ok-outcome.ensures.done in (
      done.0,
      done.1,
      done_over _ _ _ _ _ None None _ _ c.as_slice-paths.ensures.value c.in_ok-files.ensures.files _ _ _ c.in-Ok.ensures.handed _ refl
          done.0 done.1 c.in-Ok-outcome.status c.in_ok-check_record.ensures.apart done.2,
      done.3,
      done.4,
    )

pub returns-in-Err-clause-faulty : goal.returns-in-Err-clause-faulty
returns-in-Err-clause-faulty g c = (None, unread_over _ _ _ _ _ _ _ c.in-Err.fault c.unread-first.result c.in-Err.ensures.unread c.unread-first.ensures.first refl, λ path. refl)

pub returns-in-Err-clause-told : goal.returns-in-Err-clause-told
returns-in-Err-clause-told g c = told_first _ c.in-Err.fault c.unread-first.result _ (c.in-Err.ensures.told _) c.unread-first.ensures.told
