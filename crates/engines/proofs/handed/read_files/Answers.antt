use Rattle.std.proofs.Common.{◌∙◌, ap, refl, sum_by}
use Rattle.engines.specs.Failures.{FolderMayFail}
use Rattle.engines.specs.Files.{failures_of}
use Rattle.engines.proofs.FailureLemmas.{failed_of, told_alone}
use Rattle.engines.proofs.handed.read_files.Goals as goal

pub returns-clause-told : goal.returns-clause-told
returns-clause-told g c = λ n.
    let none = ap (sum_by (λ file. failures_of file.reading)) c.as_mut_slice.ensures.value ∙ c.in_ok-sources.ensures.none in
    told_alone (λ file. failures_of file.reading) (FolderMayFail g.F.Folder.may_fail)
    (λ file n failed. (file.folder.now, file.path.now, file.failed (failed_of file.reading n failed)))
    c.read_class_files.new.files _ n n none c.read_class_files.result refl c.read_class_files.ensures.counted
