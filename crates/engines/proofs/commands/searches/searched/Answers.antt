use Rattle.std.proofs.Common.{◌∙◌, ap, sum_by}
use Rattle.engines.specs.Failures.{FolderMayFail}
use Rattle.engines.specs.Files.{failures_of}
use Rattle.engines.proofs.FailureLemmas.{failed_of, told_by}
use Rattle.engines.proofs.commands.searches.searched.Goals as goal

pub returns-clause-told : goal.returns-clause-told
returns-clause-told g c =
    let none = ap (sum_by (λ file. failures_of file.reading)) c.as_mut_slice.ensures.value ∙ c.in_ok-sources.ensures.none in
    told_by (λ file. failures_of file.reading) (FolderMayFail g.F.Folder.may_fail)
    (λ file n failed. (file.folder.now, file.path.now, file.failed (failed_of file.reading n failed)))
    c.search_engine.new.files _ _ _ none c.search_engine.result c.search_engine.ensures.counted
