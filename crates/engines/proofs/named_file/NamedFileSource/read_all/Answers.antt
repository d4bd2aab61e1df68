use Rattle.std.proofs.lemmas.Result.{err_from_is_err_and}
use Rattle.engines.proofs.FileLemmas.{loses_all, loses_nothing}
use Rattle.engines.proofs.named_file.NamedFileSource.read_all.Goals as goal

pub returns-in-Device-clause-lost : goal.returns-in-Device-clause-lost
returns-in-Device-clause-lost g c = loses_all _

pub returns-in-Memory-clause-lost : goal.returns-in-Memory-clause-lost
returns-in-Memory-clause-lost g c = loses_nothing _

pub returns-in_err-copy-clause-lost : goal.returns-in_err-copy-clause-lost
returns-in_err-copy-clause-lost g c =
    let p = err_from_is_err_and c.from_residual.result c.from_residual.ensures.1 in
    rw p.1 (loses_nothing _)
