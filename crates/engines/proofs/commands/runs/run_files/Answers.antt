use Rattle.std.specs.Option.{option_map}
use Rattle.std.proofs.Common.{vec_items}
use Rattle.std.proofs.lemmas.Result.{err_from_is_err_and}
use Rattle.engines.proofs.RecordLemmas.{run_undone}
use Rattle.engines.proofs.commands.runs.run_files.Goals as goal

pub returns-in_err-status-clause-faulty : goal.returns-in_err-status-clause-faulty
returns-in_err-status-clause-faulty g c =
    let p = err_from_is_err_and c.from_residual-in_err-status.result c.from_residual-in_err-status.ensures.1 in
    rw (p.1, p.2) (run_undone _ _ _ _ _ _ (option_map vec_items c.ran-outcome.new.file) _ _ _ c.in_err-status.ensures.faulty c.ran-outcome.ensures.ran c.ran-outcome.ensures.faulty)
