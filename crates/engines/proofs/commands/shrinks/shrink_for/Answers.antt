use Rattle.std.proofs.Common.{vec_items}
use Rattle.std.specs.Option.{option_map}
use Rattle.std.proofs.lemmas.Result.{err_from_is_err_and}
use Rattle.engines.proofs.ShrinkLemmas.{shrink_undone}
use Rattle.engines.proofs.commands.shrinks.shrink_for.Goals as goal

pub returns-in_err-status-clause-faulty : goal.returns-in_err-status-clause-faulty
returns-in_err-status-clause-faulty g c = λ asked.
    let p = err_from_is_err_and c.from_residual.result c.from_residual.ensures.1 in
    rw (p.1, p.2) (shrink_undone _ _ _ _ _ _ (option_map vec_items c.shrunk_files-outcome.new.made.file) _ _ _ _ asked
    c.in_err-status.ensures.faulty c.shrunk_files-outcome.ensures.shrunk c.shrunk_files-outcome.ensures.faulty)
