use Rattle.std.specs.Option.{option_map}
use Rattle.std.proofs.Common.{inr, vec_items}
use Rattle.std.proofs.lemmas.Result.{err_from_is_err_and}
use Rattle.engines.proofs.RecordLemmas.{replay_undone}
use Rattle.engines.proofs.commands.replays.replay_on.Goals as goal

pub returns-in_err-status-clause-faulty : goal.returns-in_err-status-clause-faulty
returns-in_err-status-clause-faulty g c =
    let p = err_from_is_err_and c.from_residual-in_err-status.result c.from_residual-in_err-status.ensures.1 in
    let undone = replay_undone _ _ _ _ _ _ (option_map vec_items c.continued-outcome.new.file) _ _ _ _ c.in_err-status.ensures.faulty c.continued-outcome.ensures.continued c.continued-outcome.ensures.faulty in
    rw (p.1, p.2) (undone.0, inr undone.1, undone.2)
