use Rattle.std.proofs.Common.{inr, map, string_bytes}
use Rattle.std.proofs.lemmas.Result.{IfErr-weaker, IfOk-weaker}
use Rattle.engines.proofs.CommandLemmas.{undone_stops}
use Rattle.engines.proofs.program.run.Goals as goal

pub returns-in-Ok-clause-done : goal.returns-in-Ok-clause-done
returns-in-Ok-clause-done g c =
    IfOk-weaker c.done.result _ _ (λ status done. (done.0, done.1, inr (_, c.in-Ok.ensures.spelled, done.2), done.3, done.4)) c.done.ensures.done

pub returns-in-Ok-clause-faulty : goal.returns-in-Ok-clause-faulty
returns-in-Ok-clause-faulty g c =
    IfErr-weaker c.done.result _ _ (λ complaint undone. (undone.0, undone_stops _ _ _ _ _ _ _ (map string_bytes c.args.words.now) complaint undone.0 c.in-Ok.ensures.spelled undone.1, undone.2)) c.done.ensures.faulty
