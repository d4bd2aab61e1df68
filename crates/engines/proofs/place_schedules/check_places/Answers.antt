use Rattle.std.proofs.lemmas.Result.{err_from_is_err_and}
use Rattle.engines.proofs.PlaceLemmas.{of_word, there_more}
use Rattle.engines.proofs.place_schedules.check_places.Goals as goal

pub returns-in_err-check_place-clause-missing : goal.returns-in_err-check_place-clause-missing
returns-in_err-check_place-clause-missing c =
    let p = err_from_is_err_and c.from_residual.result c.from_residual.ensures.1 in
    rw (p.1, p.2)
    (of_word c.args.deeds.now c.deeds.placed-index c.placed-item.result c.deeds-test.true c.placed-item.is c.args.linked.now c.in_err-check_place.field-0.0
    c.in_err-check_place.ensures.missing)

pub deeds-preserved : goal.deeds-preserved
deeds-preserved c =
    there_more c.args.deeds.now c.deeds.placed-index c.placed-item.result c.deeds-test.true c.placed-item.is c.args.linked.now c.deeds.invariant
    c.in_ok-check_place.ensures.there
