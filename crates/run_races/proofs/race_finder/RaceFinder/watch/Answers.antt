use Rattle.std.proofs.Common.{sym, subst}
use Rattle.race_places.specs.action_detector.Watched.{TellsAction}
use Rattle.run_races.proofs.race_finder.Watching.{none_told, no_access_told, race_told}
use Rattle.run_races.proofs.race_finder.RaceFinder.watch.Goals as goal

pub returns-in_default : goal.returns-in_default
returns-in_default c = λ run h.
    let told = c.in_ok-earlier.ensures.watched run h.watches in
    none_told run c.args.action _ _ told.1 h.told (subst (λ o. TellsAction run c.args.action o) c.in_default.is told.2)

pub returns-in_default-accessed : goal.returns-in_default-accessed
returns-in_default-accessed c = λ run h.
    let told = c.in_ok-earlier.ensures.watched run h.watches in
    no_access_told run c.args.action _ _ told.1 h.told (sym c.in_default-accessed.ensures)

pub returns : goal.returns
returns c = λ run h.
    let told = c.in_ok-earlier.ensures.watched run h.watches in
    race_told run c.args.action _ _ _ told.1 h.told c.race_with.result c.in_ok-add.ensures c.in-Some.earlier
    (subst (λ o. TellsAction run c.args.action o) c.in-Some.is told.2) c.in-Some-accessed.variable _ (sym c.in-Some-accessed.ensures) c.race_with.ensures
