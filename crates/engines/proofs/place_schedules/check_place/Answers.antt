use Rattle.std.proofs.Common.{Some, ap, subst, sym}
use Rattle.code_places.specs.There.{Misses}
use Rattle.code_places.specs.declared.there.PlaceFault.{PlaceFault}
use Rattle.place_texts.specs.Places.{deed_of, place_of}
use Rattle.engines.proofs.place_schedules.check_place.Goals as goal

pub returns-in_ok-missing_place-in-Some-clause-missing : goal.returns-in_ok-missing_place-in-Some-clause-missing
returns-in_ok-missing_place-in-Some-clause-missing c =
    let made = c.in_ok-missing_place-in-Some.ensures in
    let place = place_of c.in-Until.place in
    let misses = subst (Misses c.args.linked.now place) c.in-Some.is c.in_ok-fault-in-Until.ensures in
    (c.in-Until.field-0, place, ap deed_of c.in-Until.is, subst (λ (f : PlaceFault). Misses c.args.linked.now place (Some f)) (sym made.0) misses, made.2)
