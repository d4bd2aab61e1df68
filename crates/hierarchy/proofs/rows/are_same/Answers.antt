use Rattle.std.proofs.Common.{◌∙◌, sym, ap, Some}
use Rattle.std.proofs.lemmas.Option.{slice_get-get_or}
use Rattle.hierarchy.proofs.RowLaws.{from_here}
use Rattle.hierarchy.proofs.rows.are_same.Goals as goal

pub loop-place-preserved : goal.loop-place-preserved
loop-place-preserved c rest =
    let row = c.in-Some.row.now in
    let other = c.in-Some-get.other.now in
    let place = c.loop-place.place in
    c.loop-place.invariant (from_here c.args.rows.now c.args.others.now place row other
    (slice_get-get_or c.args.rows.now place row c.in-Some.ensures.lookup.3.0 ∙ ap Some (sym c.in-Some.ensures.lookup.1))
    (slice_get-get_or c.args.others.now place other c.in-Some-get.ensures.lookup.3.0 ∙ ap Some (sym c.in-Some-get.ensures.lookup.1))
    (c.is_same.ensures c.if-not-is_same.false) rest)
