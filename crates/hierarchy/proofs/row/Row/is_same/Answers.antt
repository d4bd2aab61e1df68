use Rattle.std.proofs.Common.{sym}
use Rattle.hierarchy.proofs.RowLaws.{from_here}
use Rattle.hierarchy.proofs.row.Row.is_same.Goals as goal

pub loop-place-preserved : goal.loop-place-preserved
loop-place-preserved c rest =
    c.loop-place.invariant (from_here c.args.self.now c.args.other.now c.loop-place.place c.in-Some.number c.in-Some-get.there (sym c.in-Some.ensures) (sym c.in-Some-get.ensures) c.if-number-there.false rest)
