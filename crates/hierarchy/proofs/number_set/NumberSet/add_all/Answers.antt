use Rattle.std.proofs.Common.{sym}
use Rattle.hierarchy.specs.Numbers.{with_numbers}
use Rattle.hierarchy.proofs.NumberLaws.{number_added}
use Rattle.hierarchy.proofs.number_set.NumberSet.add_all.Goals as goal

pub loop-place-preserved : goal.loop-place-preserved
loop-place-preserved c =
    number_added c.loop-place.self c.add.new.self c.args.row.now c.loop-place.place c.in-Some.number (with_numbers c.args.self.now c.args.row.now) (sym c.in-Some.ensures) c.in_ok-add.ensures c.loop-place.invariant
