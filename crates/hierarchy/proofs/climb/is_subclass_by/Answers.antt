use Rattle.std.proofs.Common.{subst, arith}
use Rattle.hierarchy.specs.Lineages.{depth_in, IsRaised}
use Rattle.hierarchy.proofs.LineageWalks.{not_below, below_raised}
use Rattle.hierarchy.proofs.climb.is_subclass_by.Goals as goal

pub returns-then-depth_in-depth : goal.returns-then-depth_in-depth
returns-then-depth_in-depth c =
    not_below c.args.set.now c.args.table.now c.requires.told c.args.class c.args.superclass c.if-class-table.false c.if-superclass-table.false (omega (arith, c.if-depth_in-depth.true, c.depth_in-depth.ensures, c.depth_in.ensures))

pub returns : goal.returns
returns c =
    let files = c.args.set.now in
    let table = c.args.table.now in
    let above = c.in-Some.above in
    let r : IsRaised files table (depth_in table c.args.superclass) c.args.class above = subst (λ k. IsRaised files table k c.args.class above) c.depth_in-depth.ensures c.in-Some.ensures in
    below_raised files table c.requires.told c.args.class c.args.superclass above c.if-class-table.false c.if-superclass-table.false (omega (arith, c.if-depth_in-depth.false, c.depth_in-depth.ensures, c.depth_in.ensures)) r
