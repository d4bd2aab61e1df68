use Rattle.std.proofs.Common.{◌<◌, length, sym, subst}
use Rattle.search.specs.Edges.{AreBelow}
use Rattle.search.proofs.Marks.{IsSpread, all_spread, fewer_left, left, more_spread, not_spread}
use Rattle.search.proofs.endless.spread.Goals as goal

pub sweeps-init : goal.sweeps-init
sweeps-init c = not_spread c.args.edges.now (length c.args.marks.now) c.args.marks.now c.requires.last

pub sweep-is_more-requires : goal.sweep-is_more-requires
sweep-is_more-requires c = subst (λ n. AreBelow n c.args.edges.now) (sym c.sweeps.invariant.many) c.requires.below

pub sweeps-preserved : goal.sweeps-preserved
sweeps-preserved c =
    more_spread c.args.edges.now (length c.args.marks.now) c.sweep-is_more.result c.sweeps.marks c.sweep-is_more.new.marks
    (subst (λ b. IsSpread c.args.edges.now (length c.args.marks.now) b c.sweeps.marks) c.sweeps-test.true c.sweeps.invariant) c.sweep-is_more.ensures

pub sweeps-smaller : goal.sweeps-smaller
sweeps-smaller c =
    subst (λ b. left c.sweep-is_more.result c.sweep-is_more.new.marks < left b c.sweeps.marks) (sym c.sweeps-test.true)
    (fewer_left c.args.edges.now c.sweep-is_more.result c.sweeps.marks c.sweep-is_more.new.marks c.sweep-is_more.ensures)

pub returns : goal.returns
returns c =
    all_spread c.args.edges.now (length c.args.marks.now) c.sweeps.marks c.requires.below
    (subst (λ b. IsSpread c.args.edges.now (length c.args.marks.now) b c.sweeps.marks) c.sweeps-test.false c.sweeps.invariant)
