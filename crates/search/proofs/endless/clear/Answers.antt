use Rattle.std.proofs.Common.{arith, length}
use Rattle.search.proofs.Marks.{all_cleared, cleared_at, cleared_within, none_cleared}
use Rattle.search.proofs.endless.clear.Goals as goal

pub edges-init : goal.edges-init
edges-init c = none_cleared c.args.edges.now (length c.args.marks.now) c.args.marks.now c.requires.marks

pub bounds-marks-edge : goal.bounds-marks-edge
bounds-marks-edge c = cleared_within c.args.edges.now (length c.args.marks.now) c.edges.at c.edges.marks c.requires.below c.edges.invariant c.edges-test.true

pub edges-preserved : goal.edges-preserved
edges-preserved c = cleared_at c.args.edges.now (length c.args.marks.now) c.edges.at c.edges.marks c.requires.below c.edges.invariant c.edges-test.true

pub returns : goal.returns
returns c = all_cleared c.args.edges.now (length c.args.marks.now) c.edges.at c.edges.marks (omega (arith, c.edges-test.false)) c.edges.invariant
