use Rattle.search.proofs.run_outcomes.Places.{told_here, told_there, told_beyond, told_last}
use Rattle.std.proofs.Common.{arith}
use Rattle.search.proofs.run_outcomes.outcomes.place_of.Goals as goal

pub returns-in-Less : goal.returns-in-Less
returns-in-Less c = record {
  place = told_here c.args.listed.now c.args.outcome.now c.listed.at c.index-listed-at.result c.listed-test.true c.index-listed-at.is c.listed.invariant c.compare.result c.compare.ensures c.in-Less.is;
  within = omega arith;
}

pub returns-in-Equal : goal.returns-in-Equal
returns-in-Equal c = record {
  place = told_there c.args.listed.now c.args.outcome.now c.listed.at c.index-listed-at.result c.listed-test.true c.index-listed-at.is c.listed.invariant c.compare.result c.compare.ensures c.in-Equal.is;
  within = tt;
}

pub listed-preserved : goal.listed-preserved
listed-preserved c =
    told_beyond c.args.listed.now c.args.outcome.now c.listed.at c.index-listed-at.result c.listed-test.true c.index-listed-at.is c.listed.invariant c.compare.result c.compare.ensures c.in-Greater.is

pub returns : goal.returns
returns c = record {
  place = told_last c.args.listed.now c.args.outcome.now c.listed.at c.listed.auto.at-end c.listed-test.false c.listed.invariant;
  within = omega arith;
}
