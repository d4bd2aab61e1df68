use Rattle.search.proofs.run_outcomes.Places.{ends_less, ends_greater, ends_equal, ends_all}
use Rattle.search.proofs.run_outcomes.order.compare_threads.Goals as goal

pub returns-in-Less : goal.returns-in-Less
returns-in-Less c =
    ends_less c.args.one.now c.args.other.now c.threads.at c.min-at-end.result c.min-at-end.ensures c.threads.invariant c.threads-test.true c.index-one-at.result c.index-other-at.result c.index-one-at.is
    c.index-other-at.is c.compare_ends.result c.compare_ends.ensures c.in-Less.is

pub returns-in-Greater : goal.returns-in-Greater
returns-in-Greater c =
    ends_greater c.args.one.now c.args.other.now c.threads.at c.min-at-end.result c.min-at-end.ensures c.threads.invariant c.threads-test.true c.index-one-at.result c.index-other-at.result c.index-one-at.is
    c.index-other-at.is c.compare_ends.result c.compare_ends.ensures c.in-Greater.is

pub threads-preserved : goal.threads-preserved
threads-preserved c =
    ends_equal c.args.one.now c.args.other.now c.threads.at c.min-at-end.result c.min-at-end.ensures c.threads.invariant c.threads-test.true c.index-one-at.result c.index-other-at.result c.index-one-at.is
    c.index-other-at.is c.compare_ends.result c.compare_ends.ensures c.in-Equal.is

pub returns : goal.returns
returns c =
    ends_all c.args.one.now c.args.other.now c.threads.at c.min-at-end.result c.min-at-end.ensures c.threads.invariant c.threads.auto.at-end c.threads-test.false c.cmp.result c.cmp.ensures
