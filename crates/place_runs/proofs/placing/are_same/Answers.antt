use Rattle.place_runs.proofs.Entries.{one_more}
use Rattle.place_runs.proofs.placing.are_same.Goals as goal

pub entries-preserved : goal.entries-preserved
entries-preserved c =
    one_more c.args.one.now c.args.other.now c.entries.at c.entry-left.result c.entry-right.result c.entries.invariant c.entry-left.ensures.is c.entry-right.ensures.is
    (c.is_same.ensures c.if-not-is_same.false)
