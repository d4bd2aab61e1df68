use Rattle.verifier.proofs.Looked.{differ_nowhere}
use Rattle.verifier.proofs.near.changes_between.Goals as goal

pub returns-then-is_same : goal.returns-then-is_same
returns-then-is_same c = differ_nowhere _ c.args.from.now c.args.to.now (c.is_same.ensures c.if-is_same.true)
