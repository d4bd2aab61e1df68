use Rattle.verifier.proofs.Looked.{differs_there}
use Rattle.verifier.proofs.Puts.{there_at}
use Rattle.verifier.proofs.found.Found.changes_at.Goals as goal

pub returns-in-Some : goal.returns-in-Some
returns-in-Some c =
    differs_there c.args.offset c.in-Some.there c.args.join.now c.args.self.now.types.items (there_at c.args.self.now.types.items c.args.offset _ _ c.requires c.index.ensures c.in-Some.is) c.changes_between.result c.changes_between.ensures
