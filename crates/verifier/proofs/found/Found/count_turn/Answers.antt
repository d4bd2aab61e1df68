use Rattle.verifier.proofs.Looked.{none_added}
use Rattle.verifier.proofs.found.Found.count_turn.Goals as goal

pub returns-clause-looks : goal.returns-clause-looks
returns-clause-looks c = none_added _ c.args.self.now.looks.items _ c.in_ok-self.ensures
