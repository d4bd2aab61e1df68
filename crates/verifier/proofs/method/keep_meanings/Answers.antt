use Rattle.verifier.proofs.flow.Meant.{none_meant}
use Rattle.verifier.proofs.method.keep_meanings.Goals as goal

pub returns : goal.returns
returns c = none_meant c.args.method.now _ _ c.in_ok-keep_from_now.ensures
