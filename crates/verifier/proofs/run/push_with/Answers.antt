use Rattle.verifier.proofs.Runs.{put_between}
use Rattle.verifier.proofs.run.push_with.Goals as goal

pub returns : goal.returns
returns c =
    put_between _ _ _ _ c.args.run.count c.args.place c.args.run.of c.args.of c.requires c.in_ok-push_run.ensures c.in_ok-push_run-2.ensures c.in_ok-push_run-3.ensures
