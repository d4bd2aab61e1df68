use Rattle.std.specs.Arc.{arc_value}
use Rattle.program_runs.proofs.workers.Stays.{record_of_shared}
use Rattle.program_runs.proofs.workers.work.run_workers.Goals as goal

pub returns : goal.returns
returns g c =
    record_of_shared (arc_value c.args.verified) c.args.limits c.args.budget (g.G.Gate.may_stop c.args.gate.now) c.in_ok-world.world c.in_ok-ended.ended c.in_ok-world.ensures c.in_ok-ended.ensures
    c.into_recorded.result c.into_recorded.ensures.of
