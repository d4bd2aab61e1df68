use Rattle.std.specs.Arc.{arc_value}
use Rattle.program_runs.proofs.policies.Recorded.{run_by_if}
use Rattle.program_runs.proofs.worlds.Staying.{record_of_new}
use Rattle.program_runs.proofs.policies.policy.run_linked.Goals as goal

pub returns-clause-recorded : goal.returns-clause-recorded
returns-clause-recorded g c =
    record_of_new (g.G.Gate.may_stop c.args.gate.now) (arc_value c.args.verified) c.args.limits c.args.budget c.in_ok-world.world c.take_turns.new.world c.in_ok-world.ensures c.in_ok-take_turns.ensures.same
    c.into_recorded.result c.into_recorded.ensures.of

pub returns-clause-by_policy : goal.returns-clause-by_policy
returns-clause-by_policy g c =
    run_by_if c.args.policy (g.G.Gate.may_stop c.args.gate.now) (arc_value c.args.verified) c.args.limits c.args.budget c.in_ok-world.world c.take_turns.new.world c.in_ok-world.ensures c.in_ok-take_turns.ensures.through
    c.into_recorded.result c.into_recorded.ensures.keeps
