use Rattle.std.specs.Arc.{arc_value}
use Rattle.program_runs.proofs.worlds.Opening.{holds, is_new}
use Rattle.program_runs.proofs.worlds.world.World.open_linked.Goals as goal

pub invariant_of-result : goal.invariant_of-result
invariant_of-result c =
    holds (arc_value c.args.verified) c.args.limits c.args.budget c.new.result.events c.in_ok-machine.machine c.new.ensures (c.in_ok-machine.ensures (arc_value c.args.verified) c.requires)

pub returns : goal.returns
returns c =
    is_new (arc_value c.args.verified) c.args.limits c.args.budget c.new.result.events c.in_ok-machine.machine c.new.ensures (c.in_ok-machine.ensures (arc_value c.args.verified) c.requires)
