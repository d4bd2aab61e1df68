use Rattle.program_runs.proofs.policies.GivenTurns.{event_done}
use Rattle.program_runs.proofs.worlds.world.World.event.Goals as goal

pub returns : goal.returns
returns c =
    event_done c.args.event c.in_ok-done.done c.in_ok-done.why c.args.self.now c.repeat.new.self c.end.ensures.holds c.requires c.in_ok-unless_memory.ensures.same.1 c.in_ok-done.ensures.done
