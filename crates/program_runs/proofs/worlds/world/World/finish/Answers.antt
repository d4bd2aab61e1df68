use Rattle.std.proofs.Common.{sym}
use Rattle.program_runs.proofs.worlds.Finishing.{one_more, smaller}
use Rattle.program_runs.proofs.worlds.world.World.finish.Goals as goal

pub turns-preserved : goal.turns-preserved
turns-preserved c = one_more _ c.turns.self c.shared_steps.new.self 0 4294967295 c.shared_steps.result c.turns.invariant (sym c.in_default.ensures.is) c.shared_steps.ensures

pub turns-smaller : goal.turns-smaller
turns-smaller c = smaller c.turns.self c.shared_steps.new.self 0 4294967295 c.shared_steps.result c.in_default.ensures.holds (sym c.in_default.ensures.is) c.shared_steps.ensures
