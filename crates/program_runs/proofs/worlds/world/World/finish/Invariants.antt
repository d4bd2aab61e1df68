use Rattle.program_runs.specs.worlds.Finishing.{HasTakenTurns}
use Rattle.program_runs.proofs.worlds.Finishing.{left}
use Rattle.program_runs.proofs.worlds.world.World.finish.Given as goal

-- by the turns so far
abbrev pub invariant-turns : goal.invariant-turns
invariant-turns l = HasTakenTurns l.fn.self l.self

abbrev pub decreases-turns : goal.decreases-turns
decreases-turns l = left l.self
