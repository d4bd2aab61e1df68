use Rattle.program_runs.proofs.worlds.Finishing.{left}
use Rattle.program_runs.proofs.continued_runs.Turning.{InTurn}
use Rattle.program_runs.proofs.continued_runs.rotation.take_turns.Given as goal

-- by the turns so far
abbrev pub invariant-turns : goal.invariant-turns
invariant-turns g l = InTurn l.fn.world l.world l.from

abbrev pub decreases-turns : goal.decreases-turns
decreases-turns g l = left l.world
