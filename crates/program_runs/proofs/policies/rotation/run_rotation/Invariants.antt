use Rattle.std.proofs.Common.{None}
use Rattle.program_runs.proofs.policies.Mixing.{rotation_next, rotation_next_appends}
use Rattle.program_runs.proofs.policies.Turning.{Far}
use Rattle.program_runs.proofs.policies.rotation.run_rotation.Given as goal

-- what is left to do leads to the events of the policy
abbrev pub invariant-turns : goal.invariant-turns
invariant-turns g l =
    Far (rotation_next l.fn.quantum) (rotation_next_appends l.fn.quantum) (g.G.Gate.may_stop l.fn.gate) l.fn.world None l.world l.last l.counter
