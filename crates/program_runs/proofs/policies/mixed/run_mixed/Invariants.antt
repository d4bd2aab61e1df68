use Rattle.program_runs.specs.policies.Keeping.{kept_by}
use Rattle.program_runs.specs.policies.Runs.{mixed_of, mixed_turn}
use Rattle.program_runs.proofs.policies.Mixing.{mixed_appends}
use Rattle.program_runs.proofs.policies.Turning.{Far}
use Rattle.program_runs.proofs.policies.mixed.run_mixed.Given as goal

-- what is left to do leads to the events of the policy
abbrev pub invariant-turns : goal.invariant-turns
invariant-turns g l = Far mixed_turn mixed_appends (g.G.Gate.may_stop l.fn.gate) l.fn.world (mixed_of l.fn.seed) l.world (kept_by l.mixed) l.counter
