use Rattle.program_runs.specs.policies.Drawn.{words_after}
use Rattle.program_runs.specs.policies.Runs.{random_turn, words_of}
use Rattle.program_runs.proofs.policies.Mixing.{random_appends}
use Rattle.program_runs.proofs.policies.Turning.{Far}
use Rattle.program_runs.proofs.policies.random.run_random.Given as goal

-- what is left to do leads to the events of the policy
abbrev pub invariant-turns : goal.invariant-turns
invariant-turns g l = Far random_turn random_appends (g.G.Gate.may_stop l.fn.gate) l.fn.world (words_of l.fn.seed) l.world (words_after l.random) l.counter
