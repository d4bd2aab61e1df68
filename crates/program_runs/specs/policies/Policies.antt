-- Policies of a run (own).
use Rattle.std.specs.Prelude.{◌≤◌}
use Rattle.program_runs.specs.declared.policies.policy.Policy.{Policy}
use Rattle.program_runs.specs.declared.policies.policy.Policy.TheVariants as policy

-- its turns are of one event at least
abbrev pub HasTurns : Policy → Type 0
HasTurns (policy.Mixed seed) = Unit {0}
HasTurns (policy.Random seed) = Unit {0}
HasTurns (policy.Rotation quantum) = 1 ≤ quantum
