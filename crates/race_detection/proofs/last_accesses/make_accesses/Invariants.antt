use Rattle.std.proofs.Common.{◌≡◌, ℕ, ◌+◌, ◌-◌, get_or, vec_len}
use Rattle.race_detection.specs.last_accesses.Accesses.{no_accesses}
use Rattle.race_detection.proofs.last_accesses.make_accesses.Given as goal

abbrev pub invariant-made : goal.invariant-made
invariant-made l = (v : ℕ) → get_or l.variables.items v no_accesses ≡ get_or l.fn.variables.items v no_accesses

abbrev pub decreases-made : goal.decreases-made
decreases-made l = l.variable + 1 - vec_len l.variables
