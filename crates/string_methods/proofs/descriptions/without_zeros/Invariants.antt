use Rattle.std.proofs.Common.{◌≡◌, length}
use Rattle.model.specs.ObjectMethods as model
use Rattle.string_methods.proofs.descriptions.without_zeros.Given as goal

-- what is left has the same text
abbrev pub invariant-loop-rest : goal.invariant-loop-rest
invariant-loop-rest l = model.without_zeros l.rest ≡ model.without_zeros l.digits

abbrev pub decreases-loop-rest : goal.decreases-loop-rest
decreases-loop-rest l = length l.rest
