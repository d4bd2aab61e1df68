use Rattle.std.proofs.Common.{◌∙◌}
use Rattle.string_methods.proofs.Zeros.{alone}
use Rattle.string_methods.proofs.descriptions.without_zeros.Goals as goal

pub returns-after-loop-rest : goal.returns-after-loop-rest
returns-after-loop-rest c = alone c.loop-rest.rest.now c.loop-rest-test.false ∙ c.loop-rest.invariant
