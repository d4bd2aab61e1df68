use Rattle.std.proofs.Common.{◌≡◌, map}
use Rattle.model.specs.DescriptorScan.{parameters_at}
use Rattle.constant_pool.specs.descriptors.View.{field_of}
use Rattle.constant_pool.proofs.descriptors.MethodLaws.{behind}
use Rattle.constant_pool.proofs.descriptors.method.read_parameters.Given as goal

-- the types so far, and those that follow, are all of them
abbrev pub invariant-parameters : goal.invariant-parameters
invariant-parameters l = behind (map field_of l.parameters.items) (parameters_at l.left l.rest) ≡ parameters_at 255 l.fn.text

abbrev pub decreases-parameters : goal.decreases-parameters
decreases-parameters l = l.left
