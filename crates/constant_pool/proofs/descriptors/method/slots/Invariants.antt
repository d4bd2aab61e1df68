use Rattle.std.proofs.Common.{◌≡◌, map, min, take}
use Rattle.std.specs.List.{sum_by}
use Rattle.model.specs.Descriptors.{slots}
use Rattle.constant_pool.specs.descriptors.View.{field_of}
use Rattle.constant_pool.proofs.descriptors.method.slots.Given as goal

-- the slots of the parameters so far
abbrev pub invariant-parameters : goal.invariant-parameters
invariant-parameters l = l.slots ≡ min (sum_by slots (map field_of (take l.parameter-index l.parameters))) 65535
