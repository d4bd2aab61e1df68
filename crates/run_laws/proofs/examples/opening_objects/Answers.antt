use Rattle.std.proofs.Common.{refl}
use Rattle.model.specs.BuiltIn.{built_in_classes}
use Rattle.model.specs.Opening.{opening_heap}
use Rattle.run_laws.proofs.examples.opening_objects.Goals as goal
use Rattle.model.specs.DescriptorScan.{element_at, field_at, field_type, parameters_at, method_type}

pub returns : goal.returns
unfolding built_in_classes opening_heap element_at field_at field_type parameters_at method_type
returns c = record { holds = record { types = refl; texts = refl } }
