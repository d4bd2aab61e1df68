use Rattle.std.proofs.Common.{refl}
use Rattle.model.specs.OpcodeTable.{low_form, high_form}
use Rattle.model.specs.DescriptorScan.{element_at, field_at, field_type, parameters_at, method_type}
use Rattle.model.specs.BuiltIn.{built_in_classes}
use Rattle.model.specs.Opening.{opening_heap}
use Rattle.data_races.proofs.race_examples.Racing.{raced}
use Rattle.data_races.proofs.race_examples.flags.Goals as goal

pub returns : goal.returns
unfolding low_form high_form element_at field_at field_type parameters_at method_type built_in_classes opening_heap
returns c = record { holds = record { plain = raced _ _ _ refl; volatile = raced _ _ _ refl } }
