use Rattle.std.proofs.Common.{refl}
use Rattle.std.specs.Fmt.{digits}
use Rattle.model.specs.OpcodeTable.{low_form, high_form}
use Rattle.model.specs.Instruction.{wide_at, table_switch_at, lookup_switch_at}
use Rattle.model.specs.DescriptorScan.{element_at, field_at, field_type, parameters_at, method_type}
use Rattle.model.specs.BuiltIn.{built_in_classes}
use Rattle.model.specs.Opening.{opening_heap}
use Rattle.run_laws.proofs.examples.java_threads.Goals as goal

pub returns : goal.returns
unfolding low_form high_form wide_at table_switch_at lookup_switch_at element_at field_at field_type parameters_at method_type built_in_classes opening_heap digits
returns c = record { holds = record { one_order = refl; another_order = refl } }
