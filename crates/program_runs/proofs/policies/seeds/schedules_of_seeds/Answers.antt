use Rattle.std.proofs.Common.{refl}
use Rattle.rand_core.specs.Stream.{fill_bytes, next_u32, next_u64}
use Rattle.rand_core.specs.Steps.{stream_of, word_bytes, u32_at}
use Rattle.model.specs.OpcodeTable.{low_form, high_form}
use Rattle.model.specs.Instruction.{wide_at, table_switch_at, lookup_switch_at}
use Rattle.model.specs.BuiltIn.{built_in_classes}
use Rattle.model.specs.Opening.{opening_heap}
use Rattle.model.specs.DescriptorScan.{element_at, field_at, field_type, parameters_at, method_type}
use Rattle.program_runs.proofs.policies.seeds.schedules_of_seeds.Goals as goal

pub returns : goal.returns
unfolding stream_of next_u64 next_u32 fill_bytes word_bytes u32_at low_form high_form wide_at table_switch_at lookup_switch_at built_in_classes opening_heap element_at field_at field_type parameters_at method_type
returns c = record { holds = record { word_of_0 = refl; words_of_1 = refl; mixed_by_1 = refl; mixed_by_3 = refl; random_by_2 = refl; turns_of_1 = refl; turns_of_5 = refl } }
