use Rattle.std.proofs.Common.{refl}
use Rattle.model.specs.InstructionStarts.{starts_from}
use Rattle.model.specs.OpcodeTable.{low_form, high_form}
use Rattle.model.specs.BuiltIn.{built_in_classes}
use Rattle.model.specs.DescriptorScan.{element_at, field_at, field_type, parameters_at, method_type}
use Rattle.run_laws.specs.examples.Typings.{prints_seven_types, pop_types, unreached_types, loop_types, fork_types, run_types}
use Rattle.run_laws.proofs.examples.TypingProofs.{is_typed}
use Rattle.run_laws.proofs.examples.typings.Goals as goal

pub returns : goal.returns
unfolding starts_from low_form high_form built_in_classes element_at field_at field_type parameters_at method_type
returns c =
    record {
      holds = record {
        prints_seven = record { is_main = refl; typed = is_typed _ _ _ prints_seven_types refl };
        pop_reference = record { is_main = refl; typed = is_typed _ _ _ pop_types refl };
        unreached = record { is_main = refl; typed = is_typed _ _ _ unreached_types refl };
        loop = record { is_main = refl; typed = is_typed _ _ _ loop_types refl };
        run = record { is_run = refl; typed = is_typed _ _ _ run_types refl };
        fork = record { is_main = refl; typed = is_typed _ _ _ fork_types refl };
      };
    }
