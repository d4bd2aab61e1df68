use Rattle.std.proofs.Common.{refl}
use Rattle.model.specs.OpcodeTable.{low_form, high_form}
use Rattle.model.specs.Instruction.{wide_at, table_switch_at, lookup_switch_at}
use Rattle.model.specs.InstructionStarts.{starts_from}
use Rattle.model.specs.DescriptorScan.{element_at, field_at, field_type, parameters_at, method_type}
use Rattle.model.specs.BuiltIn.{built_in_classes}
use Rattle.run_laws.proofs.examples.other_refusals.Goals as goal

pub returns : goal.returns
unfolding built_in_classes low_form high_form wide_at table_switch_at lookup_switch_at starts_from element_at field_at field_type parameters_at method_type
returns c =
    record {
      holds = record {
        two = refl;
        built_in_name = refl;
        none = refl;
        instance_main = refl;
        second = refl;
        files = refl;
        files_at_most = refl;
        fields = refl;
        fields_at_most = refl;
        fields_of_throwable = refl;
        linkable = refl;
        three = refl;
        first_of_three = refl;
        first_of_two = refl;
      };
    }
