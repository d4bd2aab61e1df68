use Rattle.std.proofs.Common.{refl}
use Rattle.model.specs.OpcodeTable.{low_form, high_form}
use Rattle.model.specs.Instruction.{wide_at, table_switch_at, lookup_switch_at}
use Rattle.model.specs.InstructionStarts.{starts_from}
use Rattle.model.specs.DescriptorScan.{element_at, field_at, field_type, parameters_at, method_type}
use Rattle.model.specs.BuiltIn.{built_in_classes}
use Rattle.run_laws.proofs.examples.outside_profiles.Goals as goal

pub returns : goal.returns
unfolding built_in_classes low_form high_form wide_at table_switch_at lookup_switch_at starts_from element_at field_at field_type parameters_at method_type
returns c =
    record {
      holds = record {
        left_out_field = refl;
        left_out_constant = refl;
        instance_field = refl;
        native = refl;
        initialiser_of_int = refl;
        abstract_initialiser = refl;
        result = refl;
        static_abstract = refl;
        static_constructor = refl;
        default_method = refl;
        lload = refl;
        wide_ret = refl;
        ldc2_w = refl;
        goto_into = refl;
        long_array = refl;
        float_array = refl;
        float = refl;
        array_class = refl;
        array_method = refl;
        array_method_answered = refl;
        special_clone = refl;
        clone = refl;
      };
    }
