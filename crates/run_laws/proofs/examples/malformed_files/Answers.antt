use Rattle.std.proofs.Common.{refl}
use Rattle.model.specs.OpcodeTable.{low_form, high_form}
use Rattle.model.specs.Instruction.{wide_at, table_switch_at, lookup_switch_at}
use Rattle.model.specs.InstructionStarts.{starts_from}
use Rattle.model.specs.DescriptorScan.{element_at, field_at, field_type, parameters_at, method_type}
use Rattle.model.specs.BuiltIn.{built_in_classes}
use Rattle.run_laws.proofs.examples.malformed_files.Goals as goal

pub returns : goal.returns
unfolding built_in_classes low_form high_form wide_at table_switch_at lookup_switch_at starts_from element_at field_at field_type parameters_at method_type
returns c =
    record {
      holds = record {
        none = refl;
        prints_seven = refl;
        string = refl;
        attribute = refl;
        catch_type = refl;
        class_name = refl;
        array = refl;
        field_name = refl;
        void_field = refl;
        method_of_int = refl;
        field_of_method = refl;
        no_code = refl;
        abstract_code = refl;
        long_constant = refl;
        fields = refl;
        methods = refl;
        overloaded = refl;
      };
    }
