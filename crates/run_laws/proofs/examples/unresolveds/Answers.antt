use Rattle.std.proofs.Common.{refl}
use Rattle.model.specs.OpcodeTable.{low_form, high_form}
use Rattle.model.specs.Instruction.{wide_at, table_switch_at, lookup_switch_at}
use Rattle.model.specs.InstructionStarts.{starts_from}
use Rattle.model.specs.DescriptorScan.{element_at, field_at, field_type, parameters_at, method_type}
use Rattle.model.specs.BuiltIn.{built_in_classes}
use Rattle.run_laws.proofs.examples.unresolveds.Goals as goal

pub returns : goal.returns
unfolding built_in_classes low_form high_form wide_at table_switch_at lookup_switch_at starts_from element_at field_at field_type parameters_at method_type
returns c =
    record {
      holds = record {
        superclass = refl;
        interface = refl;
        catch_type = refl;
        declared = refl;
        operand = refl;
        new_interface = refl;
        no_field = refl;
        getstatic = refl;
        getfield = refl;
        out = refl;
        target = refl;
        no_method = refl;
        no_constructor = refl;
        described = refl;
        virtual = refl;
        static = refl;
        interface_method = refl;
      };
    }
