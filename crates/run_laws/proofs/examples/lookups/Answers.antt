use Rattle.std.proofs.Common.{refl}
use Rattle.model.specs.OpcodeTable.{low_form, high_form}
use Rattle.model.specs.Instruction.{wide_at, table_switch_at, lookup_switch_at}
use Rattle.model.specs.InstructionStarts.{starts_from}
use Rattle.model.specs.DescriptorScan.{element_at, field_at, field_type, parameters_at, method_type}
use Rattle.model.specs.BuiltIn.{built_in_classes}
use Rattle.run_laws.proofs.examples.lookups.Goals as goal

pub returns : goal.returns
unfolding built_in_classes low_form high_form wide_at table_switch_at lookup_switch_at starts_from element_at field_at field_type parameters_at method_type
returns c =
    record {
      holds = record {
        hidden = refl;
        inherited = refl;
        constant = refl;
        of_superclass = refl;
        of_interface = refl;
        no_field = refl;
        other_type = refl;
        target = refl;
        own = refl;
        of_p = refl;
        private = refl;
        wait = refl;
        not_implemented = refl;
        run = refl;
        no_method = refl;
        of_upper = refl;
        notify = refl;
        no_interface_method = refl;
        nearest = refl;
        upwards = refl;
        private_skipped = refl;
        static_skipped = refl;
        abstract_of_interface = refl;
        fields = refl;
        thread_fields = refl;
        no_fields = refl;
        interfaces = refl;
        direct = refl;
        all = refl;
        of_thread = refl;
        packages = refl;
      };
    }
