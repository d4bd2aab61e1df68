use Rattle.std.proofs.Common.{refl}
use Rattle.std.specs.Fmt.{digits}
use Rattle.std.specs.Char.{encode_utf8}
use Rattle.std.specs.Char.Utf16.{utf16_chars}
use Rattle.model.specs.OpcodeTable.{low_form, high_form, low_mnemonic, high_mnemonic}
use Rattle.model.specs.Instruction.{wide_at, table_switch_at, lookup_switch_at}
use Rattle.model.specs.InstructionStarts.{starts_from}
use Rattle.model.specs.DescriptorScan.{element_at, field_at, field_type, parameters_at, method_type}
use Rattle.model.specs.BuiltIn.{built_in_classes}
use Rattle.run_laws.proofs.examples.built_in_members.Goals as goal

pub returns : goal.returns
unfolding built_in_classes low_form high_form wide_at table_switch_at lookup_switch_at starts_from element_at field_at field_type parameters_at method_type low_mnemonic high_mnemonic digits utf16_chars encode_utf8
returns c =
    record {
      holds = record {
        object = refl;
        runnable = refl;
        thread = refl;
        string = refl;
        class = refl;
        comparable = refl;
        char_sequence = refl;
        cloneable = refl;
        system = refl;
        print_stream = refl;
        constructors = refl;
        others = refl;
        whole = refl;
        no_other = refl;
      };
    }
