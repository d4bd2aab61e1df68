use Rattle.std.proofs.Common.{refl}
use Rattle.std.specs.Fmt.{digits}
use Rattle.std.specs.Char.{encode_utf8}
use Rattle.std.specs.Char.Utf16.{utf16_chars}
use Rattle.model.specs.OpcodeTable.{low_form, high_form}
use Rattle.model.specs.Instruction.{wide_at, table_switch_at, lookup_switch_at}
use Rattle.run_laws.proofs.examples.Fits.{fits}
use Rattle.model.specs.BuiltIn.{built_in_classes}
use Rattle.model.specs.Opening.{opening_heap}
use Rattle.run_laws.proofs.examples.only_returns.Goals as goal
use Rattle.model.specs.DescriptorScan.{element_at, field_at, field_type, parameters_at, method_type}

pub returns : goal.returns
unfolding low_form high_form wide_at table_switch_at lookup_switch_at built_in_classes opening_heap digits element_at field_at field_type parameters_at method_type utf16_chars encode_utf8
returns c =
    record {
      holds = record {
        layout = record { spelled = refl; fits = fits _ tt };
        numbers = refl;
        threads = refl;
        reported = refl;
        then_over = refl;
      };
    }
