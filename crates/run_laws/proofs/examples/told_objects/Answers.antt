use Rattle.std.proofs.Common.{refl}
use Rattle.std.specs.Fmt.{digits}
use Rattle.std.specs.Char.{encode_utf8}
use Rattle.std.specs.Char.Utf16.{utf16_chars}
use Rattle.model.specs.OpcodeTable.{low_form, high_form}
use Rattle.model.specs.DescriptorScan.{element_at, field_at, field_type, parameters_at, method_type}
use Rattle.model.specs.BuiltIn.{built_in_classes}
use Rattle.model.specs.Opening.{opening_heap}
use Rattle.model.specs.Texts.{decoded}
use Rattle.run_laws.proofs.examples.Fits.{fits}
use Rattle.run_laws.proofs.examples.told_objects.Goals as goal

pub returns : goal.returns
unfolding digits low_form high_form element_at field_at field_type parameters_at method_type built_in_classes opening_heap decoded utf16_chars encode_utf8
returns c =
    record {
      holds = record {
        layouts = (record { spelled = refl; fits = fits _ tt }, tt);
        printed = record { within = refl; ends = refl; means = refl };
        almost = record { within = refl; ends = refl; means = refl };
        in_room = record { within = refl; ends = refl; means = refl };
        divided = refl;
        constant = refl;
        replaced = refl;
        plain = refl;
        no_cells = refl;
      };
    }
