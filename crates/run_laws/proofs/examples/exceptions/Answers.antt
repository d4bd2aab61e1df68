use Rattle.std.proofs.Common.{refl}
use Rattle.model.specs.OpcodeTable.{low_form, high_form}
use Rattle.model.specs.BuiltIn.{built_in_classes}
use Rattle.model.specs.Opening.{opening_heap}
use Rattle.run_laws.proofs.examples.exceptions.Goals as goal
use Rattle.model.specs.DescriptorScan.{element_at, field_at, field_type, parameters_at, method_type}

pub returns : goal.returns
unfolding low_form high_form built_in_classes opening_heap element_at field_at field_type parameters_at method_type
returns c =
    record {
      holds = record {
        idiv_by_zero = record { not_yet = refl; pending = refl; stays = refl; costs = refl; silent = refl };
        irem_by_zero = record { not_yet = refl; pending = refl; stays = refl; costs = refl; silent = refl };
        println_at_null = record { not_yet = refl; pending = refl; stays = refl; costs = refl; silent = refl };
      };
    }
