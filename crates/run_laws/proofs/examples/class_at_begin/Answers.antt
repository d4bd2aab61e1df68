use Rattle.std.proofs.Common.{refl}
use Rattle.model.specs.OpcodeTable.{low_form, high_form}
use Rattle.model.specs.BuiltIn.{built_in_classes}
use Rattle.model.specs.Opening.{opening_heap}
use Rattle.run_laws.proofs.examples.class_at_begin.Goals as goal
use Rattle.model.specs.DescriptorScan.{element_at, field_at, field_type, parameters_at, method_type}

pub returns : goal.returns
unfolding low_form high_form built_in_classes opening_heap element_at field_at field_type parameters_at method_type
returns c =
    record {
      holds = record {
        held = refl;
        its_own = refl;
        done = refl;
        erroneous = refl;
        none_pending = refl;
        superclass_held = refl;
        one_frame = refl;
        no_frame = refl;
      };
    }
