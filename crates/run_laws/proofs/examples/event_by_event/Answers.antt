use Rattle.std.proofs.Common.{refl}
use Rattle.std.specs.Fmt.{digits}
use Rattle.model.specs.OpcodeTable.{low_form, high_form}
use Rattle.model.specs.BuiltIn.{built_in_classes}
use Rattle.model.specs.Opening.{opening_heap}
use Rattle.run_laws.proofs.examples.event_by_event.Goals as goal
use Rattle.model.specs.DescriptorScan.{element_at, field_at, field_type, parameters_at, method_type}

pub returns : goal.returns
unfolding low_form high_form built_in_classes opening_heap element_at field_at field_type parameters_at method_type digits
returns c =
    record {
      holds = record {
        opening = refl;
        class_begun = refl;
        superclass_first = refl;
        class_done = refl;
        statuses = refl;
        main_begun = refl;
        stream_pushed = refl;
        seven_pushed = refl;
        not_yet = refl;
        printed = refl;
        seven = refl;
        returned = refl;
        costs = refl;
      };
    }
