use Rattle.std.proofs.Common.{refl}
use Rattle.model.specs.BuiltIn.{built_in_classes}
use Rattle.model.specs.DescriptorScan.{element_at, field_at, field_type}
use Rattle.run_laws.proofs.examples.type_joins.Goals as goal

pub returns : goal.returns
unfolding built_in_classes element_at field_at field_type
returns c =
    record {
      holds = record {
        siblings = refl;
        upper = refl;
        lower = refl;
        unrelated = refl;
        null_and_class = refl;
        array_and_null = refl;
        two_nulls = refl;
        arrays = refl;
        depths = refl;
        inner_ints = refl;
        ints_and_bytes = refl;
        ints_twice = refl;
        array_and_class = refl;
        missing_classes = refl;
        missing_class_and_array = refl;
        missing_class_twice = refl;
        arrays_of_missing_classes = refl;
        int_and_null = refl;
        int_and_null_in_locals = refl;
        unusable_in_locals = refl;
        one_new = refl;
        two_news = refl;
        new_and_null = refl;
        new_and_this = refl;
        null_below_new = refl;
        int_below_unusable = refl;
        int_below_unusable_in_locals = refl;
        array_below_array = refl;
        array_below_object = refl;
        ints_below_objects = refl;
        interface = refl;
        interfaces = refl;
        bytes = refl;
        boolean = refl;
        frames = refl;
        depths_differ = refl;
        kinds_differ = refl;
        constructed = refl;
        not_constructed = refl;
      };
    }
