use Rattle.std.proofs.Common.{refl}
use Rattle.model.specs.InstructionStarts.{starts_from}
use Rattle.model.specs.OpcodeTable.{low_form, high_form}
use Rattle.model.specs.BuiltIn.{built_in_classes}
use Rattle.model.specs.DescriptorScan.{element_at, field_at, field_type, parameters_at, method_type}
use Rattle.run_laws.specs.examples.Constructors.{constructor_types, main_types}
use Rattle.run_laws.proofs.examples.TypingProofs.{is_typed}
use Rattle.run_laws.proofs.examples.constructors.Goals as goal

pub returns : goal.returns
unfolding starts_from low_form high_form built_in_classes element_at field_at field_type parameters_at method_type
returns c =
    record {
      holds = record {
        is_constructor = refl;
        is_main = refl;
        constructor_typed = is_typed _ _ _ constructor_types refl;
        main_typed = is_typed _ _ _ main_types refl;
        new_forgets = refl;
        new_keeps_others = refl;
        new_refuses_copy = refl;
        initialises = refl;
        initialises_one = refl;
        not_again = refl;
        not_null = refl;
        not_of_superclass = refl;
        this_by_superclass = refl;
        this_by_own = refl;
        returns_unconstructed = refl;
        returns_constructed = refl;
        put_before = refl;
        put_into_new = refl;
        get_before = refl;
        get_after = refl;
        moved = refl;
        compared = refl;
        thrown = refl;
        load_of_null = refl;
        load_of_strings = refl;
        byte_of_booleans = refl;
        byte_of_ints = refl;
        byte_of_object = refl;
      };
    }
