use Rattle.std.proofs.Common.{refl}
use Rattle.model.specs.OpcodeTable.{low_form, high_form}
use Rattle.model.specs.Instruction.{wide_at, table_switch_at, lookup_switch_at}
use Rattle.model.specs.InstructionStarts.{starts_from}
use Rattle.model.specs.BuiltIn.{built_in_classes}
use Rattle.model.specs.Opening.{opening_heap}
use Rattle.run_laws.proofs.examples.wrong_operands.Goals as goal
use Rattle.model.specs.DescriptorScan.{element_at, field_at, field_type, parameters_at, method_type}

pub returns : goal.returns
unfolding low_form high_form wide_at table_switch_at lookup_switch_at starts_from built_in_classes opening_heap element_at field_at field_type parameters_at method_type
returns c =
    record {
      holds = record {
        iadd_of_one = refl;
        pop_of_none = refl;
        pop2_of_one = refl;
        past_max_stack = refl;
        iload_of_reference = refl;
        iload_of_none = refl;
        iinc_of_reference = refl;
        astore_of_int = refl;
        istore_of_reference = refl;
        ifeq_of_null = refl;
        ifnull_of_int = refl;
        if_acmpeq_of_int = refl;
        println_at_int = refl;
        println_at_array = refl;
        println_of_reference = refl;
        ireturn_in_void = refl;
        counts_as_enabled = refl;
        other_pick = refl;
        no_step = refl;
        return_in_int = refl;
        past_the_end = refl;
        cut_instruction = refl;
        unknown_opcode = refl;
        wide_iadd = refl;
        reversed_table = refl;
        negative_count = refl;
        ldc_of_name_and_type = refl;
        getstatic_of_method = refl;
      };
    }
