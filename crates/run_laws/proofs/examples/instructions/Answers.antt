use Rattle.std.proofs.Common.{refl}
use Rattle.model.specs.OpcodeTable.{low_form, high_form}
use Rattle.model.specs.Instruction.{wide_at, table_switch_at, lookup_switch_at}
use Rattle.model.specs.InstructionStarts.{starts_from}
use Rattle.run_laws.proofs.examples.instructions.Goals as goal

pub returns : goal.returns
unfolding low_form high_form wide_at table_switch_at lookup_switch_at starts_from
returns c =
    record {
      holds = record {
        iload_2 = refl;
        iload = refl;
        wide_iload = refl;
        wide_aload = refl;
        wide_istore = refl;
        wide_astore = refl;
        astore_3 = refl;
        iconst_m1 = refl;
        iconst_5 = refl;
        bipush = refl;
        sipush = refl;
        ldc = refl;
        ldc_w = refl;
        iinc = refl;
        wide_iinc = refl;
        if_icmple = refl;
        goto = refl;
        goto_w = refl;
        invokeinterface = refl;
        lookupswitch = refl;
        lookup = refl;
        tableswitch = refl;
        second_jump = refl;
        padding = refl;
        lload = refl;
        breakpoint = refl;
        wide_ret = refl;
        wide_iadd = refl;
        past_the_end = refl;
        cut_bipush = refl;
        cut_goto = refl;
        cut_wide = refl;
        cut_switch = refl;
        reversed_table = refl;
        negative_count = refl;
        boundaries = refl;
      };
    }
