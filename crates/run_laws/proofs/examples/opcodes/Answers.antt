use Rattle.std.proofs.Common.{refl}
use Rattle.model.specs.OpcodeTable.{low_form, high_form}
use Rattle.model.specs.Instruction.{wide_at, table_switch_at, lookup_switch_at}
use Rattle.run_laws.proofs.examples.opcodes.Goals as goal

pub returns : goal.returns
unfolding low_form high_form wide_at table_switch_at lookup_switch_at
returns c =
    record {
      holds = record {
        arithmetic = refl;
        conversions = refl;
        moves = refl;
        constants = refl;
        loads = refl;
        stores = refl;
        elements = refl;
        returns = refl;
        others = refl;
        ifs = refl;
        if_icmps = refl;
        jumps = refl;
        fields = refl;
        invocations = refl;
        of_classes = refl;
        newarray = refl;
        of_one_byte = refl;
        of_two_bytes = refl;
        of_three_bytes = refl;
        of_five_bytes = refl;
        of_none = refl;
      };
    }
