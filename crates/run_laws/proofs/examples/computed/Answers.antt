use Rattle.std.proofs.Common.{refl}
use Rattle.run_laws.proofs.examples.computed.Goals as goal

pub returns : goal.returns
returns c =
    record {
      holds = record {
        iadd = refl;
        isub = refl;
        imul = refl;
        idiv = refl;
        irem = refl;
        ishl = refl;
        ishr = refl;
        iushr = refl;
        iand = refl;
        ior = refl;
        ixor = refl;
        by_zero = refl;
        by_others = refl;
        remainder_by_others = refl;
      };
    }
