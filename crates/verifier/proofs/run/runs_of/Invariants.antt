use Rattle.std.proofs.Common.{◌≡◌, ◌≤◌, ◌-◌, ◌++◌, take, get_or}
use Rattle.std.specs.Prelude.{replicate}
use Rattle.verifier.specs.Packed.{unpacked}
use Rattle.types.specs.declared.verification_type.VerificationType.TheVariants as type
use Rattle.verifier.proofs.run.runs_of.Given as goal

abbrev pub invariant-types : goal.invariant-types
invariant-types l =
    record {
      begun : l.begin ≤ l.i;
      done : unpacked l.runs.items ++ replicate (l.i - l.begin) (get_or l.types l.begin type.Unusable) ≡ take l.i l.types;
    }
