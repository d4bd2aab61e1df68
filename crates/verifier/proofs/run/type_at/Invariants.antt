use Rattle.std.proofs.Common.{◌≡◌, drop}
use Rattle.std.specs.Prelude.{slice_index_or}
use Rattle.types.specs.declared.verification_type.VerificationType.TheVariants as type
use Rattle.verifier.specs.Packed.{unpacked}
use Rattle.verifier.proofs.run.type_at.Given as goal

abbrev pub invariant-runs : goal.invariant-runs
invariant-runs l = slice_index_or (unpacked l.runs) l.place type.Unusable ≡ slice_index_or (unpacked (drop l.run-index l.runs)) l.left type.Unusable
