use Rattle.std.proofs.Common.{◌≡◌, ◌++◌}
use Rattle.std.specs.Prelude.{replicate}
use Rattle.types.specs.declared.verification_type.VerificationType.TheVariants as type
use Rattle.verifier.proofs.flow.entry.fill_up.Given as goal

abbrev pub invariant-loop-local : goal.invariant-loop-local
invariant-loop-local l = l.locals.items ≡ l.fn.locals.items ++ replicate l._local type.Unusable
