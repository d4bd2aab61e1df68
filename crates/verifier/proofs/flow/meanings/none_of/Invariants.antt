use Rattle.std.proofs.Common.{◌≡◌, None}
use Rattle.std.specs.Prelude.{replicate}
use Rattle.verifier.proofs.flow.meanings.none_of.Given as goal

abbrev pub invariant-offsets : goal.invariant-offsets
invariant-offsets l = l.kept.items ≡ replicate l._offset None
