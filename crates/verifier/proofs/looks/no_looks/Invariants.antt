use Rattle.std.proofs.Common.{◌≡◌, None}
use Rattle.std.specs.Prelude.{replicate}
use Rattle.verifier.proofs.looks.no_looks.Given as goal

abbrev pub invariant-offsets : goal.invariant-offsets
invariant-offsets l = l.looks.items ≡ replicate l._offset None
