use Rattle.std.proofs.Common.{◌≡◌, None}
use Rattle.std.specs.Prelude.{replicate}
use Rattle.verifier.proofs.found.Found.new.Given as goal

abbrev pub invariant-offsets : goal.invariant-offsets
invariant-offsets l = l.types.items ≡ replicate l._offset None
