use Rattle.std.proofs.Common.{◌≡◌, ℕ, ◌<◌, false}
use Rattle.std.specs.Prelude.{slice_get}
use Rattle.verifier.specs.Agreeing.{is_among}
use Rattle.verifier.proofs.near.places_between.Given as goal

abbrev pub invariant-locals : goal.invariant-locals
invariant-locals l = (k : ℕ) → k < l.local → is_among l.places.items k ≡ false → slice_get l.from k ≡ slice_get l.to k
