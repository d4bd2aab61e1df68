use Rattle.std.proofs.Common.{◌≡◌, ℕ, take, false}
use Rattle.verifier.specs.Agreeing.{is_among}
use Rattle.verifier.proofs.look.add_all.Given as goal

abbrev pub invariant-locals : goal.invariant-locals
invariant-locals l =
    (k : ℕ) → is_among l.changed.items k ≡ false → (is_among l.fn.changed.items k ≡ false) × (is_among (take l.local-index l.locals) k ≡ false)
