-- Who owns a monitor.
use Rattle.std.proofs.Common.{◌≡◌, ℕ, true, false, ◌==◌, Option, Some, None, ap, ◌∙◌}
use Rattle.std.proofs.lemmas.Bool.{false≢true, false_from_ne_true, eqb-true}
use Rattle.model.specs.Monitors.{owns}

pub owner_is : (u : ℕ) (o : Option ℕ) → owns u o ≡ true → o ≡ Some u
owner_is u None e = absurd (false≢true e)
owner_is u (Some w) e = ap (λ x. Some x) (eqb-true w u e)

pub differs : (t u : ℕ) → (t ≡ u → ⊥) → (t == u) ≡ false
differs t u ne = false_from_ne_true (t == u) (λ q. ne (eqb-true t u q))

-- what one thread owns another one does not
pub not_owner : (t u : ℕ) (o : Option ℕ) → (t ≡ u → ⊥) → owns t o ≡ true → owns u o ≡ false
not_owner t u o ne own = ap (owns u) (owner_is t o own) ∙ differs t u ne
