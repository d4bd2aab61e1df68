-- Digits without the zeros in front of another digit.
use Rattle.std.proofs.Common.{◌≡◌, ◌≤◌, ℕ, List, [], ◌∷◌, length, refl, arith}
use Rattle.model.specs.ObjectMethods.{without_zeros}

-- in front of one there is none
pub alone : (digits : List ℕ) → length digits ≤ 1 → digits ≡ without_zeros digits
alone [] h = refl
alone (digit ∷ []) h = refl
alone (digit ∷ other ∷ digits) h = absurd (omega (arith, h))
