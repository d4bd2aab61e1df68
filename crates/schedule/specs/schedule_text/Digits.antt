-- The digits that a text begins with.
use Rattle.std.specs.Prelude.{◌≤◌, ◌<◌, ℕ, List, length, get_or}

abbrev pub IsDigit : ℕ → Type 0
IsDigit b = (48 ≤ b) × (b ≤ 57)

-- so many digits stand first, and no more
pub record HasDigits (bytes : List ℕ) (n : ℕ) : Type 0 where
  pub within : n ≤ length bytes
  pub digits : (k : ℕ) → k < n → IsDigit (get_or bytes k 0)
  pub others : n < length bytes → IsDigit (get_or bytes n 0) → ⊥
