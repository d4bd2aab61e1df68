-- A vector with room for so many more items (own). No public clause cites this module.
use Rattle.std.specs.Prelude.{◌≡◌, ◌≤◌, ◌+◌, ℕ, [], Option, Some, None, Vec}
use Rattle.std.specs.Vec.{vec_len, vec_capacity}

-- it is the vector itself, or a larger one with no items
abbrev pub IsSpare : {X Z : Type 0} → Vec X Z → ℕ → Option (Vec X Z) → Type 0
IsSpare items more None = vec_len items + more ≤ vec_capacity items
IsSpare items more (Some larger) = (larger.items ≡ []) × (vec_len larger ≡ 0) × (vec_len items + more ≤ vec_capacity larger)
