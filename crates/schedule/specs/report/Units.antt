-- The first unit of a pair that waits for the second one (own).
use Rattle.std.specs.Prelude.{ℕ, ◌<◌, ◌≤◌, [], ◌∷◌, Option, Some, None, IfSome}
use Rattle.model.specs.Texts.{Text}

-- the first unit of a pair, and the second one
abbrev pub IsHigh : ℕ → Type 0
IsHigh unit = (0xD800 ≤ unit) × (unit < 0xDC00)

abbrev pub IsLow : ℕ → Type 0
IsLow unit = (0xDC00 ≤ unit) × (unit < 0xE000)

abbrev pub units_of : Option ℕ → Text
units_of None = []
units_of (Some unit) = unit ∷ []

abbrev pub MayWait : Option ℕ → Type 0
MayWait first = IfSome first IsHigh
