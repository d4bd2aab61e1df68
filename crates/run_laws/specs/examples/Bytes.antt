-- Bytes by hexadecimal digits, two a byte, in lower case; spaces between them count for nothing.
use Rattle.std.specs.Prelude.{ℕ, ◌+◌, ◌-◌, ◌*◌, ◌==◌, List, [], ◌∷◌, filter, not, nat_lt, if◌then◌else◌}

abbrev pub digit : ℕ → ℕ
digit c = if nat_lt c 97 then c - 48 else c - 87

abbrev pub paired : List ℕ → List ℕ
paired [] = []
paired (high ∷ []) = []
paired (high ∷ low ∷ rest) = (16 * digit high + digit low) ∷ paired rest

-- the bytes of a text
abbrev pub hex : List ℕ → List ℕ
hex text = paired (filter (λ c. not (c == 32)) text)
