-- Options and flags in rows of words (own).
use Rattle.std.specs.Prelude.{ℕ, List, [], ◌∷◌, Option, Some, None, Bool, true, false, map}

abbrev pub option_row : Option ℕ → List ℕ
option_row None = 0 ∷ []
option_row (Some word) = 1 ∷ word ∷ []

abbrev pub flag_code : Bool → ℕ
flag_code false = 0
flag_code true = 1

abbrev pub flags_row : List Bool → List ℕ
flags_row flags = map flag_code flags
