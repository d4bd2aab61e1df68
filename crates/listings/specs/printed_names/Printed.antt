-- Texts of class files in lines that are told to people (own).
use Rattle.std.specs.Prelude.{◌≡◌, ℕ, List, [], ◌∷◌, ◌++◌, ◌||◌, ◌==◌, nat_lt, if◌then◌else◌, codes, refl}
use Rattle.std.specs.List.{flat_map}
use Rattle.model.specs.Listing.{hex_byte}

-- a backslash is doubled, a control character of ASCII is \x with its two hexadecimal digits, and any other byte stands for itself
abbrev pub printed_byte : ℕ → List ℕ
printed_byte b =
    if b == 0x5c then codes "\\\\"
    else if nat_lt b 0x20 || (b == 0x7f) then codes "\\x" ++ hex_byte b
    else b ∷ []

unfoldable pub printed : List ℕ → List ℕ
printed text = flat_map printed_byte text

-- ---- an example

-- a backslash, a line feed, and é
escapes : printed (codes "a\\b\n" ++ (0xc3 ∷ 0xa9 ∷ [])) ≡ codes "a\\\\b\\x0a" ++ (0xc3 ∷ 0xa9 ∷ [])
unfolding printed
escapes = refl
