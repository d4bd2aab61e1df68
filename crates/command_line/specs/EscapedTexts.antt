-- Texts of UTF-16 code units as the command line spells them: in characters, and in escapes, which begin with a
-- backslash (own).
use Rattle.std.specs.Prelude.{◌≡◌, ℕ, zero, suc, ◌+◌, ◌*◌, ◌==◌, List, [], ◌∷◌, ◌++◌, Option, Some, None, if◌then◌else◌, codes, refl}
use Rattle.std.specs.Char.{digit_value, is_digit}
use Rattle.std.specs.Char.Escape.{encode_utf16}
use Rattle.std.specs.Str.{chars}
use Rattle.model.specs.DescriptorScan.{◌>>=◌}
use Rattle.model.specs.Texts.{Text}

-- the value of a hexadecimal digit
abbrev pub digit : ℕ → Option ℕ
digit c = if is_digit c 16 then Some (digit_value c) else None

-- the number of four hexadecimal digits, where these come first
abbrev pub four_digits : List ℕ → Option ℕ
four_digits (a ∷ b ∷ c ∷ d ∷ characters) = do
  first ← digit a
  second ← digit b
  third ← digit c
  fourth ← digit d
  Some (((first * 16 + second) * 16 + third) * 16 + fourth)
four_digits few = None

-- What stands behind a backslash: the unit of both, and how many characters it has. `n` makes a line feed, another
-- backslash makes one, and `u` with four hexadecimal digits the unit of this number.
abbrev pub escape_of : List ℕ → Option (ℕ × ℕ)
escape_of [] = None
escape_of (c ∷ characters) =
    if c == 0x6e then Some (0x0a, 1)
    else if c == 0x5c then Some (0x5c, 1)
    else if c == 0x75 then (do
      unit ← four_digits characters
      Some (unit, 5))
    else None

-- The units of characters, of which so many are passed over, as they belong to an escape. There are none where a
-- backslash begins no escape.
unfoldable pub units_behind : ℕ → List ℕ → Option Text
units_behind n [] = Some []
units_behind (suc n) (c ∷ characters) = units_behind n characters
units_behind zero (c ∷ characters) = if c == 0x5c then (do
  escape ← escape_of characters
  units ← units_behind escape.1 characters
  Some (escape.0 ∷ units)) else (do
    units ← units_behind 0 characters
    Some (encode_utf16 c ++ units))

-- the units that a word in UTF-8 spells: of a character above 65,535 these are two
abbrev pub units_of : List ℕ → Option Text
units_of word = units_behind 0 (chars word)

-- ---- examples

characters_and_escapes : units_of (codes "7\\n\\\\n\\u00E9") ≡ Some (0x37 ∷ 0x0a ∷ 0x5c ∷ 0x6e ∷ 0xe9 ∷ [])
unfolding units_behind chars
characters_and_escapes = refl

-- U+1F600
two_units : units_of (0xf0 ∷ 0x9f ∷ 0x98 ∷ 0x80 ∷ []) ≡ Some (0xd83d ∷ 0xde00 ∷ [])
unfolding units_behind chars
two_units = refl

no_such_escape : units_of (codes "7\\t") ≡ None
unfolding units_behind chars
no_such_escape = refl

three_digits : units_of (codes "\\u00eg") ≡ None
unfolding units_behind chars
three_digits = refl

nothing_behind : units_of (codes "7\\") ≡ None
unfolding units_behind chars
nothing_behind = refl
