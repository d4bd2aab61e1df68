-- Texts as a trace shows them (own).
use Rattle.std.specs.Prelude.{◌≡◌, ℕ, List, [], ◌∷◌, ◌++◌, ◌==◌, nat_le, if◌then◌else◌, codes, length, take, replicate, refl}
use Rattle.std.specs.List.{flat_map}
use Rattle.model.specs.Texts.{Text}
use Rattle.traces.specs.JsonTexts.{escape}

-- a line feed is \n, all else as in a string of JSON
abbrev pub shown : ℕ → List ℕ
shown unit = if unit == 10 then codes "\\n" else escape unit

abbrev pub shown_units : Text → List ℕ
shown_units units = flat_map shown units

-- a text between quotation marks, with .. in the place of what stands behind its first 40 units
abbrev pub quotation : Text → List ℕ
quotation text =
    codes "\"" ++ (if nat_le (length text) 40 then shown_units text ++ codes "\"" else shown_units (take 40 text) ++ codes "..\"")

-- ---- examples

-- a quotation mark, a backslash, a line feed, é and half of a character
escapes : quotation (codes "a\"\\\n" ++ (0xe9 ∷ 0xd83d ∷ [])) ≡ codes "\"a\\\"\\\\\\n\\u00e9\\ud83d\""
escapes = refl

whole : quotation (replicate 40 0x61) ≡ codes "\"aaaaaaaaaaaaaaaaaaaaaaaaaaaaaaaaaaaaaaaa\""
whole = refl

cut : quotation (replicate 41 0x61) ≡ codes "\"aaaaaaaaaaaaaaaaaaaaaaaaaaaaaaaaaaaaaaaa..\""
cut = refl
