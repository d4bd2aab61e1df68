-- Texts: lists of UTF-16 code units, each below 65,536 (JLS 3.1, 4.3.3), and how they are written.
use Rattle.std.specs.Prelude.{◌≡◌, ℕ, ℤ, List, [], ◌∷◌, ◌++◌, Option, Bool, true, ◌==◌, if◌then◌else◌, flat_map, unwrap_or, codes, refl, nat_le, ◌&&◌, ◌%◌, ◌*◌, ◌+◌}
use Rattle.std.specs.Fmt.{digits, signed_decimal}
use Rattle.std.specs.Char.{encode_utf8}
use Rattle.std.specs.Char.Utf16.{utf16_chars}
use Rattle.model.specs.Ints.{signed}

abbrev pub Text : Type 0
Text = List ℕ

-- ---- modified UTF-8 (JVMS 4.4.7)

abbrev pub is_within : ℕ → ℕ → ℕ → Bool
is_within least most n = nat_le least n && nat_le n most

-- a byte behind the first one of a unit
abbrev pub is_continuation : ℕ → Bool
is_continuation b = is_within 0x80 0xbf b

abbrev pub are_two : ℕ → ℕ → Bool
are_two b c = is_within 0xc0 0xdf b && is_continuation c

abbrev pub are_three : ℕ → ℕ → ℕ → Bool
are_three b c d = is_within 0xe0 0xef b && (is_continuation c && is_continuation d)

-- the unit of one byte has its 8 bits, that of two bytes has 5 and 6 bits of them, that of three 4, 6 and 6
abbrev pub unit_of_one : ℕ → ℕ
unit_of_one b = b % 256

abbrev pub unit_of_two : ℕ → ℕ → ℕ
unit_of_two b c = b % 32 * 64 + c % 64

abbrev pub unit_of_three : ℕ → ℕ → ℕ → ℕ
unit_of_three b c d = b % 16 * 4096 + c % 64 * 64 + d % 64

-- The text of the bytes of a Utf8 entry. A byte that begins no unit is one by itself (own); a unit may have more bytes than it needs, and
-- what stands for a character above 65,535 is two units.
unfoldable pub decoded : List ℕ → Text
decoded [] = []
decoded (b ∷ []) = unit_of_one b ∷ []
decoded (b ∷ c ∷ []) = if are_two b c then unit_of_two b c ∷ [] else unit_of_one b ∷ decoded (c ∷ [])
decoded (b ∷ c ∷ d ∷ bytes) =
    if are_two b c then unit_of_two b c ∷ decoded (d ∷ bytes)
    else if are_three b c d then unit_of_three b c d ∷ decoded bytes
    else unit_of_one b ∷ decoded (c ∷ d ∷ bytes)

-- ---- UTF-8, as reports have it

-- A character by its bytes; a surrogate without its other half is a question mark (own).
abbrev pub character_bytes : Option ℕ → List ℕ
character_bytes character = encode_utf8 (unwrap_or character 63)

abbrev pub encoded : Text → List ℕ
encoded text = flat_map character_bytes (utf16_chars text)

-- a text whose last unit is a line feed, and the empty one
abbrev pub ends_line : Text → Bool
ends_line [] = true
ends_line (unit ∷ []) = unit == 10
ends_line (unit ∷ other ∷ text) = ends_line (other ∷ text)

-- what was printed, as whole lines (own)
abbrev pub printed_lines : Text → List ℕ
printed_lines text = encoded text ++ (if ends_line text then [] else 10 ∷ [])

-- ---- numbers

-- a number in decimal and a line feed
abbrev pub number_line : ℤ → Text
number_line z = signed_decimal z ++ 10 ∷ []

-- the int that the bits are, as `println` writes it
abbrev pub int_line : ℕ → Text
int_line bits = number_line (signed bits)

-- ---- examples

plain : decoded (codes "a/B") ≡ codes "a/B"
unfolding decoded
plain = refl

-- é in two bytes, and é in three, which is longer than need be; the euro sign
of_two : decoded (0xc3 ∷ 0xa9 ∷ 0xe0 ∷ 0x83 ∷ 0xa9 ∷ []) ≡ 0xe9 ∷ 0xe9 ∷ []
unfolding decoded
of_two = refl

of_three : decoded (0xe2 ∷ 0x82 ∷ 0xac ∷ []) ≡ 0x20ac ∷ []
unfolding decoded
of_three = refl

-- U+1F600 is two units, and one character of four bytes
one_character : encoded (0xd83d ∷ 0xde00 ∷ []) ≡ 0xf0 ∷ 0x9f ∷ 0x98 ∷ 0x80 ∷ []
unfolding utf16_chars encode_utf8
one_character = refl

-- halves without the other one
question_marks : encoded (0xde00 ∷ 0xd83d ∷ 0x41 ∷ 0xd83d ∷ []) ≡ codes "??A?"
unfolding utf16_chars encode_utf8
question_marks = refl

-- a line feed is added where the last line has none
lines_of_nothing : printed_lines [] ≡ []
unfolding utf16_chars encode_utf8
lines_of_nothing = refl

whole_line : printed_lines (codes "7\n") ≡ codes "7\n"
unfolding utf16_chars encode_utf8
whole_line = refl

line_begun : printed_lines (codes "7\n8") ≡ codes "7\n8\n"
unfolding utf16_chars encode_utf8
line_begun = refl

least_int : int_line 0x80000000 ≡ codes "-2147483648\n"
unfolding digits
least_int = refl
