-- The text of ints is ASCII, and ends a line.
use Rattle.std.proofs.Common.{◌≡◌, ℕ, ℤ, pos, negsuc, ◌<◌, ◌^◌, List, [], ◌∷◌, ◌++◌, Some, None, Bool, true, refl, ap, ◌∙◌, append-nil, arith}
use Rattle.std.specs.Prelude.{FitsSigned, ◌&&◌, nat_lt, if◌then◌else◌}
use Rattle.std.specs.List.{All, flat_map}
use Rattle.std.specs.Int.{w32}
use Rattle.std.specs.Int.Signed.{mag}
use Rattle.std.specs.Char.Utf16.{lone_unit_char}
use Rattle.std.proofs.lemmas.Bool.{lt-leb}
use Rattle.std.proofs.lemmas.Fmt.{IsAscii-signed}
use Rattle.std.proofs.lemmas.Str.{encode_ascii, utf16_chars-nil, utf16_chars_lone}
use Rattle.std.proofs.lemmas.Str.Ascii.{All-from_ascii}
use Rattle.std.proofs.lemmas.List.Elements.{All-append, All-head, All-nil, All-push, All-tail}
use Rattle.model.specs.Texts.{Text, character_bytes, encoded, ends_line, number_line}
use Rattle.model.specs.Report.{signed_number}
use Rattle.run_laws.specs.printed_texts.Lines.{ArePrintedAsLines}

abbrev pub IsAsciiUnit : ℕ → Type 0
IsAsciiUnit u = u < 128

lone : (u : ℕ) → u < 128 → lone_unit_char u ≡ Some u
lone u ascii = ap (λ (b : Bool). if b && nat_lt u 0xE000 then None else Some u) (lt-leb 0xD800 u (omega (arith, ascii)))

-- a unit of ASCII begins no pair
first_encoded : (u : ℕ) (text : Text) → u < 128 → encoded (u ∷ text) ≡ u ∷ encoded text
first_encoded u text ascii =
    ap (λ cs. flat_map character_bytes cs) (utf16_chars_lone u text (λ pair. omega (arith, ascii, pair)))
    ∙ ap (λ c. character_bytes c ++ encoded text) (lone u ascii)
    ∙ ap (λ bytes. bytes ++ encoded text) (encode_ascii u ascii)

-- a text of ASCII is its own bytes
pub ascii_encoded : (text : Text) → All IsAsciiUnit text → encoded text ≡ text
ascii_encoded [] h = ap (λ cs. flat_map character_bytes cs) utf16_chars-nil
ascii_encoded (u ∷ text) h = first_encoded u text (All-head IsAsciiUnit u text h) ∙ ap (λ (l : List ℕ). u ∷ l) (ascii_encoded text (All-tail IsAsciiUnit u text h))

pub ends_append : (text other : Text) → ends_line text ≡ true → ends_line other ≡ true → ends_line (text ++ other) ≡ true
ends_append [] other h k = k
ends_append (u ∷ []) [] h k = h
ends_append (u ∷ []) (v ∷ other) h k = k
ends_append (u ∷ v ∷ text) other h k = ends_append (v ∷ text) other h k

pub ends_with : (text : Text) → ends_line (text ++ 10 ∷ []) ≡ true
ends_with [] = refl
ends_with (u ∷ []) = refl
ends_with (u ∷ v ∷ text) = ends_with (v ∷ text)

small : (z : ℤ) → FitsSigned w32 z → mag z < 2 ^ 63
small (pos n) is = omega (arith, is.sfits)
small (negsuc n) is = omega (arith, is.sfits)

line_ascii : (z : ℤ) → FitsSigned w32 z → All IsAsciiUnit (number_line z)
line_ascii z is = All-push IsAsciiUnit (signed_number z) 10 (All-from_ascii (signed_number z) (IsAscii-signed z (small z is))) (omega arith)

lines_ascii : (ints : List ℤ) → All (FitsSigned w32) ints → All IsAsciiUnit (flat_map number_line ints)
lines_ascii [] each = All-nil IsAsciiUnit
lines_ascii (z ∷ ints) each = All-append IsAsciiUnit (number_line z) (flat_map number_line ints)
    (line_ascii z (All-head (FitsSigned w32) z ints each)) (lines_ascii ints (All-tail (FitsSigned w32) z ints each))

pub lines_end : (ints : List ℤ) → ends_line (flat_map number_line ints) ≡ true
lines_end [] = refl
lines_end (z ∷ ints) = ends_append (number_line z) (flat_map number_line ints) (ends_with (signed_number z)) (lines_end ints)

pub printed_as_lines : ArePrintedAsLines
printed_as_lines ints each =
    ap (λ (b : Bool). encoded (flat_map number_line ints) ++ (if b then [] else 10 ∷ [])) (lines_end ints)
    ∙ append-nil (encoded (flat_map number_line ints))
    ∙ ascii_encoded (flat_map number_line ints) (lines_ascii ints each)
