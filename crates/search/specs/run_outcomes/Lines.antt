-- The order of printed texts, by their lines (own).
use Rattle.std.specs.Prelude.{◌≡◌, ◌+◌, ◌-◌, ◌*◌, ◌==◌, ◌&&◌, ◌||◌, ℕ, ℤ, List, [], ◌∷◌, Option, Some, None, Bool, not, if◌then◌else◌, FitsSigned, flat_map, nat_le, nat_lt, length, slice_index, codes, refl}
use Rattle.std.specs.List.{All, list_all}
use Rattle.std.specs.Cmp.Lexicographic.{slice_cmp}
use Rattle.std.specs.Int.{w32}
use Rattle.std.specs.Ordering.{int_cmp, nat_cmp, ordering_then}
use Rattle.std.specs.declared.cmp.Ordering.{Ordering}
use Rattle.std.specs.declared.cmp.Ordering.TheVariants.{Less, Greater}
use Rattle.model.specs.Texts.{Text, number_line}

-- ---- lines

abbrev pub begun : ℕ → List Text → List Text
begun unit [] = (unit ∷ []) ∷ []
begun unit (line ∷ lines) = (unit ∷ line) ∷ lines

-- the lines of a text without their line feeds; the last one need not have one
abbrev pub lines_of : Text → List Text
lines_of [] = []
lines_of (unit ∷ text) = if unit == 10 then [] ∷ lines_of text else begun unit (lines_of text)

-- ---- ints

abbrev pub is_digit : ℕ → Bool
is_digit unit = nat_le 48 unit && nat_le unit 57

-- digits behind those of a number
abbrev pub number_behind : ℕ → Text → ℕ
number_behind n [] = n
number_behind n (digit ∷ digits) = number_behind (n * 10 + (digit - 48)) digits

-- at least one and at most ten, and the first of several is no zero
abbrev pub is_short : Text → Bool
is_short digits = nat_lt 0 (length digits) && (nat_le (length digits) 10 && (nat_lt (length digits) 2 || not (slice_index digits 0 == 48)))

-- the number of which they are the decimal
abbrev pub number_of : Text → Option ℕ
number_of digits = if is_short digits && list_all is_digit digits then Some (number_behind 0 digits) else None

-- how many ints are less than 0, and how many there are
abbrev pub negative_ints : ℕ
negative_ints = 0x80000000

abbrev pub all_ints : ℕ
all_ints = 0x100000000

abbrev pub below_positive : Option ℕ → ℕ
below_positive None = all_ints
below_positive (Some n) = if nat_lt n negative_ints then negative_ints + n else all_ints

abbrev pub below_negative : Option ℕ → ℕ
below_negative None = all_ints
below_negative (Some n) = if nat_lt 0 n && nat_le n negative_ints then negative_ints - n else all_ints

-- how many ints are less than the one of which a line is the decimal; where it is that of none, all
abbrev pub ints_below : Text → ℕ
ints_below [] = all_ints
ints_below (first ∷ others) = if first == 45 then below_negative (number_of others) else below_positive (number_of (first ∷ others))

-- ---- the order

-- ints come first, by their numbers, and then other lines, by their units
abbrev pub line_cmp : Text → Text → Ordering
line_cmp one other = ordering_then (nat_cmp (ints_below one) (ints_below other)) (slice_cmp nat_cmp one other)

-- by the first lines that differ; a text that ends first comes first
abbrev pub text_cmp : Text → Text → Ordering
text_cmp one other = ordering_then (slice_cmp line_cmp (lines_of one) (lines_of other)) (slice_cmp nat_cmp one other)

-- Texts in which each line is an int are in the order of the ints.
abbrev pub AreInOrderOfInts : Type 0
AreInOrderOfInts = (one other : List ℤ) → All (FitsSigned w32) one → All (FitsSigned w32) other
    → text_cmp (flat_map number_line one) (flat_map number_line other) ≡ slice_cmp int_cmp one other

-- ---- examples

two_lines : lines_of (codes "1\n\nb") ≡ codes "1" ∷ [] ∷ codes "b" ∷ []
two_lines = refl

least : ints_below (codes "-2147483648") ≡ 0
least = refl

greatest : ints_below (codes "2147483647") ≡ all_ints - 1
greatest = refl

too_great : ints_below (codes "2147483648") ≡ all_ints
too_great = refl

no_decimal : ints_below (codes "07") ≡ all_ints
no_decimal = refl

no_zero : ints_below (codes "-0") ≡ all_ints
no_zero = refl

by_number : text_cmp (codes "9\n") (codes "10\n") ≡ Less
by_number = refl

words_behind : text_cmp (codes "a\n") (codes "1\n") ≡ Greater
words_behind = refl

shorter_first : text_cmp (codes "1\n") (codes "1\n2\n") ≡ Less
shorter_first = refl

without_its_end : text_cmp (codes "1\n2\n") (codes "1\n2") ≡ Greater
without_its_end = refl
