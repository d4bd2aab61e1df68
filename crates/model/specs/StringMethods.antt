-- What the methods of java.lang.String answer that have no code (the API of String): each reads texts and ints alone.
use Rattle.std.specs.Prelude.{◌≡◌, ℕ, ◌+◌, ◌-◌, ◌*◌, ◌%◌, ◌^◌, ℤ, pos, ◌+ℤ◌, nat_abs, int_le, List, [], ◌∷◌, ◌++◌, Option, Some, None, Bool, false, ◌&&◌, ◌==◌, if◌then◌else◌, nat_lt, nat_le, length, map, take, drop, slice_get, slice_index, unwrap_or, codes, refl}
use Rattle.std.specs.Option.{option_map_or}
use Rattle.std.specs.Fmt.{digits, signed_decimal}
use Rattle.std.specs.Str.{bytes_eq}
use Rattle.model.specs.declared.string_method.StringMethod.{StringMethod}
use Rattle.model.specs.declared.string_method.StringMethod.TheVariants.{Length, CharAt, Equals, HashCode, CompareTo, Concat, Substring, IndexOf, RegionMatches, ValueOfInt, ValueOfChar}
use Rattle.model.specs.declared.instr.Conversion.TheVariants.{ToChar}
use Rattle.model.specs.Ints.{signed, converted}
use Rattle.model.specs.Texts.{Text}

pub data StringAnswer : Type 0 where
  -- a NullPointerException
  IsNull : StringAnswer
  -- a StringIndexOutOfBoundsException
  IsOutside : StringAnswer
  -- an int, by its bits
  Answers : (bits : ℕ) → StringAnswer
  -- an operand, by its place
  Same : (operand : ℕ) → StringAnswer
  -- a new String
  Composes : (text : Text) → StringAnswer

-- what is done with the text of a String; null is a NullPointerException
abbrev pub with_text : Option Text → (Text → StringAnswer) → StringAnswer
with_text None go = IsNull
with_text (Some text) go = go text

abbrev pub answers_bit : Bool → StringAnswer
answers_bit b = Answers (if b then 1 else 0)

-- ---- what is asked of texts

-- an int that is not negative, and at most so much
abbrev pub is_at_most : ℕ → ℕ → Bool
is_at_most most bits = nat_lt bits (2 ^ 31) && nat_le bits most

-- `charAt`: the unit at an index
abbrev pub unit_at : Text → ℕ → StringAnswer
unit_at text index = if nat_lt index (2 ^ 31) && nat_lt index (length text) then Answers (slice_index text index) else IsOutside

abbrev pub is_same_text : Text → Option Text → Bool
is_same_text text other = option_map_or (bytes_eq text) other false

-- `hashCode`: s[0] * 31^(n-1) + .. + s[n-1], modulo 2^32
abbrev pub hash_after : ℕ → Text → ℕ
hash_after hash [] = hash
hash_after hash (unit ∷ text) = hash_after ((31 * hash + unit) % 2 ^ 32) text

-- the bits of the int that is the difference of two numbers
abbrev pub difference : ℕ → ℕ → ℕ
difference a b = (a + (2 ^ 32 - b)) % 2 ^ 32

-- `compareTo`: of the first units that differ, or else of the lengths
abbrev pub compared : Text → Text → ℕ
compared [] other = difference 0 (length other)
compared (unit ∷ text) [] = length (unit ∷ text) % 2 ^ 32
compared (unit ∷ text) (v ∷ other) = if unit == v then compared text other else difference unit v

-- `concat`: nothing is made where nothing is added
abbrev pub joined : ℕ → Text → Text → StringAnswer
joined receiver text [] = Same receiver
joined receiver text (unit ∷ other) = Composes (text ++ unit ∷ other)

-- `substring`, from begin to end: the whole is the receiver
abbrev pub part_or_whole : ℕ → Text → ℕ → ℕ → StringAnswer
part_or_whole receiver text begin end =
    if begin == 0 && end == length text then Same receiver else Composes (take (end - begin) (drop begin text))

abbrev pub part_of : ℕ → Text → ℕ → ℕ → StringAnswer
part_of receiver text begin end =
    if is_at_most (length text) end && is_at_most end begin then part_or_whole receiver text begin end else IsOutside

-- `indexOf`: the first place, counted from `at` on, that is not below `least` and has this unit
abbrev pub place_from : ℕ → ℕ → ℕ → Text → Option ℕ
place_from at least unit [] = None
place_from at least unit (u ∷ text) = if nat_le least at && u == unit then Some at else place_from (at + 1) least unit text

abbrev pub not_negative : ℕ → ℕ
not_negative bits = if nat_lt bits (2 ^ 31) then bits else 0

abbrev pub minus_one : ℕ
minus_one = 2 ^ 32 - 1

abbrev pub index_of : Text → ℕ → ℕ → ℕ
index_of text unit from = unwrap_or (place_from 0 (not_negative from) unit text) minus_one % 2 ^ 32

-- `regionMatches`: so many units from a place on lie in a text
abbrev pub is_region : Text → ℤ → ℤ → Bool
is_region text at count = int_le (pos 0) at && int_le (at +ℤ count) (pos (length text))

-- so many units from a place on; none where the count is negative
abbrev pub region : Text → ℤ → ℤ → Text
region text at count = if int_le count (pos 0) then [] else take (nat_abs count) (drop (nat_abs at) text)

abbrev pub regions_match : Text → ℤ → Text → ℤ → ℤ → Bool
regions_match text at other from count =
    is_region text at count && is_region other from count && bytes_eq (region text at count) (region other from count)

-- ---- the table: by the ints among the operands, by their bits, and the texts of the Strings among them; the last operand has
-- number 0, and the receiver the highest

abbrev pub string_answer : StringMethod → (ℕ → ℕ) → (ℕ → Option Text) → StringAnswer
string_answer Length int text = with_text (text 0) (λ this. Answers (length this % 2 ^ 32))
string_answer CharAt int text = with_text (text 1) (λ this. unit_at this (int 0))
string_answer Equals int text = with_text (text 1) (λ this. answers_bit (is_same_text this (text 0)))
string_answer HashCode int text = with_text (text 0) (λ this. Answers (hash_after 0 this))
string_answer CompareTo int text = with_text (text 1) (λ this. with_text (text 0) (λ other. Answers (compared this other)))
string_answer Concat int text = with_text (text 1) (λ this. with_text (text 0) (joined 1 this))
string_answer Substring int text = with_text (text 2) (λ this. part_of 2 this (int 1) (int 0))
string_answer IndexOf int text = with_text (text 2) (λ this. Answers (index_of this (int 1) (int 0)))
string_answer RegionMatches int text =
    with_text (text 4)
    (λ this. with_text (text 2) (λ other. answers_bit (regions_match this (signed (int 3)) other (signed (int 1)) (signed (int 0)))))
string_answer ValueOfInt int text = Composes (signed_decimal (signed (int 0)))
string_answer ValueOfChar int text = Composes (converted ToChar (int 0) ∷ [])

-- ---- examples

abbrev pub hello : Text
hello = codes "hello"

-- what a method answers of the operands, the last one first: of each its bits and its text
abbrev pub answer_of : StringMethod → List (ℕ × Option Text) → StringAnswer
answer_of method operands =
    string_answer method (λ k. option_map_or (λ (o : ℕ × Option Text). o.0) (slice_get operands k) 0)
    (λ k. option_map_or (λ (o : ℕ × Option Text). o.1) (slice_get operands k) None)

abbrev pub int : ℕ → ℕ × Option Text
int bits = (bits, None)

abbrev pub string : Text → ℕ × Option Text
string text = (1, Some text)

abbrev pub null : ℕ × Option Text
null = (0, None)

lengths : map (λ text. answer_of Length (string text ∷ [])) (hello ∷ [] ∷ []) ≡ Answers 5 ∷ Answers 0 ∷ []
lengths = refl

units : map (λ index. answer_of CharAt (int index ∷ string hello ∷ [])) (0 ∷ 4 ∷ 5 ∷ minus_one ∷ [])
    ≡ Answers 104 ∷ Answers 111 ∷ IsOutside ∷ IsOutside ∷ []
units = refl

-- of another String, of null, and of an object of another class
equal_texts : map (λ other. answer_of Equals (other ∷ string hello ∷ [])) (string hello ∷ string (codes "hell") ∷ null ∷ int 9 ∷ [])
    ≡ Answers 1 ∷ Answers 0 ∷ Answers 0 ∷ Answers 0 ∷ []
equal_texts = refl

-- 99162322, as the API has it, and one that wraps
hashes : map (λ text. answer_of HashCode (string text ∷ [])) (hello ∷ codes "The quick brown fox" ∷ []) ≡ Answers 99162322 ∷ Answers 2555631267 ∷ []
hashes = refl

compares : map (λ other. answer_of CompareTo (other ∷ string (codes "abc") ∷ [])) (string (codes "abd") ∷ string (codes "ab") ∷ string (codes "abc") ∷ null ∷ [])
    ≡ Answers minus_one ∷ Answers 1 ∷ Answers 0 ∷ IsNull ∷ []
compares = refl

joins : map (λ other. answer_of Concat (other ∷ string (codes "ab") ∷ [])) (string (codes "c") ∷ string [] ∷ null ∷ []) ≡ Composes (codes "abc") ∷ Same 1 ∷ IsNull ∷ []
joins = refl

parts : map (λ (bounds : ℕ × ℕ). answer_of Substring (int bounds.1 ∷ int bounds.0 ∷ string hello ∷ []))
    ((1, 3) ∷ (0, 5) ∷ (5, 5) ∷ (2, 1) ∷ (0, 6) ∷ (minus_one, 2) ∷ [])
    ≡ Composes (codes "el") ∷ Same 2 ∷ Composes [] ∷ IsOutside ∷ IsOutside ∷ IsOutside ∷ []
parts = refl

places : map (λ from. answer_of IndexOf (int from ∷ int 108 ∷ string hello ∷ [])) (0 ∷ 3 ∷ 4 ∷ minus_one ∷ []) ≡ Answers 2 ∷ Answers 3 ∷ Answers minus_one ∷ Answers 2 ∷ []
places = refl

-- `"hello".regionMatches(2, "ll", 0, n)`
regions : map (λ n. answer_of RegionMatches (int n ∷ int 0 ∷ string (codes "ll") ∷ int 2 ∷ string hello ∷ [])) (2 ∷ 3 ∷ 0 ∷ minus_one ∷ [])
    ≡ Answers 1 ∷ Answers 0 ∷ Answers 1 ∷ Answers 1 ∷ []
regions = refl

text_of_char : answer_of ValueOfChar (int 0x10041 ∷ []) ≡ Composes (codes "A")
text_of_char = refl

texts_of_ints : map (λ n. answer_of ValueOfInt (int n ∷ [])) (0 ∷ minus_one ∷ []) ≡ Composes (codes "0") ∷ Composes (codes "-1") ∷ []
unfolding digits
texts_of_ints = refl
