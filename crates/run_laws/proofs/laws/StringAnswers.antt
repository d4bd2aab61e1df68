-- What the methods of String read of their operands, and what kinds of answers they give.
use Rattle.std.proofs.Common.{◌≡◌, ℕ, List, [], ◌∷◌, Bool, true, false, ◌==◌, if◌then◌else◌, ◌&&◌, ◌%◌, ◌^◌, nat_lt, length, Option, Some, None, refl, ap}
use Rattle.std.specs.List.{list_any}
use Rattle.model.specs.declared.string_method.StringMethod.{StringMethod}
use Rattle.model.specs.declared.string_method.StringMethod.TheVariants.{Length, CharAt, Equals, HashCode, CompareTo, Concat, Substring, IndexOf, RegionMatches, ValueOfInt, ValueOfChar}
use Rattle.model.specs.Ints.{signed}
use Rattle.model.specs.StringMethods.{StringAnswer, IsNull, IsOutside, Answers, Same, Composes, string_answer, with_text, answers_bit, is_at_most, is_same_text, unit_at, hash_after, compared, joined, part_or_whole, part_of, index_of, regions_match}
use Rattle.model.specs.Texts.{Text}

-- ---- what is read

-- the operands that are read as Strings, by their places counted from the top
abbrev pub string_places : StringMethod → List ℕ
string_places Length = 0 ∷ []
string_places CharAt = 1 ∷ []
string_places Equals = 1 ∷ 0 ∷ []
string_places HashCode = 0 ∷ []
string_places CompareTo = 1 ∷ 0 ∷ []
string_places Concat = 1 ∷ 0 ∷ []
string_places Substring = 2 ∷ []
string_places IndexOf = 2 ∷ []
string_places RegionMatches = 4 ∷ 2 ∷ []
string_places ValueOfInt = []
string_places ValueOfChar = []

abbrev pub is_place_of : List ℕ → ℕ → Bool
is_place_of places k = list_any (λ place. place == k) places

-- nothing else is read as a String
pub same_answers : (method : StringMethod) (int : ℕ → ℕ) (s t : ℕ → Option Text)
    → ((k : ℕ) → is_place_of (string_places method) k ≡ true → s k ≡ t k) → string_answer method int s ≡ string_answer method int t
same_answers Length int s t e = ap (λ o. with_text o (λ this. Answers (length this % 2 ^ 32))) (e 0 refl)
same_answers CharAt int s t e = ap (λ o. with_text o (λ this. unit_at this (int 0))) (e 1 refl)
same_answers Equals int s t e = λ i. with_text (e 1 refl i) (λ this. answers_bit (is_same_text this (e 0 refl i)))
same_answers HashCode int s t e = ap (λ o. with_text o (λ this. Answers (hash_after 0 this))) (e 0 refl)
same_answers CompareTo int s t e = λ i. with_text (e 1 refl i) (λ this. with_text (e 0 refl i) (λ other. Answers (compared this other)))
same_answers Concat int s t e = λ i. with_text (e 1 refl i) (λ this. with_text (e 0 refl i) (joined 1 this))
same_answers Substring int s t e = ap (λ o. with_text o (λ this. part_of 2 this (int 1) (int 0))) (e 2 refl)
same_answers IndexOf int s t e = ap (λ o. with_text o (λ this. Answers (index_of this (int 1) (int 0)))) (e 2 refl)
same_answers RegionMatches int s t e =
    λ i.
    with_text (e 4 refl i)
    (λ this.
    with_text (e 2 refl i)
    (λ other. answers_bit (regions_match this (signed (int 3)) other (signed (int 1)) (signed (int 0)))))
same_answers ValueOfInt int s t e = refl
same_answers ValueOfChar int s t e = refl

-- ---- what is answered

-- an int, or an exception
abbrev pub IsOfInt : StringAnswer → Type 0
IsOfInt IsNull = Unit {0}
IsOfInt IsOutside = Unit {0}
IsOfInt (Answers bits) = Unit {0}
IsOfInt (Same k) = ⊥
IsOfInt (Composes text) = ⊥

-- a new String, the operand at a place, or an exception
abbrev pub IsOfString : ℕ → StringAnswer → Type 0
IsOfString place IsNull = Unit {0}
IsOfString place IsOutside = Unit {0}
IsOfString place (Answers bits) = ⊥
IsOfString place (Same k) = k ≡ place
IsOfString place (Composes text) = Unit {0}

module _ (P : StringAnswer → Type 0) where
  of_text : (o : Option Text) (go : Text → StringAnswer) → P IsNull → ((text : Text) → P (go text)) → P (with_text o go)
  of_text None go n h = n
  of_text (Some text) go n h = h text

  either : (b : Bool) (x y : StringAnswer) → P x → P y → P (if b then x else y)
  either true x y p q = p
  either false x y p q = q

unit_of_int : (text : Text) (index : ℕ) → IsOfInt (unit_at text index)
unit_of_int text index = either IsOfInt (nat_lt index (2 ^ 31) && nat_lt index (length text)) _ IsOutside tt tt

joined_of_string : (receiver : ℕ) (text other : Text) → IsOfString receiver (joined receiver text other)
joined_of_string receiver text [] = refl
joined_of_string receiver text (unit ∷ other) = tt

part_of_string : (receiver : ℕ) (text : Text) (begin end : ℕ) → IsOfString receiver (part_of receiver text begin end)
part_of_string receiver text begin end =
    let whole = either (IsOfString receiver) (begin == 0 && end == length text) (Same receiver) _ refl tt in
    either (IsOfString receiver) (is_at_most (length text) end && is_at_most end begin) (part_or_whole receiver text begin end) IsOutside whole tt

module _ (int : ℕ → ℕ) (text : ℕ → Option Text) where
  pub length_of_int : IsOfInt (string_answer Length int text)
  length_of_int = of_text IsOfInt (text 0) _ tt (λ this. tt)

  pub char_of_int : IsOfInt (string_answer CharAt int text)
  char_of_int = of_text IsOfInt (text 1) _ tt (λ this. unit_of_int this (int 0))

  pub equals_of_int : IsOfInt (string_answer Equals int text)
  equals_of_int = of_text IsOfInt (text 1) _ tt (λ this. tt)

  pub hash_of_int : IsOfInt (string_answer HashCode int text)
  hash_of_int = of_text IsOfInt (text 0) _ tt (λ this. tt)

  pub compared_of_int : IsOfInt (string_answer CompareTo int text)
  compared_of_int = of_text IsOfInt (text 1) _ tt (λ this. of_text IsOfInt (text 0) _ tt (λ other. tt))

  pub index_of_int : IsOfInt (string_answer IndexOf int text)
  index_of_int = of_text IsOfInt (text 2) _ tt (λ this. tt)

  pub regions_of_int : IsOfInt (string_answer RegionMatches int text)
  regions_of_int = of_text IsOfInt (text 4) _ tt (λ this. of_text IsOfInt (text 2) _ tt (λ other. tt))

  pub concat_of_string : IsOfString 1 (string_answer Concat int text)
  concat_of_string = of_text (IsOfString 1) (text 1) _ tt (λ this. of_text (IsOfString 1) (text 0) _ tt (joined_of_string 1 this))

  pub substring_of_string : IsOfString 2 (string_answer Substring int text)
  substring_of_string = of_text (IsOfString 2) (text 2) _ tt (λ this. part_of_string 2 this (int 1) (int 0))
