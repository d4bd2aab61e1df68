-- What the methods of String answer: it hangs on their operands alone, and texts of units of 16 bits give such texts.
use Rattle.std.proofs.Common.{◌≡◌, ◌<◌, ◌+◌, ◌-◌, ◌/◌, ◌%◌, ◌^◌, ◌==◌, ◌&&◌, nat_lt, ℕ, ℤ, pos, negsuc, zero, suc, [], ◌∷◌, Bool, true, false, if◌then◌else◌, Option, Some, None, length, take, drop, arith}
use Rattle.std.specs.Fmt.{digits, digits_onto, digit_glyph, signed_decimal}
use Rattle.std.proofs.Math.Nat.{mod-lt}
use Rattle.std.proofs.lemmas.List.Elements.{All-append, All-take, All-drop, All-cons, All-nil}
use Rattle.model.specs.declared.string_method.StringMethod.{StringMethod}
use Rattle.model.specs.declared.string_method.StringMethod.TheVariants.{Length, CharAt, Equals, HashCode, CompareTo, Concat, Substring, IndexOf, RegionMatches, ValueOfInt, ValueOfChar}
use Rattle.model.specs.declared.instr.Conversion.TheVariants.{ToChar}
use Rattle.model.specs.Ints.{signed, converted}
use Rattle.model.specs.StringMethods.{StringAnswer, IsNull, IsOutside, Answers, Same, Composes, with_text, answers_bit, unit_at, is_same_text, hash_after, compared, joined, part_or_whole, part_of, index_of, regions_match, string_answer}
use Rattle.model.specs.Texts.{Text}
use Rattle.machine_state.specs.shown_objects.Shown.{AreUnits}
use Rattle.machine_instructions.specs.thread_methods.Called.{string_operands}

-- ---- of the operands alone

pub same_answer : (m : StringMethod) (int other : ℕ → ℕ) (text words : ℕ → Option Text)
    → ((k : ℕ) → k < string_operands m → int k ≡ other k) → ((k : ℕ) → k < string_operands m → text k ≡ words k)
    → string_answer m int text ≡ string_answer m other words
same_answer Length int other text words hi ht = let a = ht 0 (omega arith) in λ i. with_text (a i) (λ this. Answers (length this % 2 ^ 32))
same_answer CharAt int other text words hi ht =
    let a = ht 1 (omega arith) in
    let b = hi 0 (omega arith) in
    λ i. with_text (a i) (λ this. unit_at this (b i))
same_answer Equals int other text words hi ht =
    let a = ht 1 (omega arith) in
    let b = ht 0 (omega arith) in
    λ i. with_text (a i) (λ this. answers_bit (is_same_text this (b i)))
same_answer HashCode int other text words hi ht = let a = ht 0 (omega arith) in λ i. with_text (a i) (λ this. Answers (hash_after 0 this))
same_answer CompareTo int other text words hi ht =
    let a = ht 1 (omega arith) in
    let b = ht 0 (omega arith) in
    λ i. with_text (a i) (λ this. with_text (b i) (λ that. Answers (compared this that)))
same_answer Concat int other text words hi ht =
    let a = ht 1 (omega arith) in
    let b = ht 0 (omega arith) in
    λ i. with_text (a i) (λ this. with_text (b i) (joined 1 this))
same_answer Substring int other text words hi ht =
    let a = ht 2 (omega arith) in
    let b = hi 1 (omega arith) in
    let c = hi 0 (omega arith) in
    λ i. with_text (a i) (λ this. part_of 2 this (b i) (c i))
same_answer IndexOf int other text words hi ht =
    let a = ht 2 (omega arith) in
    let b = hi 1 (omega arith) in
    let c = hi 0 (omega arith) in
    λ i. with_text (a i) (λ this. Answers (index_of this (b i) (c i)))
same_answer RegionMatches int other text words hi ht =
    let a = ht 4 (omega arith) in
    let b = ht 2 (omega arith) in
    let c = hi 3 (omega arith) in
    let d = hi 1 (omega arith) in
    let e = hi 0 (omega arith) in
    λ i. with_text (a i) (λ this. with_text (b i) (λ that. answers_bit (regions_match this (signed (c i)) that (signed (d i)) (signed (e i)))))
same_answer ValueOfInt int other text words hi ht = let a = hi 0 (omega arith) in λ i. Composes (signed_decimal (signed (a i)))
same_answer ValueOfChar int other text words hi ht = let a = hi 0 (omega arith) in λ i. Composes (converted ToChar (a i) ∷ [])

-- there is an operand
pub some_operands : (m : StringMethod) → 0 < string_operands m
some_operands Length = omega arith
some_operands CharAt = omega arith
some_operands Equals = omega arith
some_operands HashCode = omega arith
some_operands CompareTo = omega arith
some_operands Concat = omega arith
some_operands Substring = omega arith
some_operands IndexOf = omega arith
some_operands RegionMatches = omega arith
some_operands ValueOfInt = omega arith
some_operands ValueOfChar = omega arith

-- ---- what is answered is right

abbrev pub AreUnitsOf : Option Text → Type 0
AreUnitsOf None = Unit {0}
AreUnitsOf (Some text) = AreUnits text

-- an operand that is answered is one of so many, and a text that is made has units
abbrev pub IsRight : ℕ → StringAnswer → Type 0
IsRight count IsNull = Unit {0}
IsRight count IsOutside = Unit {0}
IsRight count (Answers bits) = Unit {0}
IsRight count (Same k) = k < count
IsRight count (Composes text) = AreUnits text

with_right : (count : ℕ) (o : Option Text) (go : Text → StringAnswer) → AreUnitsOf o
    → ((text : Text) → AreUnits text → IsRight count (go text)) → IsRight count (with_text o go)
with_right count None go h f = tt
with_right count (Some text) go h f = f text h

if_right : (count : ℕ) (b : Bool) (x y : StringAnswer) → IsRight count x → IsRight count y → IsRight count (if b then x else y)
if_right count true x y h k = h
if_right count false x y h k = k

joined_right : (this other : Text) → AreUnits this → AreUnits other → IsRight 2 (joined 1 this other)
joined_right this [] h k = omega arith
joined_right this (unit ∷ other) h k = All-append (λ u. u < 2 ^ 16) this (unit ∷ other) h k

part_right : (this : Text) (begin end : ℕ) → AreUnits this → IsRight 3 (part_or_whole 2 this begin end)
part_right this begin end h =
    if_right 3 (begin == 0 && end == length this) (Same 2) (Composes (take (end - begin) (drop begin this))) (omega arith)
    (All-take (λ u. u < 2 ^ 16) (end - begin) (drop begin this) (All-drop (λ u. u < 2 ^ 16) begin this h))

-- ---- digits

glyph_small : (d : ℕ) → d < 10 → digit_glyph false d < 2 ^ 16
glyph_small d h = by (nat_lt d 10)
  where
    by : (b : Bool) → (if b then 48 + d else 87 + d) < 2 ^ 16
    by true = omega (arith, h)
    by false = omega (arith, h)

onto_units : (k n : ℕ) (units : Text) → AreUnits units → AreUnits (digits_onto k 10 false n units)
onto_units zero n units h = h
onto_units (suc k) n units h = by (onto_units k (n / 10) (digit_glyph false (n % 10) ∷ units) more) (n / 10 == 0)
  where
    small : n % 10 < 10
    small = mod-lt n (omega arith)

    more : AreUnits (digit_glyph false (n % 10) ∷ units)
    more = All-cons (λ u. u < 2 ^ 16) (digit_glyph false (n % 10)) units (glyph_small (n % 10) small) h

    by : AreUnits (digits_onto k 10 false (n / 10) (digit_glyph false (n % 10) ∷ units)) → (b : Bool)
        → AreUnits (if b then digit_glyph false (n % 10) ∷ units else digits_onto k 10 false (n / 10) (digit_glyph false (n % 10) ∷ units))
    by rest true = more
    by rest false = rest

decimal_units : (n : ℕ) → AreUnits (digits 10 false n)
unfolding digits
decimal_units n = onto_units 64 n [] (All-nil (λ u. u < 2 ^ 16))

pub signed_units : (z : ℤ) → AreUnits (signed_decimal z)
signed_units (pos n) = decimal_units n
signed_units (negsuc n) = All-cons (λ u. u < 2 ^ 16) 45 (digits 10 false (suc n)) (omega arith) (decimal_units (suc n))

-- ---- each method

pub right : (m : StringMethod) (int : ℕ → ℕ) (text : ℕ → Option Text) → ((k : ℕ) → AreUnitsOf (text k))
    → IsRight (string_operands m) (string_answer m int text)
right Length int text h = with_right 1 (text 0) (λ this. Answers (length this % 2 ^ 32)) (h 0) (λ this u. tt)
right CharAt int text h =
    with_right 2 (text 1) (λ this. unit_at this (int 0)) (h 1)
    (λ this u. if_right 2 (nat_lt (int 0) (2 ^ 31) && nat_lt (int 0) (length this)) _ IsOutside tt tt)
right Equals int text h = with_right 2 (text 1) (λ this. answers_bit (is_same_text this (text 0))) (h 1) (λ this u. tt)
right HashCode int text h = with_right 1 (text 0) (λ this. Answers (hash_after 0 this)) (h 0) (λ this u. tt)
right CompareTo int text h =
    with_right 2 (text 1) (λ this. with_text (text 0) (λ that. Answers (compared this that))) (h 1)
    (λ this u. with_right 2 (text 0) (λ that. Answers (compared this that)) (h 0) (λ that v. tt))
right Concat int text h =
    with_right 2 (text 1) (λ this. with_text (text 0) (joined 1 this)) (h 1)
    (λ this u. with_right 2 (text 0) (joined 1 this) (h 0) (λ that v. joined_right this that u v))
right Substring int text h =
    with_right 3 (text 2) (λ this. part_of 2 this (int 1) (int 0)) (h 2)
    (λ this u. if_right 3 _ (part_or_whole 2 this (int 1) (int 0)) IsOutside (part_right this (int 1) (int 0) u) tt)
right IndexOf int text h = with_right 3 (text 2) (λ this. Answers (index_of this (int 1) (int 0))) (h 2) (λ this u. tt)
right RegionMatches int text h =
    with_right 5 (text 4)
    (λ this. with_text (text 2) (λ that. answers_bit (regions_match this (signed (int 3)) that (signed (int 1)) (signed (int 0))))) (h 4)
    (λ this u. with_right 5 (text 2) (λ that. answers_bit (regions_match this (signed (int 3)) that (signed (int 1)) (signed (int 0)))) (h 2) (λ that v. tt))
right ValueOfInt int text h = signed_units (signed (int 0))
right ValueOfChar int text h =
    let small : converted ToChar (int 0) < 2 ^ 16 = mod-lt (int 0) (omega arith) in
    All-cons (λ u. u < 2 ^ 16) (converted ToChar (int 0)) [] small (All-nil (λ u. u < 2 ^ 16))
