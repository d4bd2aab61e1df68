-- Texts in which each line is an int are in the order of the ints.
use Rattle.std.proofs.Common.{◌≡◌, ℕ, suc, ℤ, pos, negsuc, ◌+◌, ◌-◌, ◌^◌, ◌<◌, ◌≤◌, List, [], ◌∷◌, Some, None, Bool, true, false, ◌&&◌, ◌||◌, not, map, length, get_or, refl, sym, ap, ◌∙◌, arith}
use Rattle.std.specs.Prelude.{◌==◌, if◌then◌else◌, FitsSigned, flat_map, nat_le, nat_lt}
use Rattle.std.specs.List.{All, list_all}
use Rattle.std.specs.Int.{w32}
use Rattle.std.specs.Int.Signed.{◌<ℤ◌, lt_z_yes}
use Rattle.std.specs.Cmp.{int_cmp_is, ranks}
use Rattle.std.specs.Cmp.Lexicographic.{slice_cmp}
use Rattle.std.specs.Fmt.{decimal, signed_decimal}
use Rattle.std.specs.Ordering.{MatchOrdering, int_cmp, nat_cmp, ordering_then}
use Rattle.std.specs.Str.Parse.{AllDigits}
use Rattle.std.specs.declared.cmp.Ordering.{Ordering}
use Rattle.std.specs.declared.cmp.Ordering.TheVariants.{Less, Equal, Greater}
use Rattle.std.proofs.lemmas.Bool.{le-leb, lt-ltb}
use Rattle.std.proofs.lemmas.Bool.Decides.{Decides-eqb, not_from_Decides}
use Rattle.std.proofs.lemmas.Cmp.{int_ranked}
use Rattle.std.proofs.Math.Facts.{yes_ltb}
use Rattle.std.proofs.lemmas.Fmt.{decimal_digit, decimal_is_IsNumeral, first_decimal, length-decimal-le}
use Rattle.std.proofs.lemmas.List.{append_assoc}
use Rattle.std.proofs.lemmas.List.Elements.{All-cons, All-head, All-nil, All-tail}
use Rattle.std.proofs.lemmas.Str.Parse.{FoldsDigits, numerals_by_fold, tells_digits}
use Rattle.model.specs.Texts.{Text, number_line}
use Rattle.search.specs.run_outcomes.Lines.{AreInOrderOfInts, all_ints, below_negative, below_positive, ints_below, is_digit, is_short, line_cmp, lines_of, negative_ints, number_behind, number_of}
use Rattle.search.proofs.run_outcomes.LineLaws.{EndsNoLine, digit_is, is_no_end, line_first}
use Rattle.search.proofs.run_outcomes.Ties.{first_decides, same_lists, units_equal}

-- ---- digits

folds : FoldsDigits number_behind
folds = record { empty = λ n. refl; more = λ n c cs within. refl }

all_digits : (ds : Text) → AllDigits 10 ds → list_all is_digit ds ≡ true
all_digits [] each = refl
all_digits (c ∷ cs) each =
    let parts = tells_digits.parts c cs each in ap (λ (b : Bool). b && list_all is_digit cs) (digit_is c parts.0.0 parts.0.1) ∙ all_digits cs parts.1

no_ends : (ds : Text) → AllDigits 10 ds → All EndsNoLine ds
no_ends [] each = All-nil EndsNoLine
no_ends (c ∷ cs) each =
    let parts = tells_digits.parts c cs each in
    All-cons EndsNoLine c cs (is_no_end c (λ e. omega (arith, e, parts.0.0))) (no_ends cs parts.1)

first_digit : (ds : Text) → 0 < length ds → AllDigits 10 ds → 48 ≤ get_or ds 0 0
first_digit [] some each = absurd (omega (arith, some))
first_digit (c ∷ cs) some each = (tells_digits.parts c cs each).0.0

unequal : (m n : ℕ) → (m ≡ n → ⊥) → (m == n) ≡ false
unequal m n other = by (m == n) refl
  where
    by : (b : Bool) → (m == n) ≡ b → (m == n) ≡ false
    by true e = absurd (other ((Decides-eqb m n).0 e))
    by false e = e

-- ---- decimals

module _ (n : ℕ) (few : n < 10 ^ 10) where
  small : n < 2 ^ 64
  small = omega (arith, few)

  numeral : (0 < length (decimal n)) × AllDigits 10 (decimal n)
  numeral = (decimal_is_IsNumeral n small).0

  -- the first of several digits is no zero
  begins : (nat_lt (length (decimal n)) 2 || not (get_or (decimal n) 0 0 == 48)) ≡ true
  begins = of (n == 0) refl
    where
      of : (b : Bool) → (n == 0) ≡ b → (nat_lt (length (decimal n)) 2 || not (get_or (decimal n) 0 0 == 48)) ≡ true
      of true e =
          let zero_is : n ≡ 0 = (Decides-eqb n 0).0 e in
          ap (λ (m : ℕ). nat_lt (length (decimal m)) 2 || not (get_or (decimal m) 0 0 == 48)) zero_is
          ∙ ap (λ (l : Text). nat_lt (length l) 2 || not (get_or l 0 0 == 48)) (decimal_digit 0 (omega arith))
      of false e =
          let first = first_decimal n (above e) small in
          ap (λ (b : Bool). nat_lt (length (decimal n)) 2 || not b) (unequal (get_or (decimal n) 0 0) 48 (λ e. omega (arith, e, first)))
          ∙ or_true (nat_lt (length (decimal n)) 2)
        where
          or_true : (b : Bool) → (b || true) ≡ true
          or_true true = refl
          or_true false = refl

          above : (n == 0) ≡ false → 0 < n
          above none = let some = not_from_Decides (n == 0) (Decides-eqb n 0) none in omega (arith, some)

  short : is_short (decimal n) ≡ true
  short =
      ap (λ (b : Bool). b && (nat_le (length (decimal n)) 10 && (nat_lt (length (decimal n)) 2 || not (get_or (decimal n) 0 0 == 48))))
      (lt-ltb 0 (length (decimal n)) numeral.0)
      ∙ ap (λ (b : Bool). b && (nat_lt (length (decimal n)) 2 || not (get_or (decimal n) 0 0 == 48)))
      (le-leb (length (decimal n)) 10 (length-decimal-le 10 n (omega arith) few small))
      ∙ begins

  number_is : number_behind 0 (decimal n) ≡ n
  number_is = (numerals_by_fold (AllDigits 10) tells_digits number_behind folds).same (decimal n) numeral.1 ∙ (decimal_is_IsNumeral n small).1

  pub decimal_number : number_of (decimal n) ≡ Some n
  decimal_number =
      ap (λ (b : Bool). if b && list_all is_digit (decimal n) then Some (number_behind 0 (decimal n)) else None) short
      ∙ ap (λ (b : Bool). if b then Some (number_behind 0 (decimal n)) else None) (all_digits (decimal n) numeral.1)
      ∙ ap (λ (m : ℕ). Some m) number_is

-- ---- ints

-- how many ints are less
abbrev place : ℤ → ℕ
place (pos n) = negative_ints + n
place (negsuc n) = negative_ints - suc n

no_sign : (ds : Text) → 0 < length ds → 48 ≤ get_or ds 0 0 → ints_below ds ≡ below_positive (number_of ds)
no_sign [] some digit = absurd (omega (arith, some))
no_sign (c ∷ cs) some digit =
    ap (λ (b : Bool). if b then below_negative (number_of cs) else below_positive (number_of (c ∷ cs))) (unequal c 45 (λ e. omega (arith, e, digit)))

pub int_place : (z : ℤ) → FitsSigned w32 z → ints_below (signed_decimal z) ≡ place z
int_place (pos n) is =
    let few : n < negative_ints = omega (arith, is.sfits) in
    let here = numeral n (omega (arith, few)) in
    no_sign (decimal n) here.0 (first_digit (decimal n) here.0 here.1) ∙ ap below_positive (decimal_number n (omega (arith, few)))
    ∙ ap (λ (b : Bool). if b then negative_ints + n else all_ints) (lt-ltb n negative_ints few)
int_place (negsuc n) is =
    let few : n < negative_ints = omega (arith, is.sfits) in
    ap below_negative (decimal_number (suc n) (omega (arith, few)))
    ∙ ap (λ (b : Bool). if b && nat_le (suc n) negative_ints then negative_ints - suc n else all_ints) (lt-ltb 0 (suc n) (omega arith))
    ∙ ap (λ (b : Bool). if b then negative_ints - suc n else all_ints) (le-leb (suc n) negative_ints (omega (arith, few)))

int_no_ends : (z : ℤ) → FitsSigned w32 z → All EndsNoLine (signed_decimal z)
int_no_ends (pos n) is = no_ends (decimal n) (numeral n (omega (arith, is.sfits))).1
int_no_ends (negsuc n) is =
    All-cons EndsNoLine 45 (decimal (suc n)) refl (no_ends (decimal (suc n)) (numeral (suc n) (omega (arith, is.sfits))).1)

-- ---- the order of ints

module _ (y z : ℤ) (one : FitsSigned w32 y) (other : FitsSigned w32 z) where
  places : MatchOrdering (nat_cmp (place y) (place z)) (y <ℤ z) (y ≡ z) (z <ℤ y)
  places = by (nat_cmp (place y) (place z)) (ranks (place y) (place z))
    where
      less : (a b : ℤ) → FitsSigned w32 a → FitsSigned w32 b → place a < place b → a <ℤ b
      less (pos m) (pos n) f g h = lt_z_yes {a = pos m} {b = pos n} (yes_ltb (omega (arith, h)))
      less (pos m) (negsuc n) f g h = absurd (omega (arith, h))
      less (negsuc m) (pos n) f g h = lt_z_yes {a = negsuc m} {b = pos n} tt
      less (negsuc m) (negsuc n) f g h = lt_z_yes {a = negsuc m} {b = negsuc n} (yes_ltb (omega (arith, h, f.sfits, g.sfits)))

      same : (a b : ℤ) → FitsSigned w32 a → FitsSigned w32 b → place a ≡ place b → a ≡ b
      same (pos m) (pos n) f g h = ap pos (omega (arith, h))
      same (pos m) (negsuc n) f g h = absurd (omega (arith, h, g.sfits))
      same (negsuc m) (pos n) f g h = absurd (omega (arith, h, f.sfits))
      same (negsuc m) (negsuc n) f g h = ap negsuc (omega (arith, h, f.sfits, g.sfits))

      by : (o : Ordering) → MatchOrdering o (place y < place z) (place y ≡ place z) (place z < place y) → MatchOrdering o (y <ℤ z) (y ≡ z) (z <ℤ y)
      by Less h = less y z one other h
      by Equal h = same y z one other h
      by Greater h = less z y other one h

  places_ranked : nat_cmp (place y) (place z) ≡ int_cmp y z
  places_ranked = int_cmp_is y z (nat_cmp (place y) (place z)) places

line_ranked : (y z : ℤ) → FitsSigned w32 y → FitsSigned w32 z → line_cmp (signed_decimal y) (signed_decimal z) ≡ int_cmp y z
line_ranked y z one other =
    ap (λ (n : ℕ). ordering_then (nat_cmp n (ints_below (signed_decimal z))) (slice_cmp nat_cmp (signed_decimal y) (signed_decimal z))) (int_place y one)
    ∙ ap (λ (n : ℕ). ordering_then (nat_cmp (place y) n) (slice_cmp nat_cmp (signed_decimal y) (signed_decimal z))) (int_place z other)
    ∙ ap (λ (o : Ordering). ordering_then o (slice_cmp nat_cmp (signed_decimal y) (signed_decimal z))) (places_ranked y z one other)
    ∙ first_decides (int_cmp y z) (slice_cmp nat_cmp (signed_decimal y) (signed_decimal z))
    (λ e. let same : y ≡ z = int_ranked y z Equal (sym e) in
    ap (λ (x : ℤ). slice_cmp nat_cmp (signed_decimal x) (signed_decimal z)) same ∙ units_equal (signed_decimal z))

-- ---- texts of ints

int_lines : (ints : List ℤ) → All (FitsSigned w32) ints → lines_of (flat_map number_line ints) ≡ map signed_decimal ints
int_lines [] each = refl
int_lines (z ∷ ints) each =
    ap lines_of (append_assoc (signed_decimal z) (10 ∷ []) (flat_map number_line ints))
    ∙ line_first (signed_decimal z) (flat_map number_line ints) (int_no_ends z (All-head (FitsSigned w32) z ints each))
    ∙ ap (λ (ls : List Text). signed_decimal z ∷ ls) (int_lines ints (All-tail (FitsSigned w32) z ints each))

lines_ranked : (one other : List ℤ) → All (FitsSigned w32) one → All (FitsSigned w32) other
    → slice_cmp line_cmp (map signed_decimal one) (map signed_decimal other) ≡ slice_cmp int_cmp one other
lines_ranked [] [] f g = refl
lines_ranked [] (z ∷ other) f g = refl
lines_ranked (y ∷ one) [] f g = refl
lines_ranked (y ∷ one) (z ∷ other) f g =
    ap (λ (o : Ordering). ordering_then o (slice_cmp line_cmp (map signed_decimal one) (map signed_decimal other)))
    (line_ranked y z (All-head (FitsSigned w32) y one f) (All-head (FitsSigned w32) z other g))
    ∙ ap (ordering_then (int_cmp y z)) (lines_ranked one other (All-tail (FitsSigned w32) y one f) (All-tail (FitsSigned w32) z other g))

abbrev text : List ℤ → Text
text ints = flat_map number_line ints

pub in_order_of_ints : AreInOrderOfInts
in_order_of_ints one other f g =
    ap (λ ls. ordering_then (slice_cmp line_cmp ls (lines_of (text other))) (slice_cmp nat_cmp (text one) (text other))) (int_lines one f)
    ∙ ap (λ ls. ordering_then (slice_cmp line_cmp (map signed_decimal one) ls) (slice_cmp nat_cmp (text one) (text other))) (int_lines other g)
    ∙ ap (λ (o : Ordering). ordering_then o (slice_cmp nat_cmp (text one) (text other))) (lines_ranked one other f g)
    ∙ first_decides (slice_cmp int_cmp one other) (slice_cmp nat_cmp (text one) (text other))
    (λ e. ap (λ (l : List ℤ). slice_cmp nat_cmp (text l) (text other)) (same_lists int_cmp (λ y z tie. int_ranked y z Equal (sym tie)) one other e) ∙ units_equal (text other))
