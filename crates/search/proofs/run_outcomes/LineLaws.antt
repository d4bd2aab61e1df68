-- Lines of texts, and the numbers of which they are the decimal.
use Rattle.std.proofs.Common.{◌≡◌, ◌⊎◌, ⊎_elim, ℕ, suc, ◌+◌, ◌-◌, ◌*◌, ◌^◌, ◌<◌, ◌≤◌, List, [], ◌∷◌, ◌++◌, Bool, true, false, ◌&&◌, length, take, drop, get_or, refl, sym, ap, ◌∙◌, arith}
use Rattle.std.specs.Prelude.{◌==◌, if◌then◌else◌, nat_le}
use Rattle.std.specs.List.{All, list_all}
use Rattle.std.specs.Cmp.Lexicographic.{slice_cmp}
use Rattle.std.specs.declared.cmp.Ordering.TheVariants.{Less, Greater}
use Rattle.std.proofs.Math.Seq.{drop-cons}
use Rattle.std.proofs.lemmas.Bool.{le-leb}
use Rattle.std.proofs.lemmas.Nat.{pow-add}
use Rattle.std.proofs.lemmas.List.Folds.{list_all_more}
use Rattle.std.proofs.lemmas.List.{take-append-drop, take_more, take_all, length-drop}
use Rattle.std.proofs.lemmas.Bool.Decides.{Decides-eqb, not_from_Decides}
use Rattle.std.proofs.lemmas.List.Elements.{All-head, All-tail}
use Rattle.model.specs.Texts.{Text}
use Rattle.search.specs.run_outcomes.Lines.{begun, is_digit, line_cmp, lines_of, number_behind}

-- ---- lines

abbrev pub EndsNoLine : ℕ → Type 0
EndsNoLine unit = (unit == 10) ≡ false

no_end : (unit : ℕ) (text : Text) → EndsNoLine unit → lines_of (unit ∷ text) ≡ begun unit (lines_of text)
no_end unit text e = ap (λ (b : Bool). if b then [] ∷ lines_of text else begun unit (lines_of text)) e

-- a line with its end, before others
pub line_first : (line rest : Text) → All EndsNoLine line → lines_of (line ++ 10 ∷ rest) ≡ line ∷ lines_of rest
line_first [] rest each = refl
line_first (unit ∷ line) rest each =
    no_end unit (line ++ 10 ∷ rest) (All-head EndsNoLine unit line each) ∙ ap (begun unit) (line_first line rest (All-tail EndsNoLine unit line each))

-- the only line, without its end
pub line_alone : (unit : ℕ) (line : Text) → All EndsNoLine (unit ∷ line) → lines_of (unit ∷ line) ≡ (unit ∷ line) ∷ []
line_alone unit [] each = no_end unit [] (All-head EndsNoLine unit [] each)
line_alone unit (other ∷ line) each =
    no_end unit (other ∷ line) (All-head EndsNoLine unit (other ∷ line) each) ∙ ap (begun unit) (line_alone other line (All-tail EndsNoLine unit (other ∷ line) each))

-- a text is split at a line feed
pub split_at : (text : Text) (at : ℕ) → at < length text → get_or text at 0 ≡ 10 → All EndsNoLine (take at text)
    → lines_of text ≡ take at text ∷ lines_of (drop (at + 1) text)
split_at text at here is each =
    let next : suc at ≡ at + 1 = omega arith in
    let rest : drop at text ≡ 10 ∷ drop (at + 1) text =
    drop-cons text at 0 here ∙ ap (λ (u : ℕ). u ∷ drop (suc at) text) is ∙ ap (λ (n : ℕ). 10 ∷ drop n text) next in
    ap lines_of (sym (take-append-drop at text) ∙ ap (λ (l : Text). take at text ++ l) rest) ∙ line_first (take at text) (drop (at + 1) text) each

pub rest_is : (text : Text) (at : ℕ) → take (length text - at) (drop at text) ≡ drop at text
rest_is text at = let e = length-drop at text in take_all (length text - at) (drop at text) (omega (arith, e))

pub is_no_end : (unit : ℕ) → (unit ≡ 10 → ⊥) → EndsNoLine unit
is_no_end unit other = by (unit == 10) refl
  where
    by : (b : Bool) → (unit == 10) ≡ b → (unit == 10) ≡ false
    by true e = absurd (other ((Decides-eqb unit 10).0 e))
    by false e = e

pub split_none : (text : Text) → 0 < length text → All EndsNoLine text → lines_of text ≡ text ∷ []
split_none [] some each = absurd (omega (arith, some))
split_none (unit ∷ line) some each = line_alone unit line each

-- a text with a unit has a line
pub has_line : (unit : ℕ) (text : Text) → (line : Text) × (lines : List Text) × (lines_of (unit ∷ text) ≡ line ∷ lines)
has_line unit text = by (unit == 10) refl (lines_of text) refl
  where
    by : (b : Bool) → (unit == 10) ≡ b → (lines : List Text) → lines_of text ≡ lines
        → (line : Text) × (others : List Text) × (lines_of (unit ∷ text) ≡ line ∷ others)
    by true e lines is = ([], lines_of text, ap (λ (b : Bool). if b then [] ∷ lines_of text else begun unit (lines_of text)) e)
    by false e [] is = (unit ∷ [], [], no_end unit text e ∙ ap (begun unit) is)
    by false e (line ∷ lines) is = (unit ∷ line, lines, no_end unit text e ∙ ap (begun unit) is)

-- ---- one of two texts has ended

module _ (text : Text) where
  none_is : true ≡ (length text == 0) → text ≡ []
  none_is e = of text ((Decides-eqb (length text) 0).0 (sym e))
    where
      of : (l : Text) → length l ≡ 0 → l ≡ []
      of [] _ = refl
      of (unit ∷ l) empty = absurd (omega (arith, empty))

  some_is : false ≡ (length text == 0) → 0 < length text
  some_is e = let some = not_from_Decides (length text == 0) (Decides-eqb (length text) 0) (sym e) in omega (arith, some)

first_ends : (other : Text) → 0 < length other → Less ≡ slice_cmp line_cmp (lines_of []) (lines_of other)
first_ends [] some = absurd (omega (arith, some))
first_ends (unit ∷ text) some = let h = has_line unit text in sym (ap (slice_cmp line_cmp []) h.2)

later_ends : (one : Text) → 0 < length one → Greater ≡ slice_cmp line_cmp (lines_of one) (lines_of [])
later_ends [] some = absurd (omega (arith, some))
later_ends (unit ∷ text) some = let h = has_line unit text in sym (ap (λ ls. slice_cmp line_cmp ls []) h.2)

module _ (one other : Text) where
  pub ended_first : true ≡ (length one == 0) → false ≡ (length other == 0) → Less ≡ slice_cmp line_cmp (lines_of one) (lines_of other)
  ended_first none some =
      first_ends other (some_is other some) ∙ ap (λ (t : Text). slice_cmp line_cmp (lines_of t) (lines_of other)) (sym (none_is one none))

  pub ended_later : (one ≡ []) ⊎ (other ≡ []) → false ≡ (length one == 0) → Greater ≡ slice_cmp line_cmp (lines_of one) (lines_of other)
  ended_later ended some =
      later_ends one (some_is one some) ∙ ap (λ (t : Text). slice_cmp line_cmp (lines_of one) (lines_of t)) (sym other_is)
    where
      other_is : other ≡ []
      other_is = ⊎_elim (λ e. let none = ap (λ (t : Text). length t) e in absurd (omega (arith, none, some_is one some))) (λ e. e) ended

-- ---- numbers

pub number_more : (n : ℕ) (digits : Text) (digit : ℕ) → number_behind n (digits ++ digit ∷ []) ≡ number_behind n digits * 10 + (digit - 48)
number_more n [] digit = refl
number_more n (first ∷ digits) digit = number_more (n * 10 + (first - 48)) digits digit

pub digit_is : (digit : ℕ) → 48 ≤ digit → digit ≤ 57 → is_digit digit ≡ true
digit_is digit low high = ap (λ (b : Bool). b && nat_le digit 57) (le-leb 48 digit low) ∙ le-leb digit 57 high

-- one digit more, of which the number is less than a power of ten
module _ (digits : Text) (k : ℕ) (here : k < length digits) (low : 48 ≤ get_or digits k 0) (high : get_or digits k 0 ≤ 57) where
  pub are_digits : list_all is_digit (take k digits) ≡ true → list_all is_digit (take (k + 1) digits) ≡ true
  are_digits before =
      list_all_more is_digit digits k 0 here ∙ ap (λ (b : Bool). b && is_digit (get_or digits k 0)) before ∙ digit_is (get_or digits k 0) low high

  module _ (number value : ℕ) (is : value ≡ get_or digits k 0 - 48) where
    pub number_is : number ≡ number_behind 0 (take k digits) → number * 10 + value ≡ number_behind 0 (take (k + 1) digits)
    number_is before =
        ap (λ (v : ℕ). number * 10 + v) is ∙ ap (λ (n : ℕ). n * 10 + (get_or digits k 0 - 48)) before
        ∙ sym (number_more 0 (take k digits) (get_or digits k 0)) ∙ ap (number_behind 0) (sym (take_more digits k 0 here))

    pub number_fits : number < 10 ^ k → number * 10 + value < 10 ^ (k + 1)
    number_fits before = let more : 10 ^ (k + 1) ≡ 10 ^ k * 10 = pow-add 10 k 1 in omega (arith, before, more, high, is)
