-- Numbers, each once, with a table of their places.
use Rattle.std.proofs.Common.{◌≡◌, ◌∙◌, ℕ, zero, suc, ◌+◌, ◌-◌, ◌<◌, ◌≤◌, Bool, true, false, List, [], ◌∷◌, ◌++◌, length, refl, sym, ap, subst, arith, Some, None, ⊎_elim}
use Rattle.std.specs.Prelude.{slice_get, nat_eq}
use Rattle.std.specs.List.{list_any}
use Rattle.std.proofs.lemmas.Bool.{or_cases, eqb-true, eq-eqb, cases_lt}
use Rattle.hierarchy.specs.Numbers.{ArePlaces, KeepsOthers}
use Rattle.hierarchy.proofs.Finding.{one_at}
use Rattle.hierarchy.proofs.Indices.{get_front, get_behind}

-- ---- numbers that are there

any_place : (k : ℕ) (numbers : List ℕ) → list_any (nat_eq k) numbers ≡ true → (i : ℕ) × (slice_get numbers i ≡ Some k)
any_place k [] h = absurd cc
any_place k (n ∷ numbers) h = ⊎_elim
    (λ here. (zero, ap Some (sym (eqb-true k n here))))
    (λ later. let found = any_place k numbers later in (suc found.0, found.1))
    (or_cases (nat_eq k n) (list_any (nat_eq k) numbers) h)

-- a number that stands nowhere isn't there
absent : (k : ℕ) (numbers : List ℕ) → ((i : ℕ) → slice_get numbers i ≡ Some k → ⊥) → list_any (nat_eq k) numbers ≡ false
absent k numbers none = by (list_any (nat_eq k) numbers) refl
  where
    by : (b : Bool) → list_any (nat_eq k) numbers ≡ b → list_any (nat_eq k) numbers ≡ false
    by false e = e
    by true e = let found = any_place k numbers e in absurd (none found.0 found.1)

there : (k : ℕ) (numbers : List ℕ) (i : ℕ) → slice_get numbers i ≡ Some k → list_any (nat_eq k) numbers ≡ true
there k numbers i at = one_at (nat_eq k) numbers i k at (eq-eqb k k refl)

pub no_place_of : (numbers places : List ℕ) (k : ℕ) → ArePlaces numbers places → slice_get places k ≡ None
    → list_any (nat_eq k) numbers ≡ false
no_place_of numbers places k are none = absent k numbers (λ i at. let at_k = are i k at in absurd cc)

pub none_at_place : (numbers places : List ℕ) (k p : ℕ) → ArePlaces numbers places → slice_get places k ≡ Some p
    → slice_get numbers p ≡ None → list_any (nat_eq k) numbers ≡ false
none_at_place numbers places k p are at none =
    absent k numbers (λ i here. let at_k = are i k here in let same : i ≡ p = cc in let found = subst (λ j. slice_get numbers j ≡ Some k) same here in absurd cc)

pub one_at_place : (numbers places : List ℕ) (k p n : ℕ) → ArePlaces numbers places → slice_get places k ≡ Some p
    → slice_get numbers p ≡ Some n → nat_eq k n ≡ list_any (nat_eq k) numbers
one_at_place numbers places k p n are at found = by (nat_eq k n) refl
  where
    by : (b : Bool) → nat_eq k n ≡ b → b ≡ list_any (nat_eq k) numbers
    by true e = sym (there k numbers p (found ∙ ap Some (sym (eqb-true k n e))))
    by false e =
        sym (absent k numbers (λ i here.
        let at_k = are i k here in
        let same : i ≡ p = cc in
        let both = subst (λ j. slice_get numbers j ≡ Some k) same here in
        let equal : k ≡ n = cc in
        let yes : nat_eq k n ≡ true = eq-eqb k n equal in
        absurd cc))

-- ---- one number more

pub none_placed : (numbers places : List ℕ) → numbers ≡ [] → ArePlaces numbers places
none_placed [] places e i k at = absurd cc
none_placed (n ∷ numbers) places e i k at = absurd cc

pub others_placed : (numbers places more : List ℕ) (k : ℕ) → ArePlaces numbers places → list_any (nat_eq k) numbers ≡ false
    → KeepsOthers k places more → ArePlaces numbers more
others_placed numbers places more k are new keeps i n at =
    keeps n i (λ same. let yes : list_any (nat_eq k) numbers ≡ true = there k numbers i (at ∙ ap Some same) in absurd cc) (are i n at)

pub one_placed : (numbers places more : List ℕ) (k : ℕ) → ArePlaces numbers places → list_any (nat_eq k) numbers ≡ false
    → KeepsOthers k places more → slice_get more k ≡ Some (length numbers) → ArePlaces (numbers ++ k ∷ []) more
one_placed numbers places more k are new keeps written i n at = ⊎_elim before behind (cases_lt i (length numbers))
  where
    before : i < length numbers → slice_get more n ≡ Some i
    before lt = others_placed numbers places more k are new keeps i n (sym (get_front numbers (k ∷ []) i lt) ∙ at)

    last : (j : ℕ) → slice_get (k ∷ []) j ≡ Some n → (j ≡ zero) × (k ≡ n)
    last zero e = (refl, cc)
    last (suc j) e = absurd cc

    behind : length numbers ≤ i → slice_get more n ≡ Some i
    behind le =
        let split : i ≡ length numbers + (i - length numbers) = omega arith in
        let end = last (i - length numbers) (sym (get_behind numbers (k ∷ []) (i - length numbers)) ∙ ap (slice_get (numbers ++ k ∷ [])) (sym split) ∙ at) in
        let place : length numbers ≡ i = omega (arith, end.0) in
        ap (slice_get more) (sym end.1) ∙ written ∙ ap Some place
