-- The objects whose monitors a thread owns, before an event and after it, where it may change of one alone.
use Rattle.std.proofs.Common.{◌≡◌, refl, sym, ◌∙◌, ap, subst, ℕ, zero, suc, ◌+◌, ◌<◌, inl, inr, List, [], ◌∷◌, ◌++◌, map, arith}
use Rattle.std.specs.Prelude.{Option, Some, None, Bool, true, false, not, ◌||◌, ◌==◌}
use Rattle.std.specs.List.{filter, list_any}
use Rattle.std.proofs.lemmas.Bool.{eq-eqb, ne_eqb}
use Rattle.std.proofs.lemmas.Bool.Decides.{eqb_tells}
use Rattle.std.proofs.lemmas.List.Folds.{list_any-append}
use Rattle.model.specs.State.{Monitor}
use Rattle.model.specs.Monitors.{owns}
use Rattle.race_places.specs.declared.run_actions.Action.{Action}
use Rattle.race_places.specs.named_actions.Names.{Names, named_action}
use Rattle.data_races.specs.Actions.{Action as NamedAction}
use Rattle.data_races.specs.EventActions.{only_if, owned_from, besides}
use Rattle.table_actions.specs.tables.Told.{listed}
use Rattle.table_actions.specs.tables.Owners.{change_by, is_meant, is_owned, WasOwner}

-- ---- whether an object is among those that are owned

or_false : (a b : Bool) → a ≡ false → (a || b) ≡ b
or_false true b e = absurd (cc)
or_false false b e = refl

only_any : (f : ℕ → Bool) (b : Bool) (k : ℕ) → f k ≡ false → list_any f (only_if b (k ∷ [])) ≡ false
only_any f true k e = or_false (f k) false e
only_any f false k e = refl

or_true : (a b : Bool) → a ≡ true → (a || b) ≡ true
or_true true b e = refl
or_true false b e = absurd (cc)

here : (f : ℕ → Bool) (b : Bool) (k : ℕ) (rest : Bool) → f k ≡ true → rest ≡ false → (list_any f (only_if b (k ∷ [])) || rest) ≡ b
here f true k rest y n = or_true (list_any f (k ∷ [])) rest (or_true (f k) false y)
here f false k rest y n = n

not_among : (t n k : ℕ) (ms : List Monitor) → n < k → list_any (λ other. other == n) (owned_from t k ms) ≡ false
not_among t n k [] h = refl
not_among t n k (m ∷ ms) h =
    let apart : k ≡ n → ⊥ = λ e. omega arith in
    let further : n < suc k = omega arith in
    list_any-append (λ other. other == n) (only_if (owns t m.owner) (k ∷ [])) (owned_from t (suc k) ms)
    ∙ or_false (list_any (λ other. other == n) (only_if (owns t m.owner) (k ∷ []))) (list_any (λ other. other == n) (owned_from t (suc k) ms))
    (only_any (λ other. other == n) (owns t m.owner) k (ne_eqb k n apart))
    ∙ not_among t n (suc k) ms further

among : (t k i n : ℕ) (ms : List Monitor) → n ≡ k + i → list_any (λ other. other == n) (owned_from t k ms) ≡ is_owned t ms i
among t k i n [] e = refl
among t k zero n (m ∷ ms) e =
    let same : k ≡ n = omega arith in
    let further : n < suc k = omega arith in
    list_any-append (λ other. other == n) (only_if (owns t m.owner) (k ∷ [])) (owned_from t (suc k) ms)
    ∙ here (λ other. other == n) (owns t m.owner) k (list_any (λ other. other == n) (owned_from t (suc k) ms)) (eq-eqb k n same) (not_among t n (suc k) ms further)
among t k (suc i) n (m ∷ ms) e =
    let apart : k ≡ n → ⊥ = λ g. omega arith in
    let next : n ≡ suc k + i = omega arith in
    list_any-append (λ other. other == n) (only_if (owns t m.owner) (k ∷ [])) (owned_from t (suc k) ms)
    ∙ or_false (list_any (λ other. other == n) (only_if (owns t m.owner) (k ∷ []))) (list_any (λ other. other == n) (owned_from t (suc k) ms))
    (only_any (λ other. other == n) (owns t m.owner) k (ne_eqb k n apart))
    ∙ among t (suc k) i n ms next

-- ---- what a filter leaves of them

pass_first : (test : ℕ → Bool) (b : Bool) (k : ℕ) (rest : List ℕ) → (b ≡ true → test k ≡ false) → filter test (only_if b (k ∷ []) ++ rest) ≡ filter test rest
pass_first test true k rest h = let e : test k ≡ false = h refl in rw e
pass_first test false k rest h = refl

keep_first : (test : ℕ → Bool) (b : Bool) (k : ℕ) (rest : List ℕ) → b ≡ true → test k ≡ true → filter test (only_if b (k ∷ []) ++ rest) ≡ k ∷ filter test rest
keep_first test true k rest y e = rw e
keep_first test false k rest y e = absurd (cc)

none_left : (test : ℕ → Bool) (t k : ℕ) (ms : List Monitor) → ((i n : ℕ) → n ≡ k + i → is_owned t ms i ≡ true → test n ≡ false)
    → filter test (owned_from t k ms) ≡ []
none_left test t k [] h = refl
none_left test t k (m ∷ ms) h =
    let now : k ≡ k + 0 = omega arith in
    pass_first test (owns t m.owner) k (owned_from t (suc k) ms) (λ y. h 0 k now y)
    ∙ none_left test t (suc k) ms (λ i n e y. let next : n ≡ k + suc i = omega arith in h (suc i) n next y)

one_left : (test : ℕ → Bool) (t k : ℕ) (ms : List Monitor) (x n : ℕ) → n ≡ k + x → is_owned t ms x ≡ true → test n ≡ true
    → ((i o : ℕ) → o ≡ k + i → (o ≡ n → ⊥) → is_owned t ms i ≡ true → test o ≡ false) → filter test (owned_from t k ms) ≡ n ∷ []
one_left test t k [] x n e y z h = absurd (cc)
one_left test t k (m ∷ ms) zero n e y z h =
    let same : k ≡ n = omega arith in
    keep_first test (owns t m.owner) k (owned_from t (suc k) ms) y (subst (λ j. test j ≡ true) (sym same) z)
    ∙ ap (λ (r : List ℕ). k ∷ r)
    (none_left test t (suc k) ms (λ i o g w. let next : o ≡ k + suc i = omega arith in let apart : o ≡ n → ⊥ = λ q. omega arith in h (suc i) o next apart w))
    ∙ ap (λ (j : ℕ). j ∷ []) same
one_left test t k (m ∷ ms) (suc x) n e y z h =
    let now : k ≡ k + 0 = omega arith in
    let apart : k ≡ n → ⊥ = λ q. omega arith in
    let next : n ≡ suc k + x = omega arith in
    pass_first test (owns t m.owner) k (owned_from t (suc k) ms) (λ w. h 0 k now apart w)
    ∙ one_left test t (suc k) ms x n next y z (λ i o g ne w. let further : o ≡ k + suc i = omega arith in h (suc i) o further ne w)

-- ---- those that are owned by one list of monitors and not by another

module _ (t : ℕ) (these others : List Monitor) where
  abbrev is_besides : ℕ → Bool
  is_besides n = not (list_any (λ other. other == n) (owned_from t 0 others))

  owned_at : (n : ℕ) → list_any (λ other. other == n) (owned_from t 0 others) ≡ is_owned t others n
  owned_at n = let e : n ≡ 0 + n = omega arith in among t 0 n n others e

  gone : (n : ℕ) → is_owned t others n ≡ true → is_besides n ≡ false
  gone n y = ap not (owned_at n ∙ y)

  left : (n : ℕ) → is_owned t others n ≡ false → is_besides n ≡ true
  left n y = ap not (owned_at n ∙ y)

  moved : (i n : ℕ) → n ≡ 0 + i → is_owned t these i ≡ true → is_owned t these n ≡ true
  moved i n e y = let same : i ≡ n = omega arith in subst (λ j. is_owned t these j ≡ true) same y

  nothing : ((n : ℕ) → is_owned t these n ≡ is_owned t others n) → besides (owned_from t 0 these) (owned_from t 0 others) ≡ []
  nothing h = none_left is_besides t 0 these (λ i n e y. gone n (sym (h n) ∙ moved i n e y))

  module _ (x : ℕ) (rest : (n : ℕ) → (n == x) ≡ false → is_owned t these n ≡ is_owned t others n) where
    all_same : is_owned t these x ≡ is_owned t others x → (n : ℕ) → is_owned t these n ≡ is_owned t others n
    all_same e n = elim (eqb_tells n x) [ inl p ↦ subst (λ j. is_owned t these j ≡ is_owned t others j) (sym p.1) e | inr p ↦ rest n p.0 ]

    one : is_owned t these x ≡ true → is_owned t others x ≡ false → besides (owned_from t 0 these) (owned_from t 0 others) ≡ x ∷ []
    one y z =
        let e : x ≡ 0 + x = omega arith in
        one_left is_besides t 0 these x x e y (left x z) (λ i o g ne w. gone o (sym (rest o (ne_eqb o x ne)) ∙ moved i o g w))

    none : is_owned t these x ≡ false → besides (owned_from t 0 these) (owned_from t 0 others) ≡ []
    none y = none_left is_besides t 0 these (λ i n e w. passed n (moved i n e w))
      where
        passed : (n : ℕ) → is_owned t these n ≡ true → is_besides n ≡ false
        passed n w =
            elim (eqb_tells n x) [
              | inl p ↦ let bad : is_owned t these n ≡ false = subst (λ j. is_owned t these j ≡ false) (sym p.1) y in absurd (cc)
              | inr p ↦ gone n (sym (rest n p.0) ∙ w)
            ]

  -- ---- as it is told

  module _ (C : ℕ → Action) (N : ℕ → NamedAction) (names : Names) (named : (n : ℕ) → named_action names (C n) ≡ N n) where
    empty : besides (owned_from t 0 these) (owned_from t 0 others) ≡ [] → [] ≡ map N (besides (owned_from t 0 these) (owned_from t 0 others))
    empty e = rw e

    single : (x : ℕ) → besides (owned_from t 0 these) (owned_from t 0 others) ≡ x ∷ []
        → named_action names (C x) ∷ [] ≡ map N (besides (owned_from t 0 these) (owned_from t 0 others))
    single x e = rw (e, named x)

    pub change_told : (object : Option ℕ) (before after : Bool) → ((n : ℕ) → is_meant n object ≡ false → is_owned t these n ≡ is_owned t others n)
        → WasOwner t object others before → WasOwner t object these after
        → map (named_action names) (listed (change_by C object before after)) ≡ map N (besides (owned_from t 0 these) (owned_from t 0 others))
    change_told None before after rest p q = empty (nothing (λ n. rest n refl))
    change_told (Some x) true true rest p q = empty (nothing (all_same x rest (sym q ∙ p)))
    change_told (Some x) true false rest p q = empty (none x rest (sym q))
    change_told (Some x) false true rest p q = single x (one x rest (sym q) (sym p))
    change_told (Some x) false false rest p q = empty (none x rest (sym q))
