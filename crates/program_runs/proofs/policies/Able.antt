-- The threads that have an event which is enabled, in their order.
use Rattle.std.proofs.Common.{◌≡◌, ◌<◌, ◌≤◌, ◌+◌, ℕ, zero, suc, List, [], ◌∷◌, Option, Some, None, Bool, true, false, cond, length, refl, sym, ap, subst, ◌∙◌, arith}
use Rattle.std.specs.Prelude.{slice_get}
use Rattle.std.specs.List.{filter}
use Rattle.std.proofs.lemmas.Option.{slice_get_within}
use Rattle.model.specs.Rows.{counting}

module _ (p : ℕ → Bool) where
  abbrev pub passing : (from n : ℕ) → List ℕ
  passing from n = filter p (counting from n)

  with_true : (b : Bool) (x : ℕ) (xs : List ℕ) → b ≡ true → cond b (x ∷ xs) xs ≡ x ∷ xs
  with_true true x xs e = refl
  with_true false x xs e = absurd cc

  longer : (b : Bool) (x m : ℕ) (xs ys : List ℕ) → length xs ≡ length ys + m → length (cond b (x ∷ xs) xs) ≡ length (cond b (x ∷ ys) ys) + m
  longer true x m xs ys e = omega (arith, e)
  longer false x m xs ys e = e

  more_from : (from i : ℕ) → length (passing from (suc i)) ≡ length (passing from i) + cond (p (from + i)) 1 0
  more_from from zero =
      let same : from + 0 ≡ from = omega arith in
      subst (λ k. length (passing from 1) ≡ length (passing from 0) + cond (p k) 1 0) (sym same) (by (p from))
    where
      by : (b : Bool) → length (cond b (from ∷ []) []) ≡ length (passing from 0) + cond b 1 0
      by true = omega arith
      by false = omega arith
  more_from from (suc i) =
      let same : suc from + i ≡ from + suc i = omega arith in
      longer (p from) from (cond (p (from + suc i)) 1 0) (passing (suc from) (suc i)) (passing (suc from) i)
      (more_from (suc from) i ∙ ap (λ k. length (passing (suc from) i) + cond (p k) 1 0) same)

  -- one more is asked
  pub more : (i : ℕ) → length (passing 0 (suc i)) ≡ length (passing 0 i) + cond (p i) 1 0
  more i = let same : 0 + i ≡ i = omega arith in more_from 0 i ∙ ap (λ k. length (passing 0 i) + cond (p k) 1 0) same

  get_on : (b : Bool) (x k : ℕ) (xs ys : List ℕ) (r : Option ℕ) → slice_get xs (length ys) ≡ r → slice_get (cond b (x ∷ xs) xs) (length (cond b (x ∷ ys) ys)) ≡ r
  get_on true x k xs ys r e = e
  get_on false x k xs ys r e = e

  at_from : (from n i : ℕ) → i < n → p (from + i) ≡ true → slice_get (passing from n) (length (passing from i)) ≡ Some (from + i)
  at_from from zero i lt is = absurd (omega (arith, lt))
  at_from from (suc n) zero lt is =
      let same : from + 0 ≡ from = omega arith in
      ap (λ xs. slice_get xs 0) (with_true (p from) from (passing (suc from) n) (subst (λ k. p k ≡ true) same is)) ∙ ap Some (sym same)
  at_from from (suc n) (suc i) lt is =
      let same : from + suc i ≡ suc from + i = omega arith in
      get_on (p from) from 0 (passing (suc from) n) (passing (suc from) i) (Some (from + suc i))
      (at_from (suc from) n i (omega (arith, lt)) (subst (λ k. p k ≡ true) same is) ∙ ap Some (sym same))

  -- one that passes stands behind those before it
  pub at : (n i : ℕ) → i < n → p i ≡ true → slice_get (passing 0 n) (length (passing 0 i)) ≡ Some i
  at n i lt is =
      let same : 0 + i ≡ i = omega arith in
      at_from 0 n i lt (subst (λ k. p k ≡ true) (sym same) is) ∙ ap Some same

  -- where none is there, none passes
  pub none_passes : (n : ℕ) → length (passing 0 n) ≡ 0 → (i : ℕ) → i < n → p i ≡ false
  none_passes n none i lt = by (p i) refl
    where
      by : (b : Bool) → p i ≡ b → b ≡ false
      by false e = refl
      by true e =
          let within = slice_get_within (passing 0 n) (length (passing 0 i)) i (at n i lt e) in
          absurd (omega (arith, within, none))

  none_from : (from n : ℕ) → ((i : ℕ) → from ≤ i → i < from + n → p i ≡ false) → passing from n ≡ []
  none_from from zero h = refl
  none_from from (suc n) h =
      ap (λ b. cond b (from ∷ passing (suc from) n) (passing (suc from) n)) (h from (omega arith) (omega arith))
      ∙ none_from (suc from) n (λ i low high. h i (omega (arith, low)) (omega (arith, high)))

  pub none_in : (n : ℕ) → ((i : ℕ) → i < n → p i ≡ false) → passing 0 n ≡ []
  none_in n h = none_from 0 n (λ i low high. h i (let within : 0 + n ≡ n = omega arith in omega (arith, high, within)))
