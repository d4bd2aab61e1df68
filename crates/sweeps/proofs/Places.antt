-- The first element that passes a test, and the list with another one in its place.
use Rattle.std.proofs.Common.{◌≡◌, ◌<◌, ◌≤◌, ℕ, zero, suc, ◌+◌, Bool, true, false, List, [], ◌∷◌, ◌++◌, Option, Some, None, length, map, get_or, set, cond, not, refl, sym, ap, subst, ◌∙◌, arith, zero-add}
use Rattle.std.specs.List.{position, position_from}
use Rattle.std.proofs.lemmas.Iterator.Adapters.{position_from-zero}

module _ {A S : Type 0} (g : A → S) (t : S → Bool) (again : S → S) (new : S) where
  abbrev pub more : List S → List S
  more [] = new ∷ []
  more (s ∷ others) = cond (t s) (again s ∷ others) (s ∷ more others)

  abbrev test : A → Bool
  test a = t (g a)

  none_from : (xs : List A) (i : ℕ) → position_from test i xs ≡ None → more (map g xs) ≡ map g xs ++ new ∷ []
  none_from [] i e = refl
  none_from (x ∷ xs) i e = by (test x) refl (none_from xs (i + 1))
    where
      by : (b : Bool) → test x ≡ b → (position_from test (i + 1) xs ≡ None → more (map g xs) ≡ map g xs ++ new ∷ [])
          → more (map g (x ∷ xs)) ≡ map g (x ∷ xs) ++ new ∷ []
      by true p others = let some : position_from test i (x ∷ xs) ≡ Some i = ap (λ c. cond c (Some i) (position_from test (i + 1) xs)) p in absurd cc
      by false p others =
          let rest : position_from test (i + 1) xs ≡ None = sym (ap (λ c. cond c (Some i) (position_from test (i + 1) xs)) p) ∙ e in
          ap (λ c. cond c (again (g x) ∷ map g xs) (g x ∷ more (map g xs))) p ∙ ap (λ l. g x ∷ l) (others rest)

  -- no place is below the one from which places are counted
  from_up : (xs : List A) (i j : ℕ) → position_from test i xs ≡ Some j → i ≤ j
  from_up [] i j e = absurd cc
  from_up (x ∷ xs) i j e = by (test x) refl (from_up xs (i + 1) j)
    where
      by : (b : Bool) → test x ≡ b → (position_from test (i + 1) xs ≡ Some j → i + 1 ≤ j) → i ≤ j
      by true p others =
          let here : Some i ≡ Some j = sym (ap (λ c. cond c (Some i) (position_from test (i + 1) xs)) p) ∙ e in
          let same : i ≡ j = cc in omega (arith, same)
      by false p others =
          let rest : position_from test (i + 1) xs ≡ Some j = sym (ap (λ c. cond c (Some i) (position_from test (i + 1) xs)) p) ∙ e in
          omega (arith, others rest)

  module _ (x y : A) (made : g y ≡ again (g x)) where
    some_from : (xs : List A) (i at : ℕ) → position_from test i xs ≡ Some (i + at) → x ≡ get_or xs at x → more (map g xs) ≡ map g (set xs at y)
    some_from [] i at e is = absurd cc
    some_from (z ∷ xs) i zero e is = by (test z) refl
      where
        by : (b : Bool) → test z ≡ b → more (map g (z ∷ xs)) ≡ map g (set (z ∷ xs) zero y)
        by true p =
            let same : x ≡ z = is in
            ap (λ c. cond c (again (g z) ∷ map g xs) (g z ∷ more (map g xs))) p
            ∙ ap (λ w. w ∷ map g xs) (ap (λ w. again (g w)) (sym same) ∙ sym made)
        by false p =
            let rest : position_from test (i + 1) xs ≡ Some (i + zero) = sym (ap (λ c. cond c (Some i) (position_from test (i + 1) xs)) p) ∙ e in
            absurd (omega (arith, from_up xs (i + 1) (i + zero) rest))
    some_from (z ∷ xs) i (suc at) e is = by (test z) refl (some_from xs (i + 1) at)
      where
        by : (b : Bool) → test z ≡ b
            → (position_from test (i + 1) xs ≡ Some (i + 1 + at) → x ≡ get_or xs at x → more (map g xs) ≡ map g (set xs at y))
            → more (map g (z ∷ xs)) ≡ map g (set (z ∷ xs) (suc at) y)
        by true p others =
            let here : Some i ≡ Some (i + suc at) = sym (ap (λ c. cond c (Some i) (position_from test (i + 1) xs)) p) ∙ e in
            let same : i ≡ i + suc at = cc in absurd (omega (arith, same))
        by false p others =
            let number : i + suc at ≡ i + 1 + at = omega arith in
            let rest : position_from test (i + 1) xs ≡ Some (i + 1 + at) =
            sym (ap (λ c. cond c (Some i) (position_from test (i + 1) xs)) p) ∙ (e ∙ ap Some number)
            in
            ap (λ c. cond c (again (g z) ∷ map g xs) (g z ∷ more (map g xs))) p ∙ ap (λ l. g z ∷ l) (others rest is)

  pub placed_none : (xs : List A) → position test xs ≡ None → more (map g xs) ≡ map g xs ++ new ∷ []
  placed_none xs e = none_from xs 0 (sym (position_from-zero test xs) ∙ e)

  pub placed_some : (xs : List A) (at : ℕ) → position test xs ≡ Some at → (x y : A) → x ≡ get_or xs at x → g y ≡ again (g x)
      → more (map g xs) ≡ map g (set xs at y)
  placed_some xs at e x y is made = some_from x y made xs 0 at (sym (position_from-zero test xs) ∙ (e ∙ ap Some (sym (zero-add at)))) is

  -- there is one at the place
  found_from : (xs : List A) (i at : ℕ) → position_from test i xs ≡ Some (i + at) → (x : A) × (x ≡ get_or xs at x)
  found_from [] i at e = absurd cc
  found_from (z ∷ xs) i zero e = (z, refl)
  found_from (z ∷ xs) i (suc at) e = by (test z) refl (found_from xs (i + 1) at)
    where
      by : (b : Bool) → test z ≡ b → (position_from test (i + 1) xs ≡ Some (i + 1 + at) → (x : A) × (x ≡ get_or xs at x))
          → (x : A) × (x ≡ get_or (z ∷ xs) (suc at) x)
      by true p others =
          let here : Some i ≡ Some (i + suc at) = sym (ap (λ c. cond c (Some i) (position_from test (i + 1) xs)) p) ∙ e in
          let same : i ≡ i + suc at = cc in absurd (omega (arith, same))
      by false p others =
          let number : i + suc at ≡ i + 1 + at = omega arith in
          let rest : position_from test (i + 1) xs ≡ Some (i + 1 + at) =
          sym (ap (λ c. cond c (Some i) (position_from test (i + 1) xs)) p) ∙ (e ∙ ap Some number)
          in
          others rest

  pub found : (xs : List A) (at : ℕ) → position test xs ≡ Some at → (x : A) × (x ≡ get_or xs at x)
  found xs at e = found_from xs 0 at (sym (position_from-zero test xs) ∙ (e ∙ ap Some (sym (zero-add at))))
