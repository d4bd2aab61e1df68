-- One run more.
use Rattle.std.proofs.Common.{◌≡◌, ◌⊎◌, inl, inr, ℕ, suc, ◌+◌, Bool, true, false, List, [], ◌∷◌, ◌++◌, length, ◌||◌, cond, refl, sym, ap, subst, ◌∙◌, append_assoc, arith, add-zero}
use Rattle.std.specs.Prelude.{count_by}
use Rattle.std.specs.List.{list_any, sum_by}
use Rattle.std.proofs.lemmas.List.{append-nil}
use Rattle.std.proofs.lemmas.List.Folds.{list_any-append}
use Rattle.std.proofs.lemmas.List.Sums.{sum_by_push, sum_by-cons}
use Rattle.std.specs.Cmp.{IsEquivalence}
use Rattle.sweeps.specs.Firsts.{First, firsts_of, firsts}

either : (b : Bool) → (b ≡ true) ⊎ (b ≡ false)
either true = inl refl
either false = inr refl

-- a test of which the answer is known
taken : {A : Type 0} (b : Bool) (x y : A) → b ≡ true → cond b x y ≡ x
taken b x y e = ap (λ t. cond t x y) e

left_out : {A : Type 0} (b : Bool) (x y : A) → b ≡ false → cond b x y ≡ y
left_out b x y e = ap (λ t. cond t x y) e

-- how often a test is counted
abbrev one_if : Bool → ℕ
one_if b = cond b 1 0

module _ {R : Type 0} (same : R → R → Bool) (laws : IsEquivalence same) where
  -- one more of a list
  abbrev pub added : (r : R) (seed : ℕ) → List (First R) → List (First R)
  added r seed [] = record { run = r; count = 1; seed = seed } ∷ []
  added r seed (e ∷ es) = cond (same r e.run) (record e { count = e.count + 1 } ∷ es) (e ∷ added r seed es)

  -- any that shows the same as another one does too
  shown_with : (x y : R) (before : List R) → same x y ≡ true → list_any (same x) before ≡ list_any (same y) before
  shown_with x y [] e = refl
  shown_with x y (z ∷ zs) e = ap (λ b. b || list_any (same x) zs) (laws.congr x y z e) ∙ ap (λ b. same y z || b) (shown_with x y zs e)

  more : (before : List R) (x y : R) → list_any (same x) (before ++ y ∷ []) ≡ (list_any (same x) before || (same x y || false))
  more before x y = list_any-append (same x) before (y ∷ [])

  none : (x : R) (runs : List R) → list_any (same x) runs ≡ false → count_by (same x) runs ≡ 0
  none x [] e = refl
  none x (y ∷ runs) e = by (same x y) (list_any (same x) runs) refl refl e (none x runs)
    where
      by : (b c : Bool) → same x y ≡ b → list_any (same x) runs ≡ c → (b || c) ≡ false
          → (list_any (same x) runs ≡ false → count_by (same x) runs ≡ 0) → count_by (same x) (y ∷ runs) ≡ 0
      by true c p q h others = absurd cc
      by false true p q h others = absurd cc
      by false false p q h others =
          sum_by-cons (λ z. one_if (same x z)) y runs ∙ (ap (λ b. one_if b + count_by (same x) runs) p ∙ ap (λ n. 0 + n) (others q))

  module _ (all : List R) (r : R) where
    counted : (x : R) → count_by (same x) (all ++ r ∷ []) ≡ count_by (same x) all + one_if (same x r)
    counted x = sum_by_push (λ y. one_if (same x y)) all r

    not_counted : (x : R) → same x r ≡ false → count_by (same x) (all ++ r ∷ []) ≡ count_by (same x) all
    not_counted x e = counted x ∙ (ap (λ b. count_by (same x) all + one_if b) e ∙ add-zero (count_by (same x) all))

    counted_one : (x : R) → same x r ≡ true → count_by (same x) (all ++ r ∷ []) ≡ count_by (same x) all + 1
    counted_one x e = counted x ∙ ap (λ b. count_by (same x) all + one_if b) e

    abbrev entry : R → (count seed : ℕ) → First R
    entry x count seed = record { run = x; count = count; seed = seed }

    -- where one before shows the same, no count changes, and the run is none of the first ones
    stays : (before : List R) (seed : ℕ) (runs : List R) → list_any (same r) before ≡ true
        → firsts_of same (all ++ r ∷ []) before seed (runs ++ r ∷ []) ≡ firsts_of same all before seed runs
    stays before seed [] e = taken (list_any (same r) before) _ _ e
    stays before seed (x ∷ runs) e =
        by (list_any (same x) before) refl (stays (before ++ x ∷ []) (suc seed) runs (more before r x ∙ ap (λ b. b || (same r x || false)) e))
      where
        differs : list_any (same x) before ≡ false → same x r ≡ false
        differs p = elim (either (same x r)) [ inl q ↦ let is : list_any (same x) before ≡ true = shown_with x r before q ∙ e in absurd cc | inr q ↦ q ]

        by : (b : Bool) → list_any (same x) before ≡ b
            → firsts_of same (all ++ r ∷ []) (before ++ x ∷ []) (suc seed) (runs ++ r ∷ []) ≡ firsts_of same all (before ++ x ∷ []) (suc seed) runs
            → firsts_of same (all ++ r ∷ []) before seed ((x ∷ runs) ++ r ∷ []) ≡ firsts_of same all before seed (x ∷ runs)
        by true p others = taken (list_any (same x) before) _ _ p ∙ (others ∙ sym (taken (list_any (same x) before) _ _ p))
        by false p others =
            left_out (list_any (same x) before) _ _ p
            ∙ (ap (λ n. entry x n seed ∷ firsts_of same (all ++ r ∷ []) (before ++ x ∷ []) (suc seed) (runs ++ r ∷ [])) (not_counted x (differs p))
            ∙ (ap (λ l. entry x (count_by (same x) all) seed ∷ l) others ∙ sym (left_out (list_any (same x) before) _ _ p)))

    module _ (before : List R) (seed : ℕ) (x : R) (runs : List R) (e : list_any (same r) before ≡ false) where
      abbrev next : List (First R)
      next = firsts_of same all (before ++ x ∷ []) (suc seed) runs

      abbrev after : List (First R)
      after = firsts_of same (all ++ r ∷ []) (before ++ x ∷ []) (suc seed) (runs ++ r ∷ [])

      seen : same r x ≡ true → next ≡ after
      seen p = sym (stays (before ++ x ∷ []) (suc seed) runs (more before r x ∙ (ap (λ b. b || (same r x || false)) e ∙ ap (λ b. b || false) p)))

      unseen : same r x ≡ false → list_any (same r) (before ++ x ∷ []) ≡ false
      unseen p = more before r x ∙ (ap (λ b. b || (same r x || false)) e ∙ ap (λ b. b || false) p)

      -- none shows what that one does, which shows the same
      is_the_first : same r x ≡ true → list_any (same x) before ≡ false
      is_the_first p = sym (shown_with r x before p) ∙ e

      one_more : (same r x ≡ false → added r (seed + suc (length runs)) next ≡ after) → (b : Bool) → list_any (same x) before ≡ b → (c : Bool) → same r x ≡ c
          → added r (seed + length (x ∷ runs)) (firsts_of same all before seed (x ∷ runs))
          ≡ firsts_of same (all ++ r ∷ []) before seed ((x ∷ runs) ++ r ∷ [])
      one_more behind true p true q = let isnt : list_any (same x) before ≡ false = is_the_first q in absurd cc
      one_more behind true p false q =
          ap (added r (seed + suc (length runs))) (taken (list_any (same x) before) _ _ p)
          ∙ (behind q ∙ sym (taken (list_any (same x) before) _ _ p))
      one_more behind false p true q =
          ap (added r (seed + suc (length runs))) (left_out (list_any (same x) before) _ _ p)
          ∙ (taken (same r x) _ _ q
          ∙ (ap (λ n. entry x n seed ∷ next) (sym (counted_one x (laws.symm x r ∙ q)))
          ∙ (ap (λ l. entry x (count_by (same x) (all ++ r ∷ [])) seed ∷ l) (seen q) ∙ sym (left_out (list_any (same x) before) _ _ p))))
      one_more behind false p false q =
          ap (added r (seed + suc (length runs))) (left_out (list_any (same x) before) _ _ p)
          ∙ (left_out (same r x) _ _ q
          ∙ (ap (λ n. entry x n seed ∷ added r (seed + suc (length runs)) next) (sym (not_counted x (laws.symm x r ∙ q)))
          ∙ (ap (λ l. entry x (count_by (same x) (all ++ r ∷ [])) seed ∷ l) (behind q) ∙ sym (left_out (list_any (same x) before) _ _ p))))

    -- where none before shows the same, it is added to those behind
    adds : (before : List R) (seed : ℕ) (runs : List R) → all ≡ before ++ runs → list_any (same r) before ≡ false
        → added r (seed + length runs) (firsts_of same all before seed runs) ≡ firsts_of same (all ++ r ∷ []) before seed (runs ++ r ∷ [])
    adds before seed [] are e =
        let count : count_by (same r) (all ++ r ∷ []) ≡ 1 = counted_one r (laws.refl r) ∙ ap (λ n. n + 1) (none r all (ap (list_any (same r)) (are ∙ append-nil before) ∙ e)) in
        ap (λ n. entry r 1 n ∷ []) (add-zero seed)
        ∙ (ap (λ n. entry r n seed ∷ []) (sym count) ∙ sym (left_out (list_any (same r) before) _ _ e))
    adds before seed (x ∷ runs) are e =
        let number : seed + suc (length runs) ≡ suc seed + length runs = omega arith in
        let whole : all ≡ (before ++ x ∷ []) ++ runs = are ∙ sym (append_assoc before (x ∷ []) runs) in
        one_more before seed x runs e
        (λ p. ap (λ n. added r n (next before seed x runs e)) number ∙ adds (before ++ x ∷ []) (suc seed) runs whole (unseen before seed x runs e p))
        (list_any (same x) before) refl (same r x) refl

  pub one_run_more : (seed : ℕ) (runs : List R) (r : R) → added r (seed + length runs) (firsts same seed runs) ≡ firsts same seed (runs ++ r ∷ [])
  one_run_more seed runs r = adds runs r [] seed runs refl refl
