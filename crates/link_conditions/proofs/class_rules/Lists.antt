-- Elements of lists that pass a test.
use Rattle.std.proofs.Common.{◌≡◌, ℕ, ◌+◌, ◌<◌, Bool, true, false, List, length, take, get_or, refl, sym, ap, ◌∙◌, Option, Some, None}
use Rattle.std.specs.Prelude.{position, slice_get}
use Rattle.std.specs.Option.{option_map_or}
use Rattle.std.specs.List.{list_any}
use Rattle.std.proofs.lemmas.List.Folds.{list_any_more}
use Rattle.std.proofs.lemmas.List.Quantifiers.{position-Some}
use Rattle.std.proofs.lemmas.Option.{get_or_from_slice_get}
use Rattle.std.proofs.lemmas.Bool.{or_from}
use Rattle.hierarchy.proofs.Finding.{position_within}
use Rattle.hierarchy.proofs.SetLaws.{no_item}

module _ {A : Type 0} (p : A → Bool) where
  -- ---- positions

  pub passes : (xs : List A) (k : ℕ) → position p xs ≡ Some k → option_map_or p (slice_get xs k) false ≡ true
  passes xs k h = by (slice_get xs k) refl
    where
      by : (o : Option A) → slice_get xs k ≡ o → option_map_or p o false ≡ true
      by None e = absurd (no_item xs k (position_within p xs k h) e)
      by (Some x) e = ap p (sym (get_or_from_slice_get xs k x x e)) ∙ (position-Some p xs k x h).1

  pub fails_before : (xs : List A) (k j : ℕ) → position p xs ≡ Some k → j < k → option_map_or p (slice_get xs j) false ≡ false
  fails_before xs k j h lt = by (slice_get xs j) refl
    where
      by : (o : Option A) → slice_get xs j ≡ o → option_map_or p o false ≡ false
      by None e = refl
      by (Some x) e = ap p (sym (get_or_from_slice_get xs j x x e)) ∙ (position-Some p xs k x h).2 j lt

-- ---- seen as other values

module _ {V A : Type 0} (p : A → Bool) (f : V → A) where
  -- one more
  pub none_more : (vs : List V) (i : ℕ) (v : V) → i < length vs → v ≡ get_or vs i v → p (f v) ≡ false
      → list_any (λ w. p (f w)) (take i vs) ≡ false → list_any (λ w. p (f w)) (take (i + 1) vs) ≡ false
  none_more vs i v lt is here before = list_any_more (λ w. p (f w)) vs i v lt ∙ or_from _ _ before (ap (λ w. p (f w)) (sym is) ∙ here)
