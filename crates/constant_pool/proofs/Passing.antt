-- Elements of lists that pass a test, by their places, and by what a loop over them has seen.
use Rattle.std.proofs.Common.{◌≡◌, ℕ, zero, suc, ◌<◌, ◌≤◌, Bool, true, false, ◌||◌, List, [], ◌∷◌, length, map, take, get_or, refl, sym, ap, ◌∙◌, arith, Some}
use Rattle.std.specs.Prelude.{slice_get}
use Rattle.std.specs.Option.{option_map_or}
use Rattle.std.specs.List.{list_any}
use Rattle.std.proofs.lemmas.Bool.{or_left, or_right, or_parts}
use Rattle.std.proofs.lemmas.List.{take_all, take-map}
use Rattle.std.proofs.lemmas.Option.{slice_get-map, slice_get_read}

module _ {A : Type 0} (p : A → Bool) where
  -- what is so of the element at a place is so of one
  pub any_at : (xs : List A) (k : ℕ) → option_map_or p (slice_get xs k) false ≡ true → list_any p xs ≡ true
  any_at [] k h = absurd cc
  any_at (x ∷ xs) zero h = or_left (p x) _ h
  any_at (x ∷ xs) (suc k) h = or_right (p x) _ (any_at xs k h)

  -- what is so of none is not so of the element at a place
  pub none_at : (xs : List A) (k : ℕ) → list_any p xs ≡ false → option_map_or p (slice_get xs k) false ≡ false
  none_at [] k h = refl
  none_at (x ∷ xs) zero h = (or_parts (p x) _ h).0
  none_at (x ∷ xs) (suc k) h = none_at xs k (or_parts (p x) _ h).1

  -- nor, of the first ones, of one of them
  pub none_before : (xs : List A) (n k : ℕ) → k < n → list_any p (take n xs) ≡ false → option_map_or p (slice_get xs k) false ≡ false
  none_before [] n k lt h = refl
  none_before (x ∷ xs) zero k lt h = absurd (omega arith)
  none_before (x ∷ xs) (suc n) zero lt h = (or_parts (p x) _ h).0
  none_before (x ∷ xs) (suc n) (suc k) lt h = none_before xs n k (omega arith) (or_parts (p x) _ h).1

-- ---- seen as other values

module _ {V A : Type 0} (p : A → Bool) (f : V → A) where
  pub any_map : (vs : List V) → list_any p (map f vs) ≡ list_any (λ v. p (f v)) vs
  any_map [] = refl
  any_map (v ∷ vs) = ap (λ b. p (f v) || b) (any_map vs)

  pub none_of_first : (vs : List V) (i : ℕ) → list_any (λ w. p (f w)) (take i vs) ≡ false → list_any p (take i (map f vs)) ≡ false
  none_of_first vs i h = ap (list_any p) (take-map f i vs) ∙ any_map (take i vs) ∙ h

  -- all of them were looked at
  pub none_left : (vs : List V) (i : ℕ) → length vs ≤ i → list_any (λ w. p (f w)) (take i vs) ≡ false → list_any p (map f vs) ≡ false
  none_left vs i all h = any_map vs ∙ ap (list_any (λ w. p (f w))) (sym (take_all i vs all)) ∙ h

-- an element that is read, seen as another value
pub read_at : {V A : Type 0} (f : V → A) (vs : List V) (k : ℕ) (v : V) → k < length vs → v ≡ get_or vs k v
    → slice_get (map f vs) k ≡ Some (f v)
read_at f vs k v below is = rw (slice_get-map f vs k, slice_get_read vs (length vs) k v refl below is) refl
