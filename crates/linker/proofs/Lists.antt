-- Lists, and tests of what stands in them.
use Rattle.std.proofs.Common.{◌≡◌, ◌+◌, ℕ, Bool, true, suc, false, not, ltb, cond, ◌&&◌, List, [], ◌∷◌, length, map, take, get_or, refl, sym, ap, subst, ◌∙◌, arith, ⊎_elim, Option, Some, None}
use Rattle.std.specs.Prelude.{position, slice_get, slice_index_or}
use Rattle.std.specs.List.{position_or_len, list_any}
use Rattle.std.proofs.lemmas.List.{get_or-map, get_or_past, length-map}
use Rattle.std.proofs.lemmas.Bool.{cases_lt}
use Rattle.hierarchy.proofs.Finding.{position_within, find_passes, passes_at}
use Rattle.hierarchy.proofs.SetLaws.{no_item}

-- ---- Booleans

pub alone : (a b : Bool) → a ≡ true → b ≡ false → (a && not b) ≡ true
alone true false h k = refl
alone false b h k = absurd cc
alone true true h k = absurd cc

-- ---- rows by the index of an entry

pub row_is : {A : Type 0} (f : A → Bool) (d : A) (xs : List A) (index : ℕ) → f d ≡ false
    → slice_index_or (map f xs) index false ≡ f (get_or xs index d)
row_is f d xs index past =
    ⊎_elim (λ h. get_or-map f xs index d false h)
    (λ h. get_or_past (map f xs) index false (omega (arith, length-map xs f)) ∙ sym (ap f (get_or_past xs index d h) ∙ past))
    (cases_lt index (length xs))

-- ---- the first that passes a test

pub position_passes : {A : Type 0} (p : A → Bool) (xs : List A) (k : ℕ) → position p xs ≡ Some k
    → (x : A) × (slice_get xs k ≡ Some x) × (p x ≡ true)
position_passes p xs k e = by (slice_get xs k) refl
  where
    by : (o : Option _) → slice_get xs k ≡ o → (x : _) × (slice_get xs k ≡ Some x) × (p x ≡ true)
    by None at = absurd (no_item xs k (position_within p xs k e) at)
    by (Some x) at = (x, at, find_passes p xs x (passes_at p xs k x e at))

none_before_or_len : {A : Type 0} (p : A → Bool) (xs : List A) → list_any p (take (position_or_len p xs) xs) ≡ false
none_before_or_len p [] = refl
none_before_or_len p (y ∷ ys) = by (p y) refl (none_before_or_len p ys)
  where
    by : (b : Bool) → p y ≡ b → list_any p (take (position_or_len p ys) ys) ≡ false
        → list_any p (take (cond (not b) (1 + position_or_len p ys) 0) (y ∷ ys)) ≡ false
    by true h rest = refl
    by false h rest = let more : 1 + position_or_len p ys ≡ suc (position_or_len p ys) = omega arith in rw (more, h) rest

-- none before it does
pub none_before : {A : Type 0} (p : A → Bool) (xs : List A) (k : ℕ) → position p xs ≡ Some k → list_any p (take k xs) ≡ false
none_before p xs k = by (ltb (position_or_len p xs) (length xs))
  where
    by : (b : Bool) → cond b (Some (position_or_len p xs)) None ≡ Some k → list_any p (take k xs) ≡ false
    by true e = let same : position_or_len p xs ≡ k = cc in subst (λ n. list_any p (take n xs) ≡ false) same (none_before_or_len p xs)
    by false e = absurd cc
