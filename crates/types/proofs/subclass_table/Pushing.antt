-- Items of a list to which one was added.
use Rattle.std.proofs.Common.{◌≡◌, ◌⊎◌, inl, inr, ℕ, zero, suc, ◌<◌, List, [], ◌∷◌, ◌++◌, length, refl, ap, arith, Some}
use Rattle.std.specs.Prelude.{slice_get}

pub get_before : {A : Type 0} (xs ys : List A) (k : ℕ) → k < length xs → slice_get (xs ++ ys) k ≡ slice_get xs k
get_before [] ys k h = absurd (omega arith)
get_before (x ∷ xs) ys zero h = refl
get_before (x ∷ xs) ys (suc k) h = get_before xs ys k (omega arith)

pub get_front : {A : Type 0} (xs ys : List A) (k : ℕ) (x : A) → slice_get xs k ≡ Some x → slice_get (xs ++ ys) k ≡ Some x
get_front [] ys k x e = absurd cc
get_front (z ∷ xs) ys zero x e = e
get_front (z ∷ xs) ys (suc k) x e = get_front xs ys k x e

pub get_last : {A : Type 0} (xs : List A) (x : A) → slice_get (xs ++ x ∷ []) (length xs) ≡ Some x
get_last [] x = refl
get_last (z ∷ xs) x = get_last xs x

-- it is one of the earlier ones, or the last
pub get_pushed : {A : Type 0} (xs : List A) (y : A) (k : ℕ) (x : A) → slice_get (xs ++ y ∷ []) k ≡ Some x
    → (slice_get xs k ≡ Some x) ⊎ ((k ≡ length xs) × (y ≡ x))
get_pushed [] y zero x e = let same : y ≡ x = cc in inr (refl, same)
get_pushed [] y (suc k) x e = absurd cc
get_pushed (z ∷ xs) y zero x e = inl e
get_pushed (z ∷ xs) y (suc k) x e = by (get_pushed xs y k x e)
  where
    by : (slice_get xs k ≡ Some x) ⊎ ((k ≡ length xs) × (y ≡ x)) → (slice_get xs k ≡ Some x) ⊎ ((suc k ≡ suc (length xs)) × (y ≡ x))
    by (inl h) = inl h
    by (inr h) = inr (ap (λ (n : ℕ). suc n) h.0, h.1)
