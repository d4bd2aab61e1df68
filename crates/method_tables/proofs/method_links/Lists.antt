-- Lists by their places.
use Rattle.std.proofs.Common.{◌≡◌, ℕ, zero, suc, ◌≤◌, List, [], ◌∷◌, ◌++◌, length, refl, arith, Bool, true, false, cond, Option, Some, None}
use Rattle.std.specs.Prelude.{slice_get, find}
use Rattle.std.specs.Option.{option_map}

module _ {A : Type 0} where
  pub get_last : (xs : List A) (x : A) (k : ℕ) → length xs ≡ k → slice_get (xs ++ x ∷ []) k ≡ Some x
  get_last [] x zero e = refl
  get_last [] x (suc k) e = absurd cc
  get_last (y ∷ xs) x zero e = absurd cc
  get_last (y ∷ xs) x (suc k) e = get_last xs x k (omega (arith, e))

  pub get_within : (xs : List A) (k : ℕ) → slice_get xs k ≡ None → length xs ≤ k
  get_within [] k e = omega arith
  get_within (x ∷ xs) zero e = absurd cc
  get_within (x ∷ xs) (suc k) e = let le = get_within xs k e in omega (arith, le)

  -- an answer that is itself one, or is none
  pub inner : (a : Option A) (o : Option A) → Some a ≡ option_map (λ x. Some x) o → a ≡ o
  inner a None e = absurd cc
  inner a (Some x) e = cc

  pub none_of : (o : Option A) → None ≡ option_map (λ (x : A). Some x) o → o ≡ None
  none_of None e = refl
  none_of (Some x) e = absurd cc

  pub find_place : (p : A → Bool) (xs : List A) (x : A) → find p xs ≡ Some x → (k : ℕ) × (slice_get xs k ≡ Some x)
  find_place p [] x e = absurd cc
  find_place p (y ∷ xs) x e = by (p y) (find_place p xs x) e
    where
      by : (b : Bool) → (find p xs ≡ Some x → (k : ℕ) × (slice_get xs k ≡ Some x)) → cond b (Some y) (find p xs) ≡ Some x
          → (k : ℕ) × (slice_get (y ∷ xs) k ≡ Some x)
      by true more e = (0, e)
      by false more e = let there = more e in (suc there.0, there.1)
