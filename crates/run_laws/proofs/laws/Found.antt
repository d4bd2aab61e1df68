-- The first element that passes a test, and conditions that stand at no element of a list.
use Rattle.std.proofs.Common.{◌≡◌, ◌⊎◌, inl, inr, List, [], ◌∷◌, find, cond, Bool, true, false, Option, Some, None, refl, sym, ap, subst}
use Rattle.std.specs.Option.{option_and_then, option_map_or}
use Rattle.std.specs.List.{AllByRecursion, list_any, list_all}
use Rattle.std.proofs.lemmas.Bool.{and_parts, or_parts, or_left, or_right}

module _ {A : Type 0} where
  first_step : (b : Bool) (y x : A) (o : Option A) (Q : Type 0) → cond b (Some y) o ≡ Some x → (b ≡ true → y ≡ x → Q)
      → (b ≡ false → o ≡ Some x → Q) → Q
  first_step true y x o Q e f g = let q : y ≡ x = cc in f refl q
  first_step false y x o Q e f g = g refl e

  -- what is found passes the test
  pub found_passes : (p : A → Bool) (xs : List A) (x : A) → find p xs ≡ Some x → p x ≡ true
  found_passes p [] x e = absurd cc
  found_passes p (y ∷ ys) x e =
      first_step (p y) y x (find p ys) (p x ≡ true) e (λ h q. subst (λ z. p z ≡ true) q h) (λ h q. found_passes p ys x q)

  -- what holds of each element holds of what is found
  pub found_has : (P : A → Type 0) (p : A → Bool) (xs : List A) (x : A) → AllByRecursion P xs → find p xs ≡ Some x → P x
  found_has P p [] x a e = absurd cc
  found_has P p (y ∷ ys) x a e =
      first_step (p y) y x (find p ys) (P x) e (λ h q. subst P q a.0) (λ h q. found_has P p ys x a.1 q)

  pub found_any : (p q : A → Bool) (xs : List A) (x : A) → find p xs ≡ Some x → q x ≡ true → list_any q xs ≡ true
  found_any p q [] x e h = absurd cc
  found_any p q (y ∷ ys) x e h =
      first_step (p y) y x (find p ys) (list_any q (y ∷ ys) ≡ true) e
      (λ b s. or_left (q y) _ (subst (λ z. q z ≡ true) (sym s) h))
      (λ b s. or_right (q y) _ (found_any p q ys x s h))

  -- a condition that stands at no element
  pub none_any : (q : A → Bool) (xs : List A) → list_any q xs ≡ false → AllByRecursion (λ x. q x ≡ false) xs
  none_any q [] h = tt
  none_any q (x ∷ xs) h = let p = or_parts (q x) _ h in (p.0, none_any q xs p.1)

  pub every_all : (q : A → Bool) (xs : List A) → list_all q xs ≡ true → AllByRecursion (λ x. q x ≡ true) xs
  every_all q [] h = tt
  every_all q (x ∷ xs) h = let p = and_parts (q x) _ h in (p.0, every_all q xs p.1)

pub every_both : {A : Type 0} (P Q : A → Type 0) (xs : List A) → AllByRecursion P xs → AllByRecursion Q xs
    → AllByRecursion (λ x. P x × Q x) xs
every_both P Q [] a b = tt
every_both P Q (x ∷ xs) a b = ((a.0, b.0), every_both P Q xs a.1 b.1)

-- a value that comes from an optional one
pub some_from : {A B : Type 0} (f : A → Option B) (o : Option A) (b : B) → option_and_then f o ≡ Some b
    → (a : A) × (o ≡ Some a) × (f a ≡ Some b)
some_from f None b e = absurd cc
some_from f (Some a) b e = (a, refl, e)

pub map_or_at : {A B : Type 0} (f : A → B) (o : Option A) (d : B) (a : A) → o ≡ Some a → option_map_or f o d ≡ f a
map_or_at f o d a e = ap (λ x. option_map_or f x d) e

-- an optional value with its equation
pub option_cases : {A : Type 0} (o : Option A) → (o ≡ None) ⊎ ((a : A) × (o ≡ Some a))
option_cases None = inl refl
option_cases (Some a) = inr (a, refl)
