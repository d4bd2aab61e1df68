-- What stands in lists: tests of lists, filters, and numbers from 0 on.
use Rattle.std.proofs.Common.{◌≡◌, ℕ, zero, suc, ◌+◌, ◌<◌, List, [], ◌∷◌, Bool, true, false, Option, Some, None, map, if◌then◌else◌, refl, sym, ap, subst, ◌∙◌, arith}
use Rattle.std.specs.Prelude.{◌||◌, slice_get}
use Rattle.std.specs.List.{filter, list_any}
use Rattle.std.proofs.lemmas.Bool.{or_left, or_right, false≢true}
use Rattle.std.proofs.lemmas.Option.{same_Some}
use Rattle.model.specs.Rows.{counting}

-- an item of a list, with its place
pub record IsIn {A : Type 0} (xs : List A) (x : A) : Type 0 where
  pub place : ℕ
  pub at : slice_get xs place ≡ Some x

behind : {A : Type 0} (y : A) (xs : List A) (x : A) → IsIn xs x → IsIn (y ∷ xs) x
behind y xs x h = record { place = suc h.place; at = h.at }

pub any_of : {A : Type 0} (p : A → Bool) (xs : List A) (x : A) (k : ℕ) → slice_get xs k ≡ Some x → p x ≡ true → list_any p xs ≡ true
any_of p [] x k e h = absurd cc
any_of p (y ∷ xs) x zero e h = or_left (p y) (list_any p xs) (subst (λ z. p z ≡ true) (sym (same_Some y x e)) h)
any_of p (y ∷ xs) x (suc k) e h = or_right (p y) (list_any p xs) (any_of p xs x k e h)

-- the item that passes
pub record Passing {A : Type 0} (p : A → Bool) (xs : List A) : Type 0 where
  pub item : A
  pub is_in : IsIn xs item
  pub passes : p item ≡ true

pub passing : {A : Type 0} (p : A → Bool) (xs : List A) → list_any p xs ≡ true → Passing p xs
passing p [] e = absurd (false≢true e)
passing p (x ∷ xs) e = by (passing p xs) (p x) refl e
  where
    by : (list_any p xs ≡ true → Passing p xs) → (b : Bool) → p x ≡ b → (b || list_any p xs) ≡ true → Passing p (x ∷ xs)
    by rest true h e = record { item = x; is_in = record { place = 0; at = refl }; passes = h }
    by rest false h e = let f = rest e in record { item = f.item; is_in = behind x xs f.item f.is_in; passes = f.passes }

-- ---- maps

pub mapped_at : {A B : Type 0} (f : A → B) (xs : List A) (x : A) (k : ℕ) → slice_get xs k ≡ Some x → slice_get (map f xs) k ≡ Some (f x)
mapped_at f [] x k e = absurd cc
mapped_at f (y ∷ ys) x zero e = ap (λ z. Some (f z)) (same_Some y x e)
mapped_at f (y ∷ ys) x (suc k) e = mapped_at f ys x k e

pub mapped : {A B : Type 0} (f : A → B) (xs : List A) (x : A) → IsIn xs x → IsIn (map f xs) (f x)
mapped f xs x h = record { place = h.place; at = mapped_at f xs x h.place h.at }

pub record MappedFrom {A B : Type 0} (f : A → B) (xs : List A) (y : B) : Type 0 where
  pub item : A
  pub is_in : IsIn xs item
  pub is : f item ≡ y

pub mapped_from : {A B : Type 0} (f : A → B) (xs : List A) (y : B) (k : ℕ) → slice_get (map f xs) k ≡ Some y → MappedFrom f xs y
mapped_from f [] y k e = absurd cc
mapped_from f (x ∷ xs) y zero e = record { item = x; is_in = record { place = 0; at = refl }; is = same_Some (f x) y e }
mapped_from f (x ∷ xs) y (suc k) e = let h = mapped_from f xs y k e in record { item = h.item; is_in = behind x xs h.item h.is_in; is = h.is }

-- ---- filters

pub kept : {A : Type 0} (p : A → Bool) (xs : List A) (x : A) (k : ℕ) → slice_get xs k ≡ Some x → p x ≡ true → IsIn (filter p xs) x
kept p [] x k e h = absurd cc
kept p (y ∷ xs) x zero e h =
    let there : p y ≡ true = subst (λ z. p z ≡ true) (sym (same_Some y x e)) h in
    subst (λ b. IsIn (if b then y ∷ filter p xs else filter p xs) x) (sym there) (record { place = 0; at = e })
kept p (y ∷ xs) x (suc k) e h = by (p y) (kept p xs x k e h)
  where
    by : (b : Bool) → IsIn (filter p xs) x → IsIn (if b then y ∷ filter p xs else filter p xs) x
    by true g = behind y (filter p xs) x g
    by false g = g

pub kept_from : {A : Type 0} (p : A → Bool) (xs : List A) (x : A) (k : ℕ) → slice_get (filter p xs) k ≡ Some x → IsIn xs x
kept_from p [] x k e = absurd cc
kept_from p (y ∷ xs) x k e = by (kept_from p xs x) (p y) k e
  where
    by : ((k : ℕ) → slice_get (filter p xs) k ≡ Some x → IsIn xs x) → (b : Bool) (k : ℕ)
        → slice_get (if b then y ∷ filter p xs else filter p xs) k ≡ Some x → IsIn (y ∷ xs) x
    by rest true zero e = record { place = 0; at = e }
    by rest true (suc k) e = behind y xs x (rest k e)
    by rest false k e = behind y xs x (rest k e)

-- ---- numbers from one on

counted : (from n k : ℕ) → k < n → slice_get (counting from n) k ≡ Some (from + k)
counted from zero k h = absurd (omega (arith, h))
counted from (suc n) zero h = ap (λ (x : ℕ). Some x) (omega arith)
counted from (suc n) (suc k) h = counted (suc from) n k (omega (arith, h)) ∙ ap (λ (x : ℕ). Some x) (omega arith)

counted_below : (from n k x : ℕ) → slice_get (counting from n) k ≡ Some x → x < from + n
counted_below from zero k x e = absurd cc
counted_below from (suc n) zero x e = let is : from ≡ x = same_Some from x e in omega (arith, is)
counted_below from (suc n) (suc k) x e = let h = counted_below (suc from) n k x e in omega (arith, h)

pub counted_at : (n k : ℕ) → k < n → slice_get (counting 0 n) k ≡ Some k
counted_at n k h = counted 0 n k h ∙ ap (λ (x : ℕ). Some x) (omega arith)

pub counted_within : (n k x : ℕ) → slice_get (counting 0 n) k ≡ Some x → x < n
counted_within n k x e = let h = counted_below 0 n k x e in omega (arith, h)
