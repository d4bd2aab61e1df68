-- Finding in lists.
use Rattle.std.proofs.Common.{◌≡◌, ℕ, zero, suc, ◌<◌, Bool, true, false, ltb, cond, List, [], ◌∷◌, length, map, take, refl, ap, subst, ◌∙◌, Some, None, arith}
use Rattle.std.specs.Prelude.{find, position, slice_get}
use Rattle.std.specs.Option.{option_and_then}
use Rattle.std.specs.List.{position_or_len, list_any}
use Rattle.std.proofs.lemmas.List.{length-map}
use Rattle.std.proofs.lemmas.List.Folds.{find_at}
use Rattle.std.proofs.lemmas.Option.{slice_get_past, slice_get_within}
use Rattle.std.proofs.lemmas.Bool.{lt-ltb, le-ltb}
use borrow.Author.Tests.{ltb-true, ltb-false}
use Rattle.std.proofs.lemmas.Bool.{or_right, or_parts}

pub position_or_len-map : {A B : Type 0} (p : B → Bool) (f : A → B) (xs : List A)
    → position_or_len p (map f xs) ≡ position_or_len (λ x. p (f x)) xs
position_or_len-map p f [] = refl
position_or_len-map p f (x ∷ xs) = rw (position_or_len-map p f xs) refl

pub position-map : {A B : Type 0} (p : B → Bool) (f : A → B) (xs : List A) → position p (map f xs) ≡ position (λ x. p (f x)) xs
position-map p f xs = rw (position_or_len-map p f xs, length-map xs f) refl

pub position_or_len_same : {A : Type 0} (p q : A → Bool) → ((x : A) → p x ≡ q x) → (xs : List A)
    → position_or_len p xs ≡ position_or_len q xs
position_or_len_same p q same [] = refl
position_or_len_same p q same (x ∷ xs) = rw (same x, position_or_len_same p q same xs) refl

pub position_same : {A : Type 0} (p q : A → Bool) → ((x : A) → p x ≡ q x) → (xs : List A) → position p xs ≡ position q xs
position_same p q same xs = rw (position_or_len_same p q same xs) refl

-- what is found stands at the position
pub find_by_position : {A : Type 0} (p : A → Bool) (xs : List A) → find p xs ≡ option_and_then (slice_get xs) (position p xs)
find_by_position p xs = by (ltb (position_or_len p xs) (length xs)) refl
  where
    by : (b : Bool) → ltb (position_or_len p xs) (length xs) ≡ b
        → find p xs ≡ option_and_then (slice_get xs) (cond b (Some (position_or_len p xs)) None)
    by true h = find_at p xs
    by false h = find_at p xs ∙ slice_get_past xs (position_or_len p xs) (ltb-false _ _ h)

-- a position is found within the list, where the test holds
pub position_within : {A : Type 0} (p : A → Bool) (xs : List A) (i : ℕ) → position p xs ≡ Some i → i < length xs
position_within p xs i = by (ltb (position_or_len p xs) (length xs)) refl
  where
    by : (b : Bool) → ltb (position_or_len p xs) (length xs) ≡ b → cond b (Some (position_or_len p xs)) None ≡ Some i → i < length xs
    by true h e = let same : position_or_len p xs ≡ i = cc in subst (λ k. k < length xs) same (ltb-true _ _ h)
    by false h e = absurd cc

pub find_passes : {A : Type 0} (p : A → Bool) (xs : List A) (x : A) → find p xs ≡ Some x → p x ≡ true
find_passes p [] x e = absurd cc
find_passes p (y ∷ ys) x e = by (p y) refl (find_passes p ys x) e
  where
    by : (b : Bool) → p y ≡ b → (find p ys ≡ Some x → p x ≡ true) → cond b (Some y) (find p ys) ≡ Some x → p x ≡ true
    by true h more e = let same : y ≡ x = cc in subst (λ z. p z ≡ true) same h
    by false h more e = more e

pub passes_at : {A : Type 0} (p : A → Bool) (xs : List A) (i : ℕ) (x : A) → position p xs ≡ Some i → slice_get xs i ≡ Some x
    → find p xs ≡ Some x
passes_at p xs i x e at = find_by_position p xs ∙ ap (λ o. option_and_then (slice_get xs) o) e ∙ at

pub nowhere : {A : Type 0} (p : A → Bool) (xs : List A) → position p xs ≡ None → find p xs ≡ None
nowhere p xs e = find_by_position p xs ∙ ap (λ o. option_and_then (slice_get xs) o) e

-- the first that passes stands at the position
pub position_first : {A : Type 0} (p : A → Bool) (xs : List A) (k : ℕ) (x : A) → slice_get xs k ≡ Some x → p x ≡ true
    → list_any p (take k xs) ≡ false → position p xs ≡ Some k
position_first p xs k x at here before =
    let is = first_or_len p xs k x at here before in
    rw (is, lt-ltb _ _ (slice_get_within xs k x at)) refl
  where
    first_or_len : {A : Type 0} (p : A → Bool) (xs : List A) (k : ℕ) (x : A) → slice_get xs k ≡ Some x → p x ≡ true
        → list_any p (take k xs) ≡ false → position_or_len p xs ≡ k
    first_or_len p [] k x at here before = absurd cc
    first_or_len p (y ∷ ys) zero x at here before = let same : y ≡ x = cc in rw (same, here) refl
    first_or_len p (y ∷ ys) (suc k) x at here before =
        let both = or_parts (p y) (list_any p (take k ys)) before in
        rw both.0 (omega (arith, first_or_len p ys k x at here both.1))

pub position_absent : {A : Type 0} (p : A → Bool) (xs : List A) → list_any p xs ≡ false → position p xs ≡ None
position_absent p xs h = let past : ltb (length xs) (length xs) ≡ false = le-ltb _ _ (omega arith) in rw (all_fail p xs h, past) refl
  where
    all_fail : {A : Type 0} (p : A → Bool) (xs : List A) → list_any p xs ≡ false → position_or_len p xs ≡ length xs
    all_fail p [] h = refl
    all_fail p (y ∷ ys) h =
        let both = or_parts (p y) (list_any p ys) h in
        rw both.0 (omega (arith, all_fail p ys both.1))

-- ---- tests of items

pub one_at : {A : Type 0} (p : A → Bool) (xs : List A) (k : ℕ) (x : A) → slice_get xs k ≡ Some x → p x ≡ true → list_any p xs ≡ true
one_at p [] k x e h = absurd cc
one_at p (y ∷ xs) zero x e h = let same : y ≡ x = cc in rw (same, h) refl
one_at p (y ∷ xs) (suc k) x e h = or_right (p y) (list_any p xs) (one_at p xs k x e h)

-- what is so of none isn't so of the one at a place
pub none_at : {A : Type 0} (q : A → Bool) (xs : List A) (k : ℕ) (x : A) → list_any q xs ≡ false → slice_get xs k ≡ Some x → q x ≡ false
none_at q [] k x h e = absurd cc
none_at q (y ∷ xs) zero x h e = let same : y ≡ x = cc in subst (λ z. q z ≡ false) same (or_parts (q y) _ h).0
none_at q (y ∷ xs) (suc k) x h e = none_at q xs k x (or_parts (q y) _ h).1 e
