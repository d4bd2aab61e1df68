-- Whether a test holds of some element, in whichever order they stand, and what holds of each.
use Rattle.std.proofs.Common.{◌≡◌, ℕ, zero, suc, ◌+◌, ◌<◌, length, get_or, take, arith, List, [], ◌∷◌, ◌++◌, map, reverse, Bool, true, false, ◌||◌, refl, sym, ap, ◌∙◌}
use Rattle.std.specs.List.{list_any, AllByRecursion}
use Rattle.std.proofs.lemmas.List.{take_more}
use Rattle.std.proofs.lemmas.Grind.{reverse_onto}
use Rattle.std.proofs.lemmas.List.Folds.{list_any-append}

or_swapped : (a b : Bool) → (a || (b || false)) ≡ (b || a)
or_swapped true true = refl
or_swapped true false = refl
or_swapped false true = refl
or_swapped false false = refl

pub any_map : {A B : Type 0} (p : B → Bool) (f : A → B) (xs : List A) → list_any p (map f xs) ≡ list_any (λ x. p (f x)) xs
any_map p f [] = refl
any_map p f (x ∷ xs) = ap (λ b. p (f x) || b) (any_map p f xs)

pub any_reverse : {A : Type 0} (p : A → Bool) (xs : List A) → list_any p (reverse xs) ≡ list_any p xs
any_reverse p [] = refl
any_reverse p (x ∷ xs) = ap (list_any p) (reverse_onto xs x []) ∙ list_any-append p (reverse xs) (x ∷ []) ∙ or_swapped (list_any p (reverse xs)) (p x) ∙ ap (λ b. p x || b) (any_reverse p xs)

pub any_turned : {A B : Type 0} (p : B → Bool) (f : A → B) (xs : List A) → list_any p (reverse (map f xs)) ≡ list_any (λ x. p (f x)) xs
any_turned p f xs = any_reverse p (map f xs) ∙ any_map p f xs

-- ---- what holds of each element

pub every_index : {A : Type 0} (P : A → Type 0) (xs : List A) (i : ℕ) (d : A) → AllByRecursion P xs → i < length xs → P (get_or xs i d)
every_index P [] i d h l = absurd (omega (arith, l))
every_index P (x ∷ xs) zero d h l = h.0
every_index P (x ∷ xs) (suc i) d h l = every_index P xs i d h.1 (omega (arith, l))

-- one more, seen by a function
pub mapped_more : {A B : Type 0} (f : A → B) (old : List A) (x : A) (xs : List B) (i : ℕ) (d : B) → i < length xs → map f old ≡ take i xs
    → f x ≡ get_or xs i d → map f (old ++ x ∷ []) ≡ take (i + 1) xs
mapped_more {A = A} f old x xs i d l e q = map_last old ∙ ap (λ l. l ++ f x ∷ []) e ∙ ap (λ y. take i xs ++ y ∷ []) q ∙ sym (take_more xs i d l)
  where
    map_last : (ys : List A) → map f (ys ++ x ∷ []) ≡ map f ys ++ f x ∷ []
    map_last [] = refl
    map_last (y ∷ ys) = ap (λ l. f y ∷ l) (map_last ys)
