-- Entries that are the same, one after another.
use Rattle.std.proofs.Common.{◌≡◌, ◌<◌, ◌+◌, ℕ, zero, suc, List, [], ◌∷◌, ◌++◌, Option, Some, None, get_or, length, take, refl, sym, ap, ◌∙◌, arith}
use Rattle.std.specs.Prelude.{slice_get}
use Rattle.std.proofs.lemmas.List.{take_more}

item : {A : Type 0} (xs : List A) (i : ℕ) (x d : A) → slice_get xs i ≡ Some x → get_or xs i d ≡ x
item [] i x d is = absurd cc
item (y ∷ xs) zero x d is = cc
item (y ∷ xs) (suc i) x d is = item xs i x d is

within : {A : Type 0} (xs : List A) (i : ℕ) (x : A) → slice_get xs i ≡ Some x → i < length xs
within [] i x is = absurd cc
within (y ∷ xs) zero x is = omega arith
within (y ∷ xs) (suc i) x is = let less : i < length xs = within xs i x is in omega (arith, less)

taken : {A : Type 0} (xs : List A) (i : ℕ) (x : A) → slice_get xs i ≡ Some x → take (i + 1) xs ≡ take i xs ++ x ∷ []
taken xs i x is = take_more xs i x (within xs i x is) ∙ ap (λ y. take i xs ++ y ∷ []) (item xs i x x is)

pub one_more : {A : Type 0} (xs ys : List A) (i : ℕ) (x y : A) → take i xs ≡ take i ys → slice_get xs i ≡ Some x → slice_get ys i ≡ Some y → x ≡ y
    → take (i + 1) xs ≡ take (i + 1) ys
one_more xs ys i x y so_far is_x is_y same =
    taken xs i x is_x ∙ ap (λ l. l ++ x ∷ []) so_far ∙ ap (λ z. take i ys ++ z ∷ []) same ∙ sym (taken ys i y is_y)
