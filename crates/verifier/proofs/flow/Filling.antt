-- Local variables that nothing fills.
use Rattle.std.proofs.Common.{◌≡◌, ℕ, zero, suc, ◌+◌, List, [], ◌∷◌, ◌++◌, map, refl, ap, ◌∙◌, append_assoc, arith}
use Rattle.std.specs.Prelude.{replicate}

module _ {A : Type 0} (x : A) where
  replicate_last : (n : ℕ) → replicate n x ++ x ∷ [] ≡ replicate (suc n) x
  replicate_last zero = refl
  replicate_last (suc n) = ap (λ l. x ∷ l) (replicate_last n)

  -- one more
  pub filled_more : (old now : List A) (n : ℕ) → now ≡ old ++ replicate n x → now ++ x ∷ [] ≡ old ++ replicate (n + 1) x
  filled_more old now n e =
      let k : suc n ≡ n + 1 = omega arith in
      ap (λ l. l ++ x ∷ []) e ∙ append_assoc old (replicate n x) (x ∷ []) ∙ ap (λ l. old ++ l) (replicate_last n ∙ ap (λ m. replicate m x) k)

pub map_filled : {A B : Type 0} (f : A → B) (x : A) (xs : List A) (n : ℕ) → map f (xs ++ replicate n x) ≡ map f xs ++ replicate n (f x)
map_filled f x [] zero = refl
map_filled f x [] (suc n) = ap (λ l. f x ∷ l) (map_filled f x [] n)
map_filled f x (y ∷ ys) n = ap (λ l. f y ∷ l) (map_filled f x ys n)
