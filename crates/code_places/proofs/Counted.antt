-- One number more.
use Rattle.std.proofs.Common.{◌≡◌, ℕ, zero, suc, ◌+◌, List, [], ◌∷◌, ◌++◌, refl, sym, ap, subst, ◌∙◌, arith}
use Rattle.std.specs.List.{flat_map}
use Rattle.std.proofs.lemmas.Grind.{flat_map-append}
use Rattle.std.proofs.lemmas.List.{append-nil}
use Rattle.model.specs.Rows.{counting}

one_more : (k n : ℕ) → counting k (suc n) ≡ counting k n ++ (k + n) ∷ []
one_more k zero = let e : k ≡ k + zero = omega arith in ap (λ (m : ℕ). m ∷ []) e
one_more k (suc n) =
    let e : suc k + n ≡ k + suc n = omega arith in
    ap (λ l. k ∷ l) (one_more (suc k) n ∙ ap (λ (m : ℕ). counting (suc k) n ++ m ∷ []) e)

pub counted : (n : ℕ) → counting 0 (n + 1) ≡ counting 0 n ++ n ∷ []
counted n =
    let e : n + 1 ≡ suc n = omega arith in
    let z : 0 + n ≡ n = omega arith in
    ap (counting 0) e ∙ one_more 0 n ∙ ap (λ (m : ℕ). counting 0 n ++ m ∷ []) z

-- what comes of each, and of one more
pub gathered : {A : Type 0} (f : ℕ → List A) (n : ℕ) → flat_map f (counting 0 (n + 1)) ≡ flat_map f (counting 0 n) ++ f n
gathered f n =
    ap (flat_map f) (counted n) ∙ flat_map-append f (counting 0 n) (n ∷ []) ∙ ap (λ l. flat_map f (counting 0 n) ++ l) (append-nil (f n))
