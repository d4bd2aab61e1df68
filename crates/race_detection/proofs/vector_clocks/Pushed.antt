-- Lists that are read with a default.
use Rattle.std.proofs.Common.{◌≡◌, refl, ℕ, zero, suc, List, [], ◌∷◌, ◌++◌, get_or}

-- one more element that is the default changes nothing
pub pushed_default : {A : Type 0} (xs : List A) (d : A) (t : ℕ) → get_or (xs ++ d ∷ []) t d ≡ get_or xs t d
pushed_default [] d zero = refl
pushed_default [] d (suc t) = refl
pushed_default (x ∷ xs) d zero = refl
pushed_default (x ∷ xs) d (suc t) = pushed_default xs d t
