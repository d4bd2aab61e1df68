-- Files, and a number of each that they may have.
use Rattle.std.proofs.Common.{◌≡◌, ℕ, zero, suc, ◌<◌, List, [], ◌∷◌, length, map, get_or, refl, sym, ap, ◌∙◌, arith}

-- the number of one file
number_at : {F : Type 0} (number : List ℕ → ℕ) (items : F → List ℕ) (files : List F) (i : ℕ) (d : F) → i < length files
    → get_or (map number (map items files)) i 0 ≡ number (items (get_or files i d))
number_at number items [] i d within = absurd (omega (arith, within))
number_at number items (file ∷ files) zero d within = refl
number_at number items (file ∷ files) (suc i) d within = number_at number items files i d (omega (arith, within))

pub number_differs : {F : Type 0} (number : List ℕ → ℕ) (items : F → List ℕ) (files : List F) (numbers : List ℕ) (i : ℕ) (d : F) → i < length files
    → (number (items (get_or files i d)) ≡ get_or numbers i 0 → ⊥) → map number (map items files) ≡ numbers → ⊥
number_differs number items files numbers i d within apart same =
    apart (sym (number_at number items files i d within) ∙ ap (λ (l : List ℕ). get_or l i 0) same)
