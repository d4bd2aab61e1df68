-- Lists of words by their numbers (own).
use Rattle.std.specs.Prelude.{◌≡◌, ℕ, ◌≤◌, List, [], ◌∷◌, Some, length, drop, slice_get, slice_range}

-- ---- where they lie

-- where the first list begins; where there is none, at the end
abbrev pub first_start : List ℕ → ℕ → ℕ
first_start [] end = end
first_start (start ∷ starts) end = start

-- where the list of a number begins
abbrev pub start_at : List ℕ → (end number : ℕ) → ℕ
start_at starts end number = first_start (drop number starts) end

-- each list goes on up to the next, and the last up to the end
abbrev pub lists_of : List ℕ → List ℕ → List (List ℕ)
lists_of [] words = []
lists_of (start ∷ starts) words = slice_range words start (first_start starts (length words)) ∷ lists_of starts words

abbrev pub AreLaid : List ℕ → ℕ → Type 0
AreLaid [] end = Unit {0}
AreLaid (start ∷ starts) end = (start ≤ first_start starts end) × AreLaid starts end

-- ---- what stays

-- each number stands for the list for which it stood
abbrev pub StandsFor : List (List ℕ) → (number : ℕ) → List ℕ → Type 0
StandsFor lists number words = slice_get lists number ≡ Some words

pub record Grows (old new : List (List ℕ)) : Type 0 where
  pub kept : (number : ℕ) (words : List ℕ) → StandsFor old number words → StandsFor new number words

-- the number stands for these words
pub record IsWritten (words : List ℕ) (number : ℕ) (old new : List (List ℕ)) : Type 0 where
  pub grows : Grows old new
  pub stands : StandsFor new number words
