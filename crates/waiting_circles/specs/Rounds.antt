-- Rounds among numbers, each of which has one next number at most (own).
use Rattle.std.specs.Prelude.{◌≡◌, ℕ, List, [], ◌∷◌, Option, Some, Bool, IsTrue, IsFalse, slice_get}
use Rattle.std.specs.Option.{option_and_then}

-- the next number of a number, if it has one
abbrev pub next_in : List (Option ℕ) → (number : ℕ) → Option ℕ
next_in nexts number = option_and_then (λ (next : Option ℕ). next) (slice_get nexts number)

-- each number is the next one of that before it, and a last number is the next one of the last of them
abbrev pub LeadsTo : List (Option ℕ) → (last number : ℕ) → List ℕ → Type 0
LeadsTo nexts last number [] = next_in nexts number ≡ Some last
LeadsTo nexts last number (next ∷ others) = (next_in nexts number ≡ Some next) × LeadsTo nexts last next others

-- a number that is come back to
abbrev pub IsRound : List (Option ℕ) → (first : ℕ) → List ℕ → Type 0
IsRound nexts first others = LeadsTo nexts first first others

pub record HasRound (nexts : List (Option ℕ)) : Type 0 where
  pub first : ℕ
  pub others : List ℕ
  pub is : IsRound nexts first others

abbrev pub TellsRound : List (Option ℕ) → Bool → Type 0
TellsRound nexts told = (IsTrue told → HasRound nexts) × (IsFalse told → HasRound nexts → ⊥)

-- whether there is one, or at least none with this number
abbrev pub TellsRoundFrom : List (Option ℕ) → (first : ℕ) → Bool → Type 0
TellsRoundFrom nexts first told = (IsTrue told → HasRound nexts) × (IsFalse told → (others : List ℕ) → IsRound nexts first others → ⊥)
