-- A state goes on to have its number, when others are written and kept.
use Rattle.std.proofs.Common.{◌≡◌, ℕ, zero, suc, List, [], ◌∷◌, ◌++◌, length, refl, sym, ap, ◌∙◌, Some}
use Rattle.std.specs.Prelude.{slice_get}
use Rattle.std.proofs.lemmas.Option.{none-some}
use Rattle.kept_parts.specs.Rows.{flags_row}
use Rattle.machine_state.specs.declared.state.Shared.{Shared}
use Rattle.kept_states.specs.declared.states.KeptStates.{KeptStates}
use Rattle.kept_states.specs.Kept.{IsState, KeepsStates, IsRowMade, IsStateAdded, AreWhole}
use Rattle.kept_states.proofs.One.{row_stays}

get_front : {X : Type 0} (xs ys : List X) (k : ℕ) (x : X) → slice_get xs k ≡ Some x → slice_get (xs ++ ys) k ≡ Some x
get_front [] ys k x h = absurd (none-some x h)
get_front (w ∷ ws) ys zero x h = h
get_front (w ∷ ws) ys (suc k) x h = get_front ws ys k x h

get_last : {X : Type 0} (xs : List X) (x : X) → slice_get (xs ++ x ∷ []) (length xs) ≡ Some x
get_last [] x = refl
get_last (w ∷ ws) x = get_last ws x

-- the row of another one is made
pub state_written : (old new : KeptStates) (number : ℕ) (s : Shared) → KeepsStates old new → IsState old number s → IsState new number s
state_written old new number s keeps is = record {
  row = is.row;
  row_is = ap (λ (rows : List (List ℕ)). slice_get rows number) keeps.states ∙ is.row_is;
  is = row_stays old.parts new.parts is.row s keeps.parts is.is;
  fat = is.fat;
  fat_is = ap (λ (numbers : List ℕ). slice_get numbers number) keeps.fat ∙ is.fat_is;
  are_fat = keeps.parts.kept is.fat (flags_row s.heap.locks.fat) is.are_fat;
}

-- another one is kept
pub state_kept : (old new : KeptStates) (number at : ℕ) (s added : Shared) → IsStateAdded at added old new → IsState old number s → IsState new number s
state_kept old new number at s added step is = record {
  row = is.row;
  row_is = ap (λ (rows : List (List ℕ)). slice_get rows number) step.states ∙ get_front old.states (old.state.items ∷ []) number is.row is.row_is;
  is = row_stays old.parts new.parts is.row s step.parts is.is;
  fat = is.fat;
  fat_is = ap (λ (numbers : List ℕ). slice_get numbers number) step.fat ∙ get_front old.fat.items (step.flags ∷ []) number is.fat is.fat_is;
  are_fat = step.parts.kept is.fat (flags_row s.heap.locks.fat) is.are_fat;
}

-- the state whose row was made is kept
pub state_is_kept : (before old new : KeptStates) (number : ℕ) (s : Shared) → AreWhole old → IsRowMade s before old → IsStateAdded number s old new → IsState new number s
state_is_kept before old new number s whole made step = record {
  row = old.state.items;
  row_is = ap (slice_get new.states) step.number_is
      ∙ ap (λ (rows : List (List ℕ)). slice_get rows (length old.states)) step.states
      ∙ get_last old.states old.state.items;
  is = row_stays old.parts new.parts old.state.items s step.parts made.row;
  fat = step.flags;
  fat_is = ap (slice_get new.fat.items) (step.number_is ∙ sym whole)
      ∙ ap (λ (numbers : List ℕ). slice_get numbers (length old.fat.items)) step.fat
      ∙ get_last old.fat.items step.flags;
  are_fat = step.are_fat;
}
