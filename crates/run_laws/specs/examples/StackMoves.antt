-- The stack instructions, as JVMS 6.5 writes them (of words that are not of a long or a double): ".., value2, value1" has
-- value1 on top.
use Rattle.std.specs.Prelude.{◌≡◌, ℕ, List, [], ◌∷◌, true, false, drop, length}
use Rattle.model.specs.declared.instr.StackMove.{StackMove}
use Rattle.model.specs.declared.instr.StackMove.TheVariants.{Pop, Pop2, Dup, DupX1, DupX2, Dup2, Dup2X1, Dup2X2, Swap}
use Rattle.model.specs.declared.value.Value.{Value}
use Rattle.model.specs.Classes.{Program}
use Rattle.model.specs.Types.{value_meets}
use Rattle.model.specs.Operands.{Slots, over_values, is_ready}
use Rattle.model.specs.Rows.{move_row, row_wants, row_target, after_row}

-- a stack on which values were pushed, the first of them first
abbrev pub pushed : List Value → List Value → List Value
pushed stack [] = stack
pushed stack (value ∷ more) = pushed (value ∷ stack) more

abbrev pub slots : List Value → List Value → Slots Value
slots locals stack = record { locals = locals; stack = stack }

-- An instruction turns what is on top of any stack into other values, leaves the rest and the local variables as they are,
-- and goes on at the next instruction. Where there is nothing else on the stack, max_stack may be as low as the depth
-- after it, and each of its operands must be there.
pub record Moves (move : StackMove) (before after : List Value) : Type 0 where
  pub turns : (locals rest : List Value) (next : ℕ)
      → after_row over_values (move_row move next) (slots locals (pushed rest before)) ≡ slots locals (pushed rest after)
  pub goes_on : (next : ℕ) (words : List ℕ) → row_target (move_row move next) words ≡ next
  pub is_done : (files : Program) → is_ready (value_meets files [])
      over_values (row_wants (move_row move 0)) (length after) (slots [] (pushed [] before)) ≡ true
  pub too_few : (files : Program) → is_ready (value_meets files []) over_values (row_wants (move_row move 0))
      9 (slots [] (pushed [] (drop 1 before))) ≡ false

-- The stack is too small for what the instruction leaves, which is more than it found.
abbrev pub Overflows : StackMove → List Value → ℕ → Type 0
Overflows move before max_stack = (files : Program) → is_ready (value_meets files []) over_values (row_wants (move_row move 0)) max_stack (slots [] (pushed [] before)) ≡ false

pub record StackMoves : Type 0 where
  pub pop : (value : Value) → Moves Pop (value ∷ []) []
  pub pop2 : (value1 value2 : Value) → Moves Pop2 (value2 ∷ value1 ∷ []) []
  pub dup : (value : Value) → Moves Dup (value ∷ []) (value ∷ value ∷ [])
  pub dup_x1 : (value1 value2 : Value) → Moves DupX1 (value2 ∷ value1 ∷ []) (value1 ∷ value2 ∷ value1 ∷ [])
  pub dup_x2 : (value1 value2 value3 : Value) → Moves DupX2 (value3 ∷ value2 ∷ value1 ∷ []) (value1 ∷ value3 ∷ value2 ∷ value1 ∷ [])
  pub dup2 : (value1 value2 : Value) → Moves Dup2 (value2 ∷ value1 ∷ []) (value2 ∷ value1 ∷ value2 ∷ value1 ∷ [])
  pub dup2_x1 : (value1 value2 value3 : Value)
      → Moves Dup2X1 (value3 ∷ value2 ∷ value1 ∷ []) (value2 ∷ value1 ∷ value3 ∷ value2 ∷ value1 ∷ [])
  pub dup2_x2 : (value1 value2 value3 value4 : Value)
      → Moves Dup2X2 (value4 ∷ value3 ∷ value2 ∷ value1 ∷ []) (value2 ∷ value1 ∷ value4 ∷ value3 ∷ value2 ∷ value1 ∷ [])
  pub swap : (value1 value2 : Value) → Moves Swap (value2 ∷ value1 ∷ []) (value1 ∷ value2 ∷ [])
  pub dup_overflows : (value : Value) → Overflows Dup (value ∷ []) 1
  pub dup_x1_overflows : (value1 value2 : Value) → Overflows DupX1 (value2 ∷ value1 ∷ []) 2
  pub dup_x2_overflows : (value1 value2 value3 : Value) → Overflows DupX2 (value3 ∷ value2 ∷ value1 ∷ []) 3
  pub dup2_overflows : (value1 value2 : Value) → Overflows Dup2 (value2 ∷ value1 ∷ []) 3
  pub dup2_x1_overflows : (value1 value2 value3 : Value) → Overflows Dup2X1 (value3 ∷ value2 ∷ value1 ∷ []) 4
  pub dup2_x2_overflows : (value1 value2 value3 value4 : Value) → Overflows Dup2X2 (value4 ∷ value3 ∷ value2 ∷ value1 ∷ []) 5
