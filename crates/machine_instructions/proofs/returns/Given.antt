-- Whether a value is returned to an invoker.
use Rattle.std.proofs.Common.{◌≡◌, ◌-◌, ℕ, suc, List, [], ◌∷◌, true, Some, None, length, drop, refl, sym, ap, subst, ◌∙◌, arith}
use Rattle.model.specs.Classes.{Program}
use Rattle.model.specs.State as model
use Rattle.model.specs.State.{StackOf}
use Rattle.model.specs.Step as step
use Rattle.linked_code.specs.declared.program.LinkedProgram.{LinkedProgram}
use Rattle.thread_stacks.specs.Stacks.{ShownFrame, ShownEntry, Invocation, Initialisation, IsTopFrame, moved, returned, on_top}
use Rattle.machine_state.specs.shown_stacks.Shown.{ShowsStack}
use Rattle.machine_state.specs.Memory.{operand_counts, shown_counts, has_grown}
use Rattle.machine_state.proofs.Memory.{counts_shown, grown_under}
use Rattle.machine_instructions.specs.returns.Returned.{IsGiven}

pub given : (stack : List ShownEntry) (word : ℕ) (found : ShownFrame) → IsTopFrame (drop 1 stack) (Some found) → IsGiven stack (Some word)
given stack word found top = by (drop 1 stack) refl top
  where
    by : (under : List ShownEntry) → drop 1 stack ≡ under → IsTopFrame under (Some found) → IsGiven stack (Some word)
    by [] is top = absurd cc
    by (Invocation invoker ∷ others) is top = record { word = word; is = refl; invoker = invoker; others = others; under = is }
    by (Initialisation class phase ∷ others) is top = absurd cc

-- nothing is
pub passes_nothing : (under : List ShownEntry) (next : ℕ) → on_top (moved next) under ≡ returned next [] under
passes_nothing [] next = refl
passes_nothing (Invocation frame ∷ others) next = refl
passes_nothing (Initialisation class phase ∷ others) next = refl

-- there is no invoker
pub passes_over : (under : List ShownEntry) → IsTopFrame under None → (next : ℕ) (results : List ℕ)
    → on_top (moved next) under ≡ returned next results under
passes_over [] top next results = refl
passes_over (Invocation frame ∷ others) top next results = absurd cc
passes_over (Initialisation class phase ∷ others) top next results = refl

-- one less is on the stack
pub returned_count : (stack : List ShownEntry) (next : ℕ) (results : List ℕ) → length (returned next results (drop 1 stack)) ≡ length stack - 1
returned_count [] next results = omega arith
returned_count (entry ∷ []) next results = omega arith
returned_count (entry ∷ under ∷ others) next results = omega arith

-- the invoker has one operand more
pub given_grows : (trees : Program) (p : LinkedProgram) (stack : List ShownEntry) (frame : ShownFrame) (below : List ShownEntry) → stack ≡ Invocation frame ∷ below
    → (invoker : ShownFrame) (others : List ShownEntry) → drop 1 stack ≡ Invocation invoker ∷ others
    → (rest : StackOf ℕ) → ShowsStack trees p (drop 1 stack) rest → (word : ℕ)
    → has_grown (shown_counts stack) (operand_counts (step.returned trees (word ∷ []) rest)) ≡ true
given_grows trees p stack frame below is invoker others under rest shows word =
    subst (λ l. has_grown (shown_counts l) (operand_counts (step.returned trees (word ∷ []) rest)) ≡ true) (sym stack_is)
    (by rest (subst (λ l. ShowsStack trees p l rest) under shows))
  where
    stack_is : stack ≡ Invocation frame ∷ Invocation invoker ∷ others
    stack_is = is ∙ ap (λ l. Invocation frame ∷ l) (sym (ap (drop 1) is) ∙ under)

    by : (rest : StackOf ℕ) → ShowsStack trees p (Invocation invoker ∷ others) rest
        → has_grown (shown_counts (Invocation frame ∷ Invocation invoker ∷ others)) (operand_counts (step.returned trees (word ∷ []) rest)) ≡ true
    by [] s = absurd s
    by (model.Initialisation class phase ∷ rest) s = absurd s.0
    by (model.Invocation f ∷ rest) s =
        subst (λ counts. has_grown (length frame.operands ∷ counts) (suc (length f.place.slots.stack) ∷ operand_counts rest) ≡ true)
        (sym (counts_shown trees p (Invocation invoker ∷ others) (model.Invocation f ∷ rest) s))
        (grown_under (length frame.operands) (length f.place.slots.stack) (suc (length f.place.slots.stack)) (operand_counts rest) (omega arith))
