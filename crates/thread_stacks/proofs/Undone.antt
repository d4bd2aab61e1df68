-- A call that is undone.
use Rattle.std.proofs.Common.{◌≡◌, ℕ, ◌-◌, List, [], ◌∷◌, ◌++◌, length, take, drop, reverse, ap, refl, ◌∙◌, arith, inl, inr}
use Rattle.std.specs.Prelude.{min, replicate}
use Rattle.std.proofs.lemmas.List.{length-reverse, length-take-le, reverse-reverse, take-append-drop, take_at, take_all}
use Rattle.std.proofs.lemmas.Bool.{cases_lt}
use Rattle.thread_stacks.specs.declared.entry.Callee.{Callee}
use Rattle.thread_stacks.specs.Stacks.{ShownEntry, Invocation, Initialisation, called, filled, operands_on, taken_back}

taken_count : (m : ℕ) (xs : List ℕ) → length (take m xs) ≡ min m (length xs)
taken_count m xs =
    elim (cases_lt m (length xs)) [
      | inl lt ↦ length-take-le m xs (omega arith) ∙ omega arith
      | inr le ↦ ap length (take_all m xs le) ∙ omega arith
    ]

again : (m most : ℕ) (xs : List ℕ) → reverse (take (min m (length xs)) (filled (reverse (take m xs)) most)) ++ drop m xs ≡ xs
again m most xs =
    let count : length (reverse (take m xs)) ≡ min m (length xs) = length-reverse (take m xs) ∙ taken_count m xs in
    ap (λ ys. reverse ys ++ drop m xs)
    (take_at (reverse (take m xs)) (replicate {A = ℕ} (most - length (reverse (take m xs))) 0) (min m (length xs)) count)
    ∙ ap (λ ys. ys ++ drop m xs) (reverse-reverse (take m xs))
    ∙ take-append-drop m xs

-- as many words given back as were taken
pub undone : (callee : Callee) (m : ℕ) (stack : List ShownEntry) → taken_back (min m (operands_on stack)) (called callee m stack) ≡ stack
undone callee m [] = refl
undone callee m (Initialisation class phase ∷ stack) = refl
undone callee m (Invocation frame ∷ stack) =
    ap (λ words. Invocation (record frame { operands = words }) ∷ stack) (again m callee.max_locals frame.operands)
