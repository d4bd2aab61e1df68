-- The loop of `starts`, a mark at a time.
use Rattle.std.proofs.Common.{◌≡◌, ℕ, suc, ◌+◌, ◌-◌, ◌<◌, ◌≤◌, Bool, true, false, List, [], ◌∷◌, ◌++◌, length, refl, sym, ap, ◌∙◌, append_assoc, arith}
use Rattle.std.proofs.lemmas.List.{append-nil}
use Rattle.model.specs.InstructionStarts.{step_at, starts_from}

-- the marks still to come
abbrev pub marks_left : List ℕ → ℕ → ℕ → List Bool
marks_left code pc inside = starts_from code (length code - pc) pc inside

mark_first : (code : List ℕ) (n left pc inside : ℕ) → left ≡ suc n → inside ≡ 0
    → starts_from code left pc inside ≡ true ∷ starts_from code n (suc pc) (step_at code pc - 1)
unfolding starts_from
mark_first code n left pc inside l i = rw (l, i) refl

mark_inside : (code : List ℕ) (n left pc inside less : ℕ) → left ≡ suc n → inside ≡ suc less
    → starts_from code left pc inside ≡ false ∷ starts_from code n (suc pc) less
unfolding starts_from
mark_inside code n left pc inside less l i = rw (l, i) refl

pushed : (marks rest whole : List Bool) (mark : Bool) (left : List Bool) → rest ≡ mark ∷ left → marks ++ rest ≡ whole
    → (marks ++ (mark ∷ [])) ++ left ≡ whole
pushed marks rest whole mark left r h = append_assoc marks (mark ∷ []) left ∙ ap (λ (l : List Bool). marks ++ l) (sym r) ∙ h

pub more_first : (code : List ℕ) (marks after whole : List Bool) (pc inside next : ℕ) → pc < length code → inside ≡ 0
    → after ≡ marks ++ (true ∷ []) → next ≡ step_at code pc - 1
    → marks ++ marks_left code pc inside ≡ whole → after ++ marks_left code (pc + 1) next ≡ whole
more_first code marks after whole pc inside next here first is n h =
    let fewer : length code - pc ≡ suc (length code - (pc + 1)) = omega (arith, here) in
    let place : pc + 1 ≡ suc pc = omega arith in
    rw (is, n) (pushed marks (marks_left code pc inside) whole true (marks_left code (pc + 1) (step_at code pc - 1))
    (mark_first code (length code - (pc + 1)) (length code - pc) pc inside fewer first ∙ ap (λ (q : ℕ). true ∷ starts_from code (length code - (pc + 1)) q (step_at code pc - 1)) (sym place)) h)

pub more_inside : (code : List ℕ) (marks after whole : List Bool) (pc inside next : ℕ) → pc < length code → 0 < inside
    → after ≡ marks ++ (false ∷ []) → next ≡ inside - 1
    → marks ++ marks_left code pc inside ≡ whole → after ++ marks_left code (pc + 1) next ≡ whole
more_inside code marks after whole pc inside next here within is n h =
    let fewer : length code - pc ≡ suc (length code - (pc + 1)) = omega (arith, here) in
    let place : pc + 1 ≡ suc pc = omega arith in
    let one : inside ≡ suc (inside - 1) = omega (arith, within) in
    rw (is, n) (pushed marks (marks_left code pc inside) whole false (marks_left code (pc + 1) (inside - 1))
    (mark_inside code (length code - (pc + 1)) (length code - pc) pc inside (inside - 1) fewer one ∙ ap (λ (q : ℕ). false ∷ starts_from code (length code - (pc + 1)) q (inside - 1)) (sym place)) h)

none_left : (code : List ℕ) (left pc inside : ℕ) → left ≡ 0 → starts_from code left pc inside ≡ []
unfolding starts_from
none_left code left pc inside l = rw l refl

pub all_marked : (code : List ℕ) (marks whole : List Bool) (pc inside : ℕ) → length code ≤ pc → marks ++ marks_left code pc inside ≡ whole
    → marks ≡ whole
all_marked code marks whole pc inside past h =
    let none : marks_left code pc inside ≡ [] = none_left code (length code - pc) pc inside (omega (arith, past)) in
    sym (append-nil marks) ∙ ap (λ (l : List Bool). marks ++ l) (sym none) ∙ h
