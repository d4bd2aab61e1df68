-- The instruction boundaries: 0 is one, and past the instruction of each comes the next.
use Rattle.std.proofs.Common.{◌⊎◌, inl, inr, ◌≡◌, ℕ, zero, suc, ◌+◌, ◌-◌, ◌<◌, true, false, List, ◌∷◌, length, get_or, Option, Some, None, refl, sym, ap, subst, arith}
use Rattle.std.specs.Prelude.{IsTrue, ◌↔◌, IfSome, unwrap_or}
use Rattle.std.proofs.lemmas.Bool.{cases_lt}
use Rattle.model.specs.Instruction.{HasBytes, length_at}
use Rattle.model.specs.InstructionStarts.{step_at, IsStart, First, Next, starts_from, starts, is_start}
use Rattle.model.proofs.InstructionLaws.{length_fits}

step_of : (code : List ℕ) (pc : ℕ) (o : Option ℕ) → IfSome o (HasBytes code pc) → pc < length code → HasBytes code pc (unwrap_or o 1)
step_of code pc None h here = (omega arith, omega (arith, here))
step_of code pc (Some n) h here = h

-- the next boundary is later, and not past the end
pub step_fits : (code : List ℕ) (pc : ℕ) → pc < length code → HasBytes code pc (step_at code pc)
step_fits code pc here = step_of code pc (length_at code pc) (length_fits code pc) here

pub length-starts_from : (code : List ℕ) (n pc inside : ℕ) → length (starts_from code n pc inside) ≡ n
unfolding starts_from
length-starts_from code zero pc inside = refl
length-starts_from code (suc n) pc zero = ap suc (length-starts_from code n (suc pc) (step_at code pc - 1))
length-starts_from code (suc n) pc (suc inside) = ap suc (length-starts_from code n (suc pc) inside)

-- as many marks as bytes
pub length-starts : (code : List ℕ) → length (starts code) ≡ length code
length-starts code = length-starts_from code (length code) 0 0

-- the boundary after `inside` bytes
reached : (code : List ℕ) (n pc inside : ℕ) → inside < n → get_or (starts_from code n pc inside) inside false ≡ true
unfolding starts_from
reached code zero pc inside h = absurd (omega (arith, h))
reached code (suc n) pc zero h = refl
reached code (suc n) pc (suc inside) h = reached code n (suc pc) inside (omega (arith, h))

-- the boundary after the one at q, which is the kth offset from pc on
next_from : (code : List ℕ) (n pc inside k q target : ℕ) → n + pc ≡ length code → q ≡ pc + k → target ≡ k + step_at code q → target < n
    → get_or (starts_from code n pc inside) k false ≡ true → get_or (starts_from code n pc inside) target false ≡ true
unfolding starts_from
next_from code zero pc inside k q target len place far more h = absurd (omega (arith, more))
next_from code (suc n) pc zero zero q target len place far more h =
    let here : pc < length code = omega (arith, len) in
    let same : q ≡ pc = omega (arith, place) in
    let one_step : step_at code q ≡ step_at code pc = ap (λ (p : ℕ). step_at code p) same in
    let step : target ≡ step_at code pc = omega (arith, far, one_step) in
    let after : target ≡ suc (step_at code pc - 1) = omega (arith, step, (step_fits code pc here).0) in
    subst (λ (t : ℕ). get_or (true ∷ starts_from code n (suc pc) (step_at code pc - 1)) t false ≡ true) (sym after) (reached code n (suc pc) (step_at code pc - 1) (omega (arith, after, more)))
next_from code (suc n) pc (suc inside) zero q target len place far more h = absurd cc
next_from code (suc n) pc inside (suc k) q zero len place far more h = absurd (omega (arith, far))
next_from code (suc n) pc zero (suc k) q (suc target) len place far more h =
    next_from code n (suc pc) (step_at code pc - 1) k q target (omega (arith, len)) (omega (arith, place)) (omega (arith, far)) (omega (arith, more)) h
next_from code (suc n) pc (suc inside) (suc k) q (suc target) len place far more h =
    next_from code n (suc pc) inside k q target (omega (arith, len)) (omega (arith, place)) (omega (arith, far)) (omega (arith, more)) h

within_from : (code : List ℕ) (n pc inside k : ℕ) → get_or (starts_from code n pc inside) k false ≡ true → k < n
unfolding starts_from
within_from code zero pc inside k h = absurd cc
within_from code (suc n) pc inside zero h = omega arith
within_from code (suc n) pc zero (suc k) h = let l = within_from code n (suc pc) (step_at code pc - 1) k h in omega (arith, l)
within_from code (suc n) pc (suc inside) (suc k) h = let l = within_from code n (suc pc) inside k h in omega (arith, l)

-- a mark stands at a boundary
marked_from : (code : List ℕ) (n pc inside k : ℕ) → n + pc ≡ length code → (inside < n → IsStart code (pc + inside))
    → get_or (starts_from code n pc inside) k false ≡ true → IsStart code (pc + k)
unfolding starts_from
marked_from code zero pc inside k len next h = absurd cc
marked_from code (suc n) pc zero zero len next h = next (omega arith)
marked_from code (suc n) pc (suc inside) zero len next h = absurd cc
marked_from code (suc n) pc zero (suc k) len next h =
    let here : pc < length code = omega (arith, len) in
    let fits = step_fits code pc here in
    let this : IsStart code pc = subst (λ (q : ℕ). IsStart code q) (omega arith) (next (omega arith)) in
    subst (λ (q : ℕ). IsStart code q) (omega arith)
    (marked_from code n (suc pc) (step_at code pc - 1) k (omega (arith, len)) (λ more. Next pc (suc pc + (step_at code pc - 1)) this (omega (arith, fits.0)) (omega (arith, more, len))) h)
marked_from code (suc n) pc (suc inside) (suc k) len next h =
    subst (λ (q : ℕ). IsStart code q) (omega arith)
    (marked_from code n (suc pc) inside k (omega (arith, len)) (λ more. subst (λ (q : ℕ). IsStart code q) (omega arith) (next (omega (arith, more)))) h)

-- offset 0 is a boundary, where there is code
pub first_start : (code : List ℕ) → 0 < length code → is_start code 0 ≡ true
first_start code some = reached code (length code) 0 0 some

-- a boundary is in the code
pub start_within : (code : List ℕ) (pc : ℕ) → is_start code pc ≡ true → pc < length code
start_within code pc h = within_from code (length code) 0 0 pc h

-- the offset past a boundary's instruction is a boundary, or the code's end or past it
pub next_start : (code : List ℕ) (pc : ℕ) → is_start code pc ≡ true → pc + step_at code pc < length code
    → is_start code (pc + step_at code pc) ≡ true
next_start code pc h more = next_from code (length code) 0 0 pc pc (pc + step_at code pc) (omega arith) (omega arith) refl more h

-- the marks are the boundaries
pub marked_is_start : (code : List ℕ) (pc : ℕ) → is_start code pc ≡ true → IsStart code pc
marked_is_start code pc h = subst (λ (q : ℕ). IsStart code q) (omega arith) (marked_from code (length code) 0 0 pc (omega arith) (λ some. First some) h)

pub start_is_marked : (code : List ℕ) (pc : ℕ) → IsStart code pc → is_start code pc ≡ true
start_is_marked code _ (First some) = first_start code some
start_is_marked code _ (Next pc next before place within) =
    subst (λ (q : ℕ). is_start code q ≡ true) (sym place) (next_start code pc (start_is_marked code pc before) (subst (λ (q : ℕ). q < length code) place within))

pub marks_are_starts : (code : List ℕ) (pc : ℕ) → IsTrue (is_start code pc) ↔ IsStart code pc
marks_are_starts code pc = (marked_is_start code pc, start_is_marked code pc)

start_or_end : (code : List ℕ) (pc : ℕ) → is_start code pc ≡ true
    → (is_start code (pc + step_at code pc) ≡ true) ⊎ (pc + step_at code pc ≡ length code)
start_or_end code pc h =
    let fits = step_fits code pc (start_within code pc h) in
    elim (cases_lt (pc + step_at code pc) (length code)) [
      | inl more ↦ inl (next_start code pc h more)
      | inr past ↦ inr (omega (arith, past, fits.1))
    ]

-- the offset past a boundary's instruction is a boundary or the code's end
pub after_start : (code : List ℕ) (pc n : ℕ) → is_start code pc ≡ true → length_at code pc ≡ Some n
    → (is_start code (pc + n) ≡ true) ⊎ (pc + n ≡ length code)
after_start code pc n h is =
    let step : step_at code pc ≡ n = ap (λ o. unwrap_or o 1) is in
    subst (λ (k : ℕ). (is_start code (pc + k) ≡ true) ⊎ (pc + k ≡ length code)) step (start_or_end code pc h)
