-- The marked offsets of a code are its instruction boundaries.
use Rattle.std.proofs.Common.{◌≡◌, ℕ, zero, suc, ◌+◌, ◌<◌, List, [], ◌∷◌, length, get_or, Bool, true, false, refl, subst, arith}
use Rattle.std.specs.List.{list_any}
use Rattle.std.proofs.lemmas.Bool.{or_right}
use Rattle.model.specs.InstructionStarts.{starts, is_start}
use Rattle.model.specs.CodeParts.{marked_from, boundaries}

none_marked : (p : ℕ → Bool) (n : ℕ) (marks : List Bool)
    → ((k place : ℕ) → place ≡ n + k → k < length marks → get_or marks k false ≡ true → p place ≡ false)
    → list_any p (marked_from n marks) ≡ false
none_marked p n [] h = refl
none_marked p n (true ∷ marks) h =
    let here : p n ≡ false = h 0 n (omega arith) (omega arith) refl in
    rw here (none_marked p (suc n) marks (λ k place e l m. h (suc k) place (omega (arith, e)) (omega (arith, l)) m))
none_marked p n (false ∷ marks) h = none_marked p (suc n) marks (λ k place e l m. h (suc k) place (omega (arith, e)) (omega (arith, l)) m)

any_marked : (p : ℕ → Bool) (n k place : ℕ) (marks : List Bool) → place ≡ n + k → get_or marks k false ≡ true → p place ≡ true
    → list_any p (marked_from n marks) ≡ true
any_marked p n k place [] e m h = absurd cc
any_marked p n zero place (true ∷ marks) e m h =
    let same : place ≡ n = omega (arith, e) in
    let here : p n ≡ true = subst (λ (q : ℕ). p q ≡ true) same h in
    rw here refl
any_marked p n zero place (false ∷ marks) e m h = absurd cc
any_marked p n (suc k) place (true ∷ marks) e m h = or_right (p n) (list_any p (marked_from (suc n) marks)) (any_marked p (suc n) k place marks (omega (arith, e)) m h)
any_marked p n (suc k) place (false ∷ marks) e m h = any_marked p (suc n) k place marks (omega (arith, e)) m h

-- what is so of no marked offset is so of no boundary
pub none_of_marks : (p : ℕ → Bool) (code : List ℕ) (marks : List Bool) → marks ≡ starts code
    → ((k : ℕ) → k < length marks → get_or marks k false ≡ true → p k ≡ false) → list_any p (boundaries code) ≡ false
none_of_marks p code marks e h =
    subst (λ (ms : List Bool). list_any p (marked_from 0 ms) ≡ false) e
    (none_marked p 0 marks (λ k place same below m. let is : k ≡ place = omega (arith, same) in subst (λ (q : ℕ). p q ≡ false) is (h k below m)))

-- what is so of a boundary is so of one
pub any_of_starts : (p : ℕ → Bool) (code : List ℕ) (k : ℕ) → is_start code k ≡ true → p k ≡ true → list_any p (boundaries code) ≡ true
any_of_starts p code k m h = any_marked p 0 k k (starts code) (omega arith) m h

pub start_of_mark : (code : List ℕ) (marks : List Bool) (pc : ℕ) → marks ≡ starts code → get_or marks pc false ≡ true
    → is_start code pc ≡ true
start_of_mark code marks pc e h = subst (λ (ms : List Bool). get_or ms pc false ≡ true) e h

-- a mark is within the marks
pub mark_within : (marks : List Bool) (k : ℕ) → get_or marks k false ≡ true → k < length marks
mark_within [] k h = absurd cc
mark_within (m ∷ marks) zero h = omega arith
mark_within (m ∷ marks) (suc k) h = let rest = mark_within marks k h in omega (arith, rest)
