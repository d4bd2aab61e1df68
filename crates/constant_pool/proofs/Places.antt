-- Reading the entries of so many places, as a loop does.
use Rattle.std.proofs.Common.{◌≡◌, ℕ, zero, suc, ◌≤◌, ◌<◌, Bool, true, false, eqb, not, ◌&&◌, IsTrue, List, [], ◌∷◌, ◌++◌, Ok, Err, refl, sym, ap, subst, ◌∙◌, arith}
use Rattle.std.proofs.lemmas.Bool.Decides.{nat_tests}
use Rattle.constant_pool.specs.declared.reading.fault.Stop.{Stop}
use Rattle.constant_pool.specs.declared.reading.fault.Stop.TheVariants as stops
use Rattle.constant_pool.specs.reading.Input.{Input}
use Rattle.constant_pool.specs.reading.Reading.{Read, Fails}
use Rattle.constant_pool.proofs.reading.Loop.{with_front, regroup, no_more}
use Rattle.model.specs.Tree.{Entry, Unusable}
use Rattle.model.specs.Spelling.{is_wide}
use Rattle.constant_pool.specs.PoolReading.{entry_at, entries_at}

-- the first of two places is not the last
not_last : (n : ℕ) → eqb (suc (suc n)) 1 ≡ false
not_last n = grind (arith, nat_tests)

first_of_two : (n : ℕ) (i : Input) (read : Read Entry) → entry_at (eqb (suc (suc n)) 1) i ≡ read → entry_at false i ≡ read
first_of_two n i read h = ap (λ (b : Bool). entry_at b i) (sym (not_last n)) ∙ h

-- an entry of one place, at a place that is left
step : (front : List Entry) (less : ℕ) (i after : Input) (e : Entry) → entry_at (eqb (suc less) 1) i ≡ Ok (e, after) → is_wide e ≡ false
    → with_front front (entries_at (suc less) i) ≡ with_front (front ++ e ∷ []) (entries_at less after)
unfolding entries_at
step front zero i after e h narrow = rw h (sym (no_more (front ++ e ∷ []) after))
step front (suc n) i after e h narrow = rw (first_of_two n i (Ok (e, after)) h, narrow) (regroup front (e ∷ []) (entries_at (suc n) after))

pub goes_on : (front : List Entry) (left less : ℕ) (i after : Input) (e : Entry) (total : Read (List Entry)) → left ≡ suc less
    → entry_at (eqb left 1) i ≡ Ok (e, after) → is_wide e ≡ false
    → with_front front (entries_at left i) ≡ total → with_front (front ++ e ∷ []) (entries_at less after) ≡ total
goes_on front left less i after e total is h narrow so_far =
    let h2 : entry_at (eqb (suc less) 1) i ≡ Ok (e, after) = ap (λ (n : ℕ). entry_at (eqb n 1) i) (sym is) ∙ h in
    sym (step front less i after e h2 narrow) ∙ ap (λ (n : ℕ). with_front front (entries_at n i)) (sym is) ∙ so_far

-- an entry of two places
step_wide : (front : List Entry) (less : ℕ) (i after : Input) (e : Entry) → entry_at false i ≡ Ok (e, after) → is_wide e ≡ true
    → with_front front (entries_at (suc (suc less)) i) ≡ with_front (front ++ e ∷ Unusable ∷ []) (entries_at less after)
unfolding entries_at
step_wide front n i after e h wide = rw (h, wide) (regroup front (e ∷ Unusable ∷ []) (entries_at n after))

pub goes_on_wide : (front : List Entry) (left less : ℕ) (i after : Input) (e : Entry) (total : Read (List Entry)) → left ≡ suc (suc less)
    → entry_at (eqb left 1) i ≡ Ok (e, after) → is_wide e ≡ true
    → with_front front (entries_at left i) ≡ total → with_front (front ++ e ∷ Unusable ∷ []) (entries_at less after) ≡ total
goes_on_wide front left less i after e total is h wide so_far =
    let h2 : entry_at false i ≡ Ok (e, after) = first_of_two less i (Ok (e, after)) (ap (λ (n : ℕ). entry_at (eqb n 1) i) (sym is) ∙ h) in
    sym (step_wide front less i after e h2 wide) ∙ ap (λ (n : ℕ). with_front front (entries_at n i)) (sym is) ∙ so_far

-- a wide entry is read where two places are left at least
pub two_are_left : (left : ℕ) (e : Entry) → 0 < left → IsTrue (not (eqb left 1 && is_wide e)) → is_wide e ≡ true → 2 ≤ left
two_are_left zero e lt h wide = absurd (omega arith)
two_are_left (suc zero) e lt h wide = let k : not true ≡ true = subst (λ (b : Bool). IsTrue (not b)) wide h in absurd cc
two_are_left (suc (suc n)) e lt h wide = omega arith

pub ends : (e : Stop) (front : List Entry) (left : ℕ) (i : Input) (total : Read (List Entry)) → 0 < left
    → Fails e (entry_at (eqb left 1) i) → with_front front (entries_at left i) ≡ total → Fails e total
unfolding entries_at
ends stops.Memory front left i total lt h so_far = tt
ends (stops.Fault f) front zero i total lt h so_far = absurd (omega arith)
ends (stops.Fault f) front (suc zero) i total lt h so_far = sym so_far ∙ rw h refl
ends (stops.Fault f) front (suc (suc n)) i total lt h so_far = sym so_far ∙ rw (first_of_two n i (Err f) h) refl

pub is_done : (front : List Entry) (left : ℕ) (i : Input) (total : Read (List Entry)) → left ≡ 0
    → with_front front (entries_at left i) ≡ total → total ≡ Ok (front, i)
unfolding entries_at
is_done front left i total none so_far = sym so_far ∙ ap (λ (n : ℕ). with_front front (entries_at n i)) none ∙ no_more front i
