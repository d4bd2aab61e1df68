-- Reading parts one after the other, as a loop does.
use Rattle.std.proofs.Common.{◌≡◌, ℕ, suc, ◌-◌, ◌+◌, ◌≤◌, ◌<◌, List, [], ◌∷◌, ◌++◌, Ok, Err, refl, sym, ap, ◌∙◌, append_assoc, arith}
use Rattle.std.proofs.lemmas.List.{append-nil}
use Rattle.schedule.specs.declared.fault.ScheduleFault.{ScheduleFault}
use Rattle.schedule.specs.declared.fault.ScheduleFault.TheVariants as faults
use Rattle.schedule.specs.Reading.{◌>>=◌, Read, Fails, many_at}

-- what was read before, and what is still read
abbrev pub with_front : {A : Type 0} → List A → Read (List A) → Read (List A)
with_front {A = A} front read = ◌>>=◌ {B = List A × List ℕ} read (λ x. Ok (front ++ x.0, x.1))

regroup : {A : Type 0} (front more : List A) (read : Read (List A))
    → with_front front (◌>>=◌ {B = List A × List ℕ} read (λ x. Ok (more ++ x.0, x.1))) ≡ with_front (front ++ more) read
regroup {A = A} front more (Ok x) = ap (λ (l : List A). Ok (l, x.1)) (sym (append_assoc front more x.0))
regroup front more (Err f) = refl

no_more : {A : Type 0} (front : List A) (bytes : List ℕ) → with_front front (Ok ([], bytes)) ≡ Ok (front, bytes)
no_more {A = A} front bytes = ap (λ (l : List A). Ok (l, bytes)) (append-nil front)

pub goes_on : {A : Type 0} (part : List ℕ → Read A) (front : List A) (count k : ℕ) (bytes after : List ℕ) (e : A) (total : Read (List A))
    → k < count → part bytes ≡ Ok (e, after)
    → with_front front (many_at part (count - k) bytes) ≡ total
    → with_front (front ++ e ∷ []) (many_at part (count - (k + 1)) after) ≡ total
unfolding many_at
goes_on part front count k bytes after e total lt h so_far =
    let left : count - k ≡ suc (count - (k + 1)) = omega arith in
    let one : with_front front (many_at part (count - k) bytes) ≡ with_front (front ++ e ∷ []) (many_at part (count - (k + 1)) after) = rw (left, h) (regroup front (e ∷ []) (many_at part (count - (k + 1)) after)) in
    sym one ∙ so_far

fails : {A : Type 0} (part : List ℕ → Read A) (f : ScheduleFault) (front : List A) (count k : ℕ) (bytes : List ℕ) (total : Read (List A))
    → k < count → part bytes ≡ Err f
    → with_front front (many_at part (count - k) bytes) ≡ total → total ≡ Err f
unfolding many_at
fails part f front count k bytes total lt h so_far =
    let left : count - k ≡ suc (count - (k + 1)) = omega arith in
    sym so_far ∙ rw (left, h) refl

pub ends : {A : Type 0} (part : List ℕ → Read A) (f : ScheduleFault) (front : List A) (count k : ℕ) (bytes : List ℕ)
    (total : Read (List A)) → k < count → Fails f (part bytes)
    → with_front front (many_at part (count - k) bytes) ≡ total → Fails f total
ends part faults.OutOfMemory front count k bytes total lt h so_far = tt
ends part faults.Truncated front count k bytes total lt h so_far = fails part faults.Truncated front count k bytes total lt h so_far
ends part faults.Magic front count k bytes total lt h so_far = fails part faults.Magic front count k bytes total lt h so_far
ends part faults.Version front count k bytes total lt h so_far = fails part faults.Version front count k bytes total lt h so_far
ends part faults.Repeat front count k bytes total lt h so_far = fails part faults.Repeat front count k bytes total lt h so_far
ends part faults.Trailing front count k bytes total lt h so_far = fails part faults.Trailing front count k bytes total lt h so_far
ends part faults.Limits front count k bytes total lt h so_far = fails part faults.Limits front count k bytes total lt h so_far
ends part faults.Files front count k bytes total lt h so_far = fails part faults.Files front count k bytes total lt h so_far
ends part faults.Arguments front count k bytes total lt h so_far = fails part faults.Arguments front count k bytes total lt h so_far

pub is_done : {A : Type 0} (part : List ℕ → Read A) (front : List A) (count k : ℕ) (bytes : List ℕ) (total : Read (List A)) → count ≤ k
    → with_front front (many_at part (count - k) bytes) ≡ total → total ≡ Ok (front, bytes)
unfolding many_at
is_done part front count k bytes total le so_far =
    let left : count - k ≡ 0 = omega arith in
    sym so_far ∙ rw left (no_more front bytes)
