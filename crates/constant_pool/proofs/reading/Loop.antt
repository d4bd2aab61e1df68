-- Reading one after the other, as a loop does.
use Rattle.std.proofs.Common.{◌≡◌, ℕ, suc, ◌-◌, ◌+◌, ◌≤◌, ◌<◌, List, [], ◌∷◌, ◌++◌, Ok, Err, refl, sym, ap, ◌∙◌, append_assoc, arith}
use Rattle.std.proofs.lemmas.List.{append-nil}
use Rattle.constant_pool.specs.reading.Input.{Input}
use Rattle.constant_pool.specs.declared.reading.fault.Stop.{Stop}
use Rattle.constant_pool.specs.declared.reading.fault.Stop.TheVariants as stops
use Rattle.constant_pool.specs.reading.Reading.{◌>>=◌, Read, Fails, times_at}

-- what was read before, and what is still read
abbrev pub with_front : {A : Type 0} → List A → Read (List A) → Read (List A)
with_front {A = A} front read = ◌>>=◌ {B = List A × Input} read (λ x. Ok (front ++ x.0, x.1))

pub regroup : {A : Type 0} (front more : List A) (read : Read (List A))
    → with_front front (◌>>=◌ {B = List A × Input} read (λ x. Ok (more ++ x.0, x.1))) ≡ with_front (front ++ more) read
regroup front more (Ok x) = ap (λ (l : List _). Ok (l, x.1)) (sym (append_assoc front more x.0))
regroup front more (Err f) = refl

pub no_more : {A : Type 0} (front : List A) (i : Input) → with_front front (Ok ([], i)) ≡ Ok (front, i)
no_more front i = ap (λ (l : List _). Ok (l, i)) (append-nil front)

-- ---- so many of one kind

pub times_goes_on : {A : Type 0} (read : Input → Read A) (front : List A) (count k : ℕ) (i after : Input) (x : A) (total : Read (List A))
    → k < count → read i ≡ Ok (x, after)
    → with_front front (times_at read (count - k) i) ≡ total → with_front (front ++ x ∷ []) (times_at read (count - (k + 1)) after) ≡ total
unfolding times_at
times_goes_on read front count k i after x total lt h so_far =
    let left : count - k ≡ suc (count - (k + 1)) = omega arith in
    let one : with_front front (times_at read (count - k) i) ≡ with_front (front ++ x ∷ []) (times_at read (count - (k + 1)) after) = rw (left, h) (regroup front (x ∷ []) (times_at read (count - (k + 1)) after)) in
    sym one ∙ so_far

pub times_ends : {A : Type 0} (read : Input → Read A) (e : Stop) (front : List A) (count k : ℕ) (i : Input) (total : Read (List A))
    → k < count → Fails e (read i)
    → with_front front (times_at read (count - k) i) ≡ total → Fails e total
unfolding times_at
times_ends read stops.Memory front count k i total lt h so_far = tt
times_ends read (stops.Fault f) front count k i total lt h so_far =
    let left : count - k ≡ suc (count - (k + 1)) = omega arith in
    sym so_far ∙ rw (left, h) refl

pub times_are_done : {A : Type 0} (read : Input → Read A) (front : List A) (count k : ℕ) (i : Input) (total : Read (List A)) → count ≤ k
    → with_front front (times_at read (count - k) i) ≡ total → total ≡ Ok (front, i)
unfolding times_at
times_are_done read front count k i total le so_far =
    let left : count - k ≡ 0 = omega arith in
    sym so_far ∙ rw left (no_more front i)
