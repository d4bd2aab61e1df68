-- Lists of keys.
use Rattle.std.proofs.Common.{◌≡◌, ◌≢◌, ℕ, zero, suc, ◌<◌, ◌⊎◌, inl, inr, List, [], ◌∷◌, ◌++◌, length, get_or, set, map}
use Rattle.std.proofs.Common.{refl, sym, ◌∙◌, ap, subst, arith}
use Rattle.std.specs.List.{remove}
use Rattle.std.proofs.lemmas.Bool.{cases_eq}
use Rattle.std.proofs.lemmas.List.{get_or-set_same, get_or-set_other, length-set, ext_get_or}
use Rattle.heap.specs.monitor.Records.{Lists, AreDistinct}

pub Lists-push : (xs : List ℕ) (y k : ℕ) → Lists (xs ++ y ∷ []) k → Lists xs k ⊎ (y ≡ k)
Lists-push [] y k (inl e) = inr e
Lists-push [] y k (inr h) = absurd h
Lists-push (x ∷ xs) y k (inl e) = inl (inl e)
Lists-push (x ∷ xs) y k (inr h) = elim (Lists-push xs y k h) [ inl a ↦ inl (inr a) | inr e ↦ inr e ]

pub distinct-push : (xs : List ℕ) (y : ℕ) → AreDistinct xs → (Lists xs y → ⊥) → AreDistinct (xs ++ y ∷ [])
distinct-push [] y d new = (λ h. h, tt)
distinct-push (x ∷ xs) y d new = (
  λ h. elim (Lists-push xs y x h) [ inl a ↦ d.0 a | inr e ↦ new (inl (sym e)) ],
  distinct-push xs y d.1 (λ h. new (inr h)),
)

pub Lists-at : (xs : List ℕ) (p d : ℕ) → p < length xs → Lists xs (get_or xs p d)
Lists-at [] p d h = absurd (omega arith)
Lists-at (x ∷ xs) zero d h = inl refl
Lists-at (x ∷ xs) (suc p) d h = inr (Lists-at xs p d (omega arith))

pub Lists-remove : (xs : List ℕ) (p k : ℕ) → Lists (remove xs p) k → Lists xs k
Lists-remove [] zero k h = h
Lists-remove [] (suc p) k h = h
Lists-remove (x ∷ xs) zero k h = inr h
Lists-remove (x ∷ xs) (suc p) k (inl e) = inl e
Lists-remove (x ∷ xs) (suc p) k (inr h) = inr (Lists-remove xs p k h)

pub distinct-remove : (xs : List ℕ) (p : ℕ) → AreDistinct xs → AreDistinct (remove xs p)
distinct-remove [] zero d = tt
distinct-remove [] (suc p) d = tt
distinct-remove (x ∷ xs) zero d = d.1
distinct-remove (x ∷ xs) (suc p) d = (λ h. d.0 (Lists-remove xs p x h), distinct-remove xs p d.1)

pub removed_gone : (xs : List ℕ) (p d : ℕ) → AreDistinct xs → p < length xs → Lists (remove xs p) (get_or xs p d) → ⊥
removed_gone [] p d a h l = absurd (omega arith)
removed_gone (x ∷ xs) zero d a h l = a.0 l
removed_gone (x ∷ xs) (suc p) d a h (inl e) =
    a.0 (subst (λ (k : ℕ). Lists xs k) (sym e) (Lists-at xs p d (omega arith)))
removed_gone (x ∷ xs) (suc p) d a h (inr l) = removed_gone xs p d a.1 (omega arith) l

pub map-remove : {X Y : Type 0} (f : X → Y) (xs : List X) (p : ℕ) → map f (remove xs p) ≡ remove (map f xs) p
map-remove f [] zero = refl
map-remove f [] (suc p) = refl
map-remove f (x ∷ xs) zero = refl
map-remove f (x ∷ xs) (suc p) = ap (λ ys. f x ∷ ys) (map-remove f xs p)

-- a write hides what stood there
pub set_agree : {X : Type 0} (d : X) (xs ys : List X) (i : ℕ) (y : X) → length xs ≡ length ys
    → ((j : ℕ) → j < length xs → j ≢ i → get_or xs j d ≡ get_or ys j d) → set xs i y ≡ set ys i y
set_agree d xs ys i y e same =
    ext_get_or d (set xs i y) (set ys i y) (length-set xs i y ∙ e ∙ sym (length-set ys i y)) (λ j h.
    let in_range : j < length xs = rw (length-set xs i y) at h in
    elim (cases_eq j i) [
      | inl at ↦
          let here : i < length xs = rw at at in_range in
          let there : i < length ys = rw e at here in
          rw at (get_or-set_same xs i y d here ∙ sym (get_or-set_same ys i y d there))
      | inr other ↦ get_or-set_other xs i j y d other ∙ same j in_range other ∙ sym (get_or-set_other ys i j y d other)
    ])
