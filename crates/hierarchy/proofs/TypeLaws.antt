-- Arrays below arrays.
use Rattle.std.proofs.Common.{◌≡◌, ℕ, zero, suc, ◌+◌, ◌-◌, ◌<◌, Bool, false, refl, ap, ◌∙◌, arith}
use Rattle.model.specs.Names.{Name}
use Rattle.model.specs.ReferenceTypes.{ReferenceType, ReferenceArray, is_type_below}
use Rattle.model.specs.DescribedTypes.{arrays}
use Rattle.hierarchy.specs.declared.reference_type.Innermost as declared_innermost
use Rattle.hierarchy.specs.declared.reference_type.Innermost.TheVariants as innermost
use Rattle.hierarchy.specs.Types.{innermost_of}

both : (below : Name → Name → Bool) (n : ℕ) (s t : ReferenceType) → is_type_below below (arrays n s) (arrays n t) ≡ is_type_below below s t
both below zero s t = refl
both below (suc n) s t = both below n s t

pub as_many : (below : Name → Name → Bool) (m n : ℕ) (s t : ReferenceType) → m ≡ n
    → is_type_below below (arrays m s) (arrays n t) ≡ is_type_below below s t
as_many below m n s t e = ap (λ k. is_type_below below (arrays k s) (arrays n t)) e ∙ both below n s t

more_of : (below : Name → Name → Bool) (k n : ℕ) (s t : ReferenceType)
    → is_type_below below (arrays (suc k + n) s) (arrays n t) ≡ is_type_below below (ReferenceArray (arrays k s)) t
more_of below k zero s t = let e : suc k + zero ≡ suc k = omega arith in ap (λ j. is_type_below below (arrays j s) t) e
more_of below k (suc n) s t = let e : suc k + suc n ≡ suc (suc k + n) = omega arith in ap (λ j. is_type_below below (arrays j s) (arrays (suc n) t)) e ∙ more_of below k n s t

pub more : (below : Name → Name → Bool) (m n : ℕ) (s t : ReferenceType) → n < m
    → is_type_below below (arrays m s) (arrays n t) ≡ is_type_below below (ReferenceArray (arrays (m - n - 1) s)) t
more below m n s t lt = let e : m ≡ suc (m - n - 1) + n = omega arith in ap (λ j. is_type_below below (arrays j s) (arrays n t)) e ∙ more_of below (m - n - 1) n s t

fewer_of : (below : Name → Name → Bool) (k n : ℕ) (s t : ReferenceType)
    → is_type_below below (arrays n s) (arrays (suc k + n) t) ≡ is_type_below below s (ReferenceArray (arrays k t))
fewer_of below k zero s t = let e : suc k + zero ≡ suc k = omega arith in ap (λ j. is_type_below below s (arrays j t)) e
fewer_of below k (suc n) s t = let e : suc k + suc n ≡ suc (suc k + n) = omega arith in ap (λ j. is_type_below below (arrays (suc n) s) (arrays j t)) e ∙ fewer_of below k n s t

no_array : (below : Name → Name → Bool) (s : declared_innermost.Innermost) (t : ReferenceType)
    → is_type_below below (innermost_of s) (ReferenceArray t) ≡ false
no_array below (innermost.Class name) t = refl
no_array below (innermost.PrimitiveArray primitive) t = refl

pub fewer : (below : Name → Name → Bool) (m n : ℕ) (s : declared_innermost.Innermost) (t : ReferenceType) → m < n
    → is_type_below below (arrays m (innermost_of s)) (arrays n t) ≡ false
fewer below m n s t lt =
    let e : n ≡ suc (n - m - 1) + m = omega arith in
    ap (λ j. is_type_below below (arrays m (innermost_of s)) (arrays j t)) e ∙ fewer_of below (n - m - 1) m (innermost_of s) t ∙ no_array below s (arrays (n - m - 1) t)
