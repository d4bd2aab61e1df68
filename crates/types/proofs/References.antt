-- Arrays of some dimensions.
use Rattle.std.proofs.Common.{◌≡◌, ℕ, zero, suc, ◌-◌, ◌<◌, Option, Some, None, false, refl, ap, ◌∙◌, arith}
use Rattle.std.specs.Option.{option_map_or}
use Rattle.model.specs.Names.{java_lang_object}
use Rattle.model.specs.Classes.{Program}
use Rattle.model.specs.ReferenceTypes.{ReferenceType, ClassType, ReferenceArray, is_assignable}
use Rattle.model.specs.DescribedTypes.{arrays}
use Rattle.model.specs.TypeJoin.{reference_join}
use Rattle.types.specs.declared.reference_type.Element.{Element}
use Rattle.types.specs.declared.reference_type.Element.TheVariants as element
use Rattle.types.specs.View.{element_in, is_object_type, object_above_type, array_join}

module _ (files : Program) where
  pub below_same : (m n : ℕ) (s t : ReferenceType) → m ≡ n → is_assignable files (arrays m s) (arrays n t) ≡ is_assignable files s t
  below_same zero zero s t e = refl
  below_same zero (suc n) s t e = absurd cc
  below_same (suc m) zero s t e = absurd cc
  below_same (suc m) (suc n) s t e = below_same m n s t (omega (arith, e))

  pub below_less : (m n : ℕ) (s t : Element) → m < n
      → is_assignable files (arrays m (element_in files s)) (arrays n (element_in files t)) ≡ false
  below_less m zero s t l = absurd (omega (arith, l))
  below_less zero (suc n) (element.Class c) t l = refl
  below_less zero (suc n) (element.PrimitiveArray a) t l = refl
  below_less (suc m) (suc n) s t l = below_less m n s t (omega (arith, l))

  pub below_more : (m n : ℕ) (s t : Element) → n < m
      → is_assignable files (arrays m (element_in files s)) (arrays n (element_in files t)) ≡ is_object_type (element_in files t)
  below_more zero n s t l = absurd (omega (arith, l))
  below_more (suc m) zero s (element.Class d) l = refl
  below_more (suc m) zero s (element.PrimitiveArray b) l = refl
  below_more (suc m) (suc n) s t l = below_more m n s t (omega (arith, l))

  abbrev in_array : Option ReferenceType → Option ReferenceType
  in_array o = Some (option_map_or (λ t. ReferenceArray t) o (ClassType java_lang_object))

  pub join_same : (m n : ℕ) (s t : ReferenceType) → m ≡ n
      → reference_join files (arrays m s) (arrays n t) ≡ array_join m (reference_join files s t)
  join_same zero zero s t e = refl
  join_same zero (suc n) s t e = absurd cc
  join_same (suc m) zero s t e = absurd cc
  join_same (suc m) (suc n) s t e = ap in_array (join_same m n s t (omega (arith, e)))

  pub join_less : (m n : ℕ) (s t : Element) → m < n
      → reference_join files (arrays m (element_in files s)) (arrays n (element_in files t))
      ≡ array_join m (object_above_type files (element_in files s))
  join_less m zero s t l = absurd (omega (arith, l))
  join_less zero (suc n) (element.Class c) t l = refl
  join_less zero (suc n) (element.PrimitiveArray a) t l = refl
  join_less (suc m) (suc n) s t l = ap in_array (join_less m n s t (omega (arith, l)))

  pub join_more : (m n : ℕ) (s t : Element) → n < m
      → reference_join files (arrays m (element_in files s)) (arrays n (element_in files t))
      ≡ array_join n (object_above_type files (element_in files t))
  join_more zero n s t l = absurd (omega (arith, l))
  join_more (suc m) zero s (element.Class d) l = refl
  join_more (suc m) zero s (element.PrimitiveArray b) l = refl
  join_more (suc m) (suc n) s t l = ap in_array (join_more m n s t (omega (arith, l)))

  pub array_of_some : (n : ℕ) (t : ReferenceType) → array_join n (Some t) ≡ Some (arrays n t)
  array_of_some zero t = refl
  array_of_some (suc n) t = ap in_array (array_of_some n t)

  above_none : (n : ℕ) → array_join (suc n) None ≡ Some (arrays n (ClassType java_lang_object))
  above_none zero = refl
  above_none (suc n) = ap in_array (above_none n)

  pub array_of_none : (n : ℕ) → 0 < n → array_join n None ≡ Some (arrays (n - 1) (ClassType java_lang_object))
  array_of_none zero l = absurd (omega (arith, l))
  array_of_none (suc n) l =
      let k : n ≡ suc n - 1 = omega arith in
      above_none n ∙ ap (λ m. Some (arrays m (ClassType java_lang_object))) k
