-- Objects and fields: what is read is of the type that is declared, and what is written keeps them so.
use Rattle.std.proofs.Common.{◌≡◌, ℕ, zero, suc, List, [], ◌∷◌, ◌++◌, map, length, Bool, true, ◌==◌, Option, Some, None, refl, sym, subst, arith, ap}
use Rattle.std.specs.Prelude.{slice_get, slice_set, slice_index_or, replicate, if◌then◌else◌}
use Rattle.std.specs.List.{list_all}
use Rattle.std.specs.Option.{option_map_or}
use Rattle.std.proofs.lemmas.Bool.{false≢true, and_parts, and_from, cond_both, eqb-true}
use Rattle.std.proofs.lemmas.List.{map-append}
use Rattle.model.specs.declared.value.Value.{Value}
use Rattle.model.specs.declared.value.Value.TheVariants as value
use Rattle.model.specs.Names.{Name, Member, member_eq, name_eq, java_lang_string}
use Rattle.model.specs.Descriptors as descriptors
use Rattle.model.specs.Descriptors.{ElementType, FieldType}
use Rattle.model.specs.DescriptorScan.{field_type}
use Rattle.model.specs.Classes.{Program}
use Rattle.model.specs.ReferenceTypes.{ReferenceType, is_assignable, ClassType}
use Rattle.model.specs.Types.{is_object_below}
use Rattle.model.specs.DescribedTypes.{DeclaredType, DeclaredInt, DeclaredReference, element_declared, declared_with, declared_of, field_declared, verification_type}
use Rattle.model.specs.Operands.{values}
use Rattle.model.specs.State.{ObjectOf, References, type_of, types_of, Characters}
use Rattle.model.specs.Opening.{first_value, first_of, with_first, first_instance, new_instance}
use Rattle.model.specs.Lookup.{instance_fields}
use Rattle.model.specs.Worlds.{value_in, with_value, type_kept, element_kept, put_value}
use Rattle.model.specs.WellTyped.{has_type, is_field_typed, is_object_typed}
use Rattle.run_laws.proofs.laws.Lists.{all_weaken, get_set_same, all_append}
use Rattle.run_laws.proofs.laws.Classes.{names_same}
use Rattle.run_laws.proofs.laws.Order.{Extends, extends_more, extends_same, assignable_self}
use Rattle.run_laws.proofs.typed_runs.Invariant.{object_typed_more}

abbrev ObjectV : Type 0
ObjectV = ObjectOf Value

-- ---- tests of all elements of a list

pub all_set : {A : Type 0} (p : A → Bool) (xs : List A) (k : ℕ) (x : A) → list_all p xs ≡ true → p x ≡ true
    → list_all p (slice_set xs k x) ≡ true
all_set p [] k x h q = refl
all_set p (y ∷ ys) zero x h q = and_from _ _ q (and_parts _ _ h).1
all_set p (y ∷ ys) (suc k) x h q = let g = and_parts _ _ h in and_from _ _ g.0 (all_set p ys k x g.1 q)

pub all_replicate : {A : Type 0} (p : A → Bool) (n : ℕ) (x : A) → p x ≡ true → list_all p (replicate n x) ≡ true
all_replicate p zero x q = refl
all_replicate p (suc n) x q = and_from _ _ q (all_replicate p n x q)

pub all_map : {A B : Type 0} (p : B → Bool) (f : A → B) (xs : List A) → ((x : A) → p (f x) ≡ true) → list_all p (map f xs) ≡ true
all_map p f [] q = refl
all_map p f (x ∷ xs) q = and_from _ _ (q x) (all_map p f xs q)

pub all_at : {A : Type 0} (p : A → Bool) (xs : List A) (k : ℕ) (x : A) → list_all p xs ≡ true → slice_get xs k ≡ Some x → p x ≡ true
all_at p [] k x h e = absurd cc
all_at p (y ∷ ys) zero x h e = let q : y ≡ x = cc in subst (λ z. p z ≡ true) q (and_parts _ _ h).0
all_at p (y ∷ ys) (suc k) x h e = all_at p ys k x (and_parts _ _ h).1 e

pub all_index : {A : Type 0} (p : A → Bool) (xs : List A) (k : ℕ) (d : A) → list_all p xs ≡ true → p d ≡ true
    → p (slice_index_or xs k d) ≡ true
all_index p [] k d h q = q
all_index p (y ∷ ys) zero d h q = (and_parts _ _ h).0
all_index p (y ∷ ys) (suc k) d h q = all_index p ys k d (and_parts _ _ h).1 q

module _ (files : Program) (os : List ReferenceType) where
  -- ---- fields

  first_typed : (d : DeclaredType) → has_type files os (verification_type files d) (first_value values d) ≡ true
  first_typed DeclaredInt = refl
  first_typed (DeclaredReference t) = refl

  pub first_of_typed : (field : Member) → is_field_typed files os (field, first_of values field) ≡ true
  first_of_typed field = first_typed (field_declared field.descriptor)

  same_descriptor : (a b : Member) → member_eq a b ≡ true → a.descriptor ≡ b.descriptor
  same_descriptor a b h = names_same a.descriptor b.descriptor (and_parts _ _ (and_parts _ _ h).1).1

  pub value_in_typed : (field : Member) (fields : List (Member × Value)) → list_all (is_field_typed files os) fields ≡ true
      → is_field_typed files os (field, value_in (first_of values field) field fields) ≡ true
  value_in_typed field [] h = first_of_typed field
  value_in_typed field (f ∷ fields) h =
      let g = and_parts _ _ h in
      cond_both (member_eq f.0 field) _ _ (λ v. is_field_typed files os (field, v) ≡ true)
      (λ q. subst (λ d. has_type files os (verification_type files (field_declared d)) f.1 ≡ true) (same_descriptor f.0 field q) g.0)
      (λ q. value_in_typed field fields g.1)

  pub with_value_typed : (field : Member) (v : Value) (fields : List (Member × Value)) → is_field_typed files os (field, v) ≡ true
      → list_all (is_field_typed files os) fields ≡ true → list_all (is_field_typed files os) (with_value field v fields) ≡ true
  with_value_typed field v [] q h = refl
  with_value_typed field v (f ∷ fields) q h =
      let g = and_parts _ _ h in
      cond_both (member_eq f.0 field) _ _ (λ fs. list_all (is_field_typed files os) fs ≡ true)
      (λ e. and_from _ _ (subst (λ d. has_type files os (verification_type files (field_declared d)) v ≡ true) (sym (same_descriptor f.0 field e)) q) g.1)
      (λ e. and_from _ _ g.0 (with_value_typed field v fields q g.1))

  pub first_instance_typed : (class : Name) → is_object_typed files os (first_instance values files class) ≡ true
  first_instance_typed class = all_map (is_field_typed files os) (with_first values) (instance_fields files class) first_of_typed

  pub new_instance_typed : (class : Name) → is_object_typed files os (new_instance values files class) ≡ true
  new_instance_typed class =
      cond_both (name_eq class java_lang_string) (Characters []) (first_instance values files class) (λ o. is_object_typed files os o ≡ true)
      (λ e. refl) (λ e. first_instance_typed class)

  -- it is of its class
  pub new_instance_type : (class : Name) → type_of (new_instance values files class) ≡ ClassType class
  new_instance_type class =
      cond_both (name_eq class java_lang_string) (Characters []) (first_instance values files class) (λ o. type_of o ≡ ClassType class)
      (λ e. ap (λ n. ClassType n) (sym (names_same class java_lang_string e))) (λ e. refl)

  -- ---- what is kept of a value

  element_kept_typed : (e : ElementType) (v : Value) → has_type files os (verification_type files (element_declared e)) v ≡ true
      → has_type files os (verification_type files (element_declared e)) (element_kept values e v) ≡ true
  element_kept_typed descriptors.Byte v h = refl
  element_kept_typed descriptors.Char v h = refl
  element_kept_typed descriptors.Double v h = h
  element_kept_typed descriptors.Float v h = h
  element_kept_typed descriptors.Int v h = h
  element_kept_typed descriptors.Long v h = h
  element_kept_typed (descriptors.Object name) v h = h
  element_kept_typed descriptors.Short v h = refl
  element_kept_typed descriptors.Boolean v h = refl

  kept_with : (n : ℕ) (e : ElementType) (v : Value) → has_type files os (verification_type files (declared_with n e)) v ≡ true
      → has_type files os (verification_type files (declared_with n e)) (if n == 0 then element_kept values e v else v) ≡ true
  kept_with zero e v h = element_kept_typed e v h
  kept_with (suc n) e v h =
      cond_both (suc n == 0) _ _ (λ u. has_type files os (verification_type files (declared_with (suc n) e)) u ≡ true)
      (λ q. let none : suc n ≡ 0 = eqb-true (suc n) 0 q in absurd (omega arith))
      (λ q. h)

  kept_typed : (t : Option FieldType) (v : Value)
      → has_type files os (verification_type files (option_map_or declared_of t DeclaredInt)) v ≡ true
      → has_type files os (verification_type files (option_map_or declared_of t DeclaredInt)) (type_kept values t v) ≡ true
  kept_typed None v h = h
  kept_typed (Some t) v h = kept_with t.dimensions t.element v h

  -- a put keeps the declared type
  pub put_value_typed : (field : Member) (v : Value) → is_field_typed files os (field, v) ≡ true
      → is_field_typed files os (field, put_value values field v) ≡ true
  put_value_typed field v h = kept_typed (field_type field.descriptor) v h

  -- ---- arrays

  pub nulls_typed : (of : ReferenceType) (n : ℕ) → is_object_typed files os (References of (replicate n value.Null)) ≡ true
  nulls_typed of n = all_replicate _ n value.Null refl

-- ---- the heap

-- what is below a type is an object
pub object_found : (files : Program) (heap : List ObjectV) (r : ℕ) (t : ReferenceType)
    → is_object_below files t (slice_get (types_of heap) r) ≡ true
    → (o : ObjectV) × (slice_get heap r ≡ Some o) × (is_assignable files (type_of o) t ≡ true)
object_found files [] r t h = absurd (false≢true h)
object_found files (o ∷ heap) zero t h = (o, refl, h)
object_found files (o ∷ heap) (suc r) t h = object_found files heap r t h

abbrev pub HeapTyped : Program → List ObjectV → Type 0
HeapTyped files heap = list_all (is_object_typed files (types_of heap)) heap ≡ true

module _ (files : Program) (heap : List ObjectV) (typed : HeapTyped files heap) where
  pub added_extends : (o : ObjectV) → Extends (types_of heap) (types_of (heap ++ o ∷ []))
  added_extends o = subst (Extends (types_of heap)) (sym (map-append type_of heap (o ∷ []))) (extends_more (types_of heap) (type_of o ∷ []))

  pub added_typed : (o : ObjectV) → is_object_typed files (types_of (heap ++ o ∷ [])) o ≡ true → HeapTyped files (heap ++ o ∷ [])
  added_typed o h =
      all_append _ heap (o ∷ [])
      (all_weaken _ _ heap (object_typed_more files (types_of heap) (types_of (heap ++ o ∷ [])) (added_extends o)) typed)
      (and_from _ _ h refl)

  pub added_below : (o : ObjectV) → is_object_below files (type_of o) (slice_get (types_of (heap ++ o ∷ [])) (length heap)) ≡ true
  added_below o = at_last heap
    where
      at_last : (xs : List ObjectV) → is_object_below files (type_of o) (slice_get (types_of (xs ++ o ∷ [])) (length xs)) ≡ true
      at_last [] = assignable_self files (type_of o)
      at_last (y ∷ xs) = at_last xs

  module _ (r : ℕ) (old new : ObjectV) (e : slice_get heap r ≡ Some old) (same : type_of new ≡ type_of old) (h : is_object_typed files (types_of heap) new ≡ true) where
    changed_types : types_of (slice_set heap r new) ≡ types_of heap
    changed_types = get_set_same type_of heap r old new e same

    pub changed_extends : Extends (types_of heap) (types_of (slice_set heap r new))
    changed_extends = extends_same _ _ changed_types

    pub changed_typed : HeapTyped files (slice_set heap r new)
    changed_typed =
        subst (λ os. list_all (is_object_typed files os) (slice_set heap r new) ≡ true) (sym changed_types) (all_set _ heap r new typed h)
