-- What a word that is as wanted refers to, and where the object of an instruction stands.
use Rattle.std.proofs.Common.{◌≡◌, ℕ, zero, suc, ◌<◌, List, [], ◌∷◌, length, Bool, true, false, Option, Some, None, option_map, refl, sym, subst, arith}
use Rattle.std.specs.Prelude.{slice_get, slice_index_or}
use Rattle.std.specs.Option.{option_map_or}
use Rattle.std.proofs.lemmas.Bool.{false≢true, and_parts}
use Rattle.std.proofs.lemmas.Option.{slice_get-map}
use Rattle.model.specs.declared.instr.ArrayKind.TheVariants as array_kind
use Rattle.model.specs.Names.{Name, name_eq, java_lang_object, println_int, java_lang_string}
use Rattle.model.specs.DescriptorScan.{element_at, field_at, field_type, parameters_at, method_type}
use Rattle.model.specs.Calls.{parameter_count}
use Rattle.model.specs.Classes.{Program, is_subclass, classes_of}
use Rattle.model.specs.ReferenceTypes.{Boolean, Char, Byte, Short, Int, ReferenceType, ClassType, PrimitiveArray, ReferenceArray, is_assignable}
use Rattle.model.specs.Types.{Want, is_array_type, is_byte_array_type}
use Rattle.model.specs.Operands.{pops_meet}
use Rattle.model.specs.Objects.{any_object}
use Rattle.model.specs.State.{ObjectOf, Instance, Primitives, References, type_of, types_of, Characters}
use Rattle.run_laws.proofs.laws.Classes.{names_same, subclass_self}
use Rattle.run_laws.specs.word_operands.Operands.{is_word_with, word_meets}
use Rattle.run_laws.specs.word_operands.Receivers.{AreInstances, is_instance_below, has_class_below, is_array, is_array_of, is_null_or, receiver, IsReceived}

-- ---- the operand at a place

-- what is popped at a place is there, and as wanted there
pub record PoppedAt {A B : Type 0} (accepts : A → B → Bool) (w : A) (xs : List B) (k : ℕ) (d : B) : Type 0 where
  pub there : k < length xs
  pub meets : accepts w (slice_index_or xs k d) ≡ true

pub popped_at : {A : Type 0} (accepts : Want → A → Bool) (ws : List Want) (xs : List A) (k : ℕ) (w : Want) (d : A)
    → pops_meet accepts ws xs ≡ true → slice_get ws k ≡ Some w → PoppedAt accepts w xs k d
popped_at accepts [] xs k w d e q = absurd cc
popped_at accepts (v ∷ ws) [] k w d e q = absurd (false≢true e)
popped_at accepts (v ∷ ws) (x ∷ xs) zero w d e q = let is : v ≡ w = cc in record { there = omega arith; meets = subst (λ z. accepts z x ≡ true) is (and_parts _ _ e).0 }
popped_at accepts (v ∷ ws) (x ∷ xs) (suc k) w d e q =
    let later : PoppedAt accepts w xs k d = popped_at accepts ws xs k w d (and_parts (accepts v x) _ e).1 q in
    let there = later.there in
    record { there = omega (arith, there); meets = later.meets }

-- println has one parameter
pub println_count : parameter_count println_int ≡ 1
unfolding method_type parameters_at field_type field_at element_at
println_count = refl

-- ---- from types to objects

module _ (heap : List (ObjectOf ℕ)) where
  pub of_objects : (below : ReferenceType → Bool) (test : ObjectOf ℕ → Bool)
      → ((o : ObjectOf ℕ) → below (type_of o) ≡ true → test o ≡ true) → (w : ℕ) → is_word_with (types_of heap) below w ≡ true
      → is_null_or heap test w ≡ true
  of_objects below test each zero h = refl
  of_objects below test each (suc r) h = by (slice_get heap r) (subst (λ o. option_map_or below o false ≡ true) (slice_get-map type_of heap r) h)
    where
      by : (o : Option (ObjectOf ℕ)) → option_map_or below (option_map type_of o) false ≡ true → option_map_or test o false ≡ true
      by None q = q
      by (Some o) q = each o q

  -- of what is popped where something is wanted
  pub received : (files : Program) (stack : List ℕ) (pops : List Want) (k : ℕ) (w : Want) (test : ObjectOf ℕ → Bool)
      → pops_meet (word_meets files (types_of heap)) pops stack ≡ true → slice_get pops k ≡ Some w
      → ((n : ℕ) → word_meets files (types_of heap) w n ≡ true → is_null_or heap test n ≡ true)
      → IsReceived heap stack (receiver k test)
  received files stack pops k w test e q each =
      let at = popped_at (word_meets files (types_of heap)) pops stack k w 0 e q in
      record { there = at.there; fits = each (slice_index_or stack k 0) at.meets }

module _ (files : Program) where
  -- ---- classes

  -- an instance alone is below a class whose objects are instances
  pub instance_fits : (type : ReferenceType) (class : Name) → AreInstances files type class → (o : ObjectOf ℕ)
      → is_assignable files (type_of o) type ≡ true → is_instance_below files class o ≡ true
  instance_fits type class instances o e = of_type o (instances (type_of o) e)
    where
      of_type : (o : ObjectOf ℕ) → (own : Name) × (type_of o ≡ ClassType own) × (is_subclass files own class ≡ true)
          → is_instance_below files class o ≡ true
      of_type (Instance c fields) h = let is : c ≡ h.0 = cc in subst (λ n. is_subclass files n class ≡ true) (sym is) h.2
      of_type (Primitives of elements) h = absurd cc
      of_type (References of elements) h = absurd cc
      of_type (Characters text) h = let is : java_lang_string ≡ h.0 = cc in subst (λ n. is_subclass files n class ≡ true) (sym is) h.2

  object_below : (class : Name) → name_eq class java_lang_object ≡ true → is_subclass files java_lang_object class ≡ true
  object_below class h = subst (λ n. is_subclass files java_lang_object n ≡ true) (sym (names_same class java_lang_object h)) (subclass_self files (length (classes_of files)) java_lang_object)

  -- arrays are Objects
  pub class_fits : (class : Name) (o : ObjectOf ℕ) → is_assignable files (type_of o) (ClassType class) ≡ true
      → has_class_below files class o ≡ true
  class_fits class (Instance c fields) e = e
  class_fits class (Primitives of elements) e = object_below class e
  class_fits class (References of elements) e = object_below class e
  class_fits class (Characters text) e = e

  -- ---- arrays

  pub array_fits : (o : ObjectOf ℕ) → is_array_type (type_of o) ≡ true → is_array o ≡ true
  array_fits (Instance c fields) e = e
  array_fits (Primitives of elements) e = refl
  array_fits (References of elements) e = refl
  array_fits (Characters text) e = e

  pub bytes_fit : (o : ObjectOf ℕ) → is_byte_array_type (type_of o) ≡ true → is_array_of array_kind.ByteOrBoolean o ≡ true
  bytes_fit (Instance c fields) e = e
  bytes_fit (Primitives of elements) e = e
  bytes_fit (References of elements) e = e
  bytes_fit (Characters text) e = e

  pub ints_fit : (o : ObjectOf ℕ) → is_assignable files (type_of o) (PrimitiveArray Int) ≡ true → is_array_of array_kind.Int o ≡ true
  ints_fit (Instance c fields) e = e
  ints_fit (Primitives Boolean elements) e = e
  ints_fit (Primitives Char elements) e = e
  ints_fit (Primitives Byte elements) e = e
  ints_fit (Primitives Short elements) e = e
  ints_fit (Primitives Int elements) e = refl
  ints_fit (References of elements) e = e
  ints_fit (Characters text) e = e

  pub chars_fit : (o : ObjectOf ℕ) → is_assignable files (type_of o) (PrimitiveArray Char) ≡ true → is_array_of array_kind.Char o ≡ true
  chars_fit (Instance c fields) e = e
  chars_fit (Primitives Boolean elements) e = e
  chars_fit (Primitives Char elements) e = refl
  chars_fit (Primitives Byte elements) e = e
  chars_fit (Primitives Short elements) e = e
  chars_fit (Primitives Int elements) e = e
  chars_fit (References of elements) e = e
  chars_fit (Characters text) e = e

  pub shorts_fit : (o : ObjectOf ℕ) → is_assignable files (type_of o) (PrimitiveArray Short) ≡ true → is_array_of array_kind.Short o ≡ true
  shorts_fit (Instance c fields) e = e
  shorts_fit (Primitives Boolean elements) e = e
  shorts_fit (Primitives Char elements) e = e
  shorts_fit (Primitives Byte elements) e = e
  shorts_fit (Primitives Short elements) e = refl
  shorts_fit (Primitives Int elements) e = e
  shorts_fit (References of elements) e = e
  shorts_fit (Characters text) e = e

  pub references_fit : (o : ObjectOf ℕ) → is_assignable files (type_of o) (ReferenceArray any_object) ≡ true
      → is_array_of array_kind.Reference o ≡ true
  references_fit (Instance c fields) e = e
  references_fit (Primitives of elements) e = e
  references_fit (References of elements) e = refl
  references_fit (Characters text) e = e
