-- The order of the verifier's types: it is one, and a value of a type is of each type above it.
use Rattle.std.proofs.Common.{◌≡◌, ℕ, List, ◌++◌, Bool, true, false, ◌==◌, Option, Some, None, refl, sym, ◌∙◌, subst, ⊎_elim}
use Rattle.std.specs.Prelude.{slice_get}
use Rattle.std.specs.Option.{option_map_or}
use Rattle.std.proofs.lemmas.Bool.{false≢true, and_parts, or_cases, or_right, cond_both, eqb-true, eq-eqb}
use Rattle.model.specs.declared.value.Value.{Value}
use Rattle.model.specs.declared.value.Value.TheVariants as value
use Rattle.model.specs.Names.{Name, name_eq, spells, java_lang_object}
use Rattle.model.specs.Classes.{Program, superclass_of, is_within, is_subclass}
use Rattle.model.specs.ReferenceTypes.{Primitive, Boolean, Char, Byte, Short, Int, primitive_number, ReferenceType, ClassType, PrimitiveArray, ReferenceArray, is_assignable}
use Rattle.model.specs.Types.{VerificationType, Unusable, IntType, NullType, OfType, Uninitialised, UninitialisedThis, Want, AnyWord, AnInt, AnyReference, AReference, AReceiver, AnOwner, AnArray, AByteArray, is_array_type, is_byte_or_boolean, is_byte_array_type, has_type_with, is_value_with, is_int, is_reference, is_of, is_receiver, is_instance_or_this, type_meets, is_int_value, is_reference_value, is_object_below, is_value_below, value_meets}
use Rattle.model.specs.InitialisedTypes.{is_made_at, is_uninitialised, is_uninitialised_this, forgotten, initialised}
use Rattle.model.specs.TypeOrder.{is_null, is_stack_below, is_local_below}
use Rattle.model.specs.WellTyped.{is_null_value, has_type}
pub use Rattle.model.specs.WellTyped.{Extends}
use Rattle.run_laws.specs.laws.Steps.{Rooted}
use Rattle.run_laws.proofs.laws.Lists.{get_front}
use Rattle.run_laws.proofs.laws.Classes.{names_same, name_self, subclass_self, subclass_trans, above_object, within_subclass}

pub extends_self : (os : List ReferenceType) → Extends os os
extends_self os = record { keeps = λ r t e. e }

pub extends_same : (os ps : List ReferenceType) → ps ≡ os → Extends os ps
extends_same os ps q = record { keeps = λ r t e. subst (λ l. slice_get l r ≡ Some t) (sym q) e }

pub extends_more : (os more : List ReferenceType) → Extends os (os ++ more)
extends_more os more = record { keeps = λ r t e. get_front os more r t e }

module _ (files : Program) where
  pub assignable_self : (t : ReferenceType) → is_assignable files t t ≡ true
  assignable_self (ClassType c) = subclass_self files _ c
  assignable_self (PrimitiveArray a) = eq-eqb (primitive_number a) (primitive_number a) refl
  assignable_self (ReferenceArray a) = assignable_self a

  object_above : (b c : Name) → name_eq b java_lang_object ≡ true → is_subclass files b c ≡ true → name_eq c java_lang_object ≡ true
  object_above b c p q =
      let is : java_lang_object ≡ c = above_object files c (subst (λ n. is_subclass files n c ≡ true) (names_same b java_lang_object p) q) in
      subst (λ n. name_eq n java_lang_object ≡ true) is (name_self java_lang_object)

  -- below an array there are arrays alone, and below one of bytes or booleans such arrays alone
  pub array_down : (u t : ReferenceType) → is_assignable files u t ≡ true → is_array_type t ≡ true → is_array_type u ≡ true
  array_down (ClassType c) (ClassType d) p q = q
  array_down (ClassType c) (PrimitiveArray b) p q = p
  array_down (ClassType c) (ReferenceArray b) p q = p
  array_down (PrimitiveArray a) t p q = refl
  array_down (ReferenceArray a) t p q = refl

  byte_down : (a b : Primitive) → (primitive_number a == primitive_number b) ≡ true → is_byte_or_boolean b ≡ true
      → is_byte_or_boolean a ≡ true
  byte_down Boolean b p q = refl
  byte_down Byte b p q = refl
  byte_down Char Boolean p q = p
  byte_down Char Char p q = q
  byte_down Char Byte p q = p
  byte_down Char Short p q = q
  byte_down Char Int p q = q
  byte_down Short Boolean p q = p
  byte_down Short Char p q = q
  byte_down Short Byte p q = p
  byte_down Short Short p q = q
  byte_down Short Int p q = q
  byte_down Int Boolean p q = p
  byte_down Int Char p q = q
  byte_down Int Byte p q = p
  byte_down Int Short p q = q
  byte_down Int Int p q = q

  pub byte_array_down : (u t : ReferenceType) → is_assignable files u t ≡ true → is_byte_array_type t ≡ true → is_byte_array_type u ≡ true
  byte_array_down (ClassType c) (ClassType d) p q = q
  byte_array_down (ClassType c) (PrimitiveArray b) p q = p
  byte_array_down (ClassType c) (ReferenceArray b) p q = p
  byte_array_down (PrimitiveArray a) (ClassType d) p q = absurd (false≢true q)
  byte_array_down (PrimitiveArray a) (PrimitiveArray b) p q = byte_down a b p q
  byte_array_down (PrimitiveArray a) (ReferenceArray b) p q = absurd (false≢true q)
  byte_array_down (ReferenceArray a) (ClassType d) p q = q
  byte_array_down (ReferenceArray a) (PrimitiveArray b) p q = p
  byte_array_down (ReferenceArray a) (ReferenceArray b) p q = q

  module _ (rooted : Rooted files) where
    pub assignable_trans : (a b c : ReferenceType) → is_assignable files a b ≡ true → is_assignable files b c ≡ true
        → is_assignable files a c ≡ true
    assignable_trans (ClassType a) (ClassType b) (ClassType c) p q = subclass_trans files rooted a b c p q
    assignable_trans (ClassType a) (ClassType b) (PrimitiveArray c) p q = absurd (false≢true q)
    assignable_trans (ClassType a) (ClassType b) (ReferenceArray c) p q = absurd (false≢true q)
    assignable_trans (ClassType a) (PrimitiveArray b) c p q = absurd (false≢true p)
    assignable_trans (ClassType a) (ReferenceArray b) c p q = absurd (false≢true p)
    assignable_trans (PrimitiveArray a) (ClassType b) (ClassType c) p q = object_above b c p q
    assignable_trans (PrimitiveArray a) (ClassType b) (PrimitiveArray c) p q = absurd (false≢true q)
    assignable_trans (PrimitiveArray a) (ClassType b) (ReferenceArray c) p q = absurd (false≢true q)
    assignable_trans (PrimitiveArray a) (PrimitiveArray b) (ClassType c) p q = q
    assignable_trans (PrimitiveArray a) (PrimitiveArray b) (PrimitiveArray c) p q =
        eq-eqb (primitive_number a) (primitive_number c) (eqb-true (primitive_number a) (primitive_number b) p ∙ eqb-true (primitive_number b) (primitive_number c) q)
    assignable_trans (PrimitiveArray a) (PrimitiveArray b) (ReferenceArray c) p q = absurd (false≢true q)
    assignable_trans (PrimitiveArray a) (ReferenceArray b) c p q = absurd (false≢true p)
    assignable_trans (ReferenceArray a) (ClassType b) (ClassType c) p q = object_above b c p q
    assignable_trans (ReferenceArray a) (ClassType b) (PrimitiveArray c) p q = absurd (false≢true q)
    assignable_trans (ReferenceArray a) (ClassType b) (ReferenceArray c) p q = absurd (false≢true q)
    assignable_trans (ReferenceArray a) (PrimitiveArray b) c p q = absurd (false≢true p)
    assignable_trans (ReferenceArray a) (ReferenceArray b) (ClassType c) p q = q
    assignable_trans (ReferenceArray a) (ReferenceArray b) (PrimitiveArray c) p q = absurd (false≢true q)
    assignable_trans (ReferenceArray a) (ReferenceArray b) (ReferenceArray c) p q = assignable_trans a b c p q

    object_on : (o : Option ReferenceType) (s t : ReferenceType) → is_assignable files s t ≡ true → is_object_below files s o ≡ true
        → is_object_below files t o ≡ true
    object_on None s t p q = q
    object_on (Some u) s t p q = assignable_trans u s t q p

    module _ (objects : List ReferenceType) where
      below_on : (s t : ReferenceType) (v : Value) → is_assignable files s t ≡ true → is_value_below files objects s v ≡ true
          → is_value_below files objects t v ≡ true
      below_on s t value.Unset p q = q
      below_on s t (value.Int bits) p q = q
      below_on s t value.Null p q = q
      below_on s t (value.Reference r) p q = object_on (slice_get objects r) s t p q

      null_below : (t : ReferenceType) (v : Value) → is_null_value v ≡ true → is_value_below files objects t v ≡ true
      null_below t value.Unset q = q
      null_below t (value.Int bits) q = q
      null_below t value.Null q = q
      null_below t (value.Reference r) q = absurd (false≢true q)

      of_class : (c d : Name) (v : Value) → name_eq c d ≡ true → is_value_below files objects (ClassType c) v ≡ true
          → is_value_below files objects (ClassType d) v ≡ true
      of_class c d v e q = subst (λ n. is_value_below files objects (ClassType n) v ≡ true) (names_same c d e) q

      made_same : (at : ℕ) (c : Name) (s : VerificationType) (v : Value) → is_uninitialised at c s ≡ true
          → has_type files objects s v ≡ true → is_value_below files objects (ClassType c) v ≡ true
      made_same at c Unusable v p q = absurd (false≢true p)
      made_same at c IntType v p q = absurd (false≢true p)
      made_same at c NullType v p q = absurd (false≢true p)
      made_same at c (OfType t) v p q = absurd (false≢true p)
      made_same at c (Uninitialised b d) v p q = of_class d c v (and_parts _ _ p).1 q
      made_same at c (UninitialisedThis d) v p q = absurd (false≢true p)

      this_same : (c : Name) (s : VerificationType) (v : Value) → is_uninitialised_this c s ≡ true → has_type files objects s v ≡ true
          → is_value_below files objects (ClassType c) v ≡ true
      this_same c Unusable v p q = absurd (false≢true p)
      this_same c IntType v p q = absurd (false≢true p)
      this_same c NullType v p q = absurd (false≢true p)
      this_same c (OfType t) v p q = absurd (false≢true p)
      this_same c (Uninitialised b d) v p q = absurd (false≢true p)
      this_same c (UninitialisedThis d) v p q = of_class d c v p q

      int_from : (s : VerificationType) (v : Value) → is_int s ≡ true → has_type files objects s v ≡ true → is_int_value v ≡ true
      int_from Unusable v p q = absurd (false≢true p)
      int_from IntType v p q = q
      int_from NullType v p q = absurd (false≢true p)
      int_from (OfType t) v p q = absurd (false≢true p)
      int_from (Uninitialised at c) v p q = absurd (false≢true p)
      int_from (UninitialisedThis c) v p q = absurd (false≢true p)

      null_from : (s : VerificationType) (v : Value) → is_null s ≡ true → has_type files objects s v ≡ true → is_null_value v ≡ true
      null_from Unusable v p q = absurd (false≢true p)
      null_from IntType v p q = absurd (false≢true p)
      null_from NullType v p q = q
      null_from (OfType t) v p q = absurd (false≢true p)
      null_from (Uninitialised at c) v p q = absurd (false≢true p)
      null_from (UninitialisedThis c) v p q = absurd (false≢true p)

      of_from : (s : VerificationType) (t : ReferenceType) (v : Value) → is_of files t s ≡ true → has_type files objects s v ≡ true
          → is_value_below files objects t v ≡ true
      of_from Unusable t v p q = absurd (false≢true p)
      of_from IntType t v p q = absurd (false≢true p)
      of_from NullType t v p q = null_below t v q
      of_from (OfType s) t v p q = below_on s t v p q
      of_from (Uninitialised at c) t v p q = absurd (false≢true p)
      of_from (UninitialisedThis c) t v p q = absurd (false≢true p)

      -- what is of a type is of each type above it
      pub stack_above : (s t : VerificationType) (v : Value) → is_stack_below files s t ≡ true → has_type files objects s v ≡ true
          → has_type files objects t v ≡ true
      stack_above s Unusable v p q = refl
      stack_above s IntType v p q = int_from s v p q
      stack_above s NullType v p q = null_from s v p q
      stack_above s (OfType t) v p q = of_from s t v p q
      stack_above s (Uninitialised at c) v p q = made_same at c s v p q
      stack_above s (UninitialisedThis c) v p q = this_same c s v p q

      pub local_above : (s t : VerificationType) (v : Value) → is_local_below files s t ≡ true → has_type files objects s v ≡ true
          → has_type files objects t v ≡ true
      local_above s Unusable v p q = refl
      local_above s IntType v p q = int_from s v p q
      local_above s NullType v p q = null_from s v p q
      local_above s (OfType t) v p q = of_from s t v p q
      local_above s (Uninitialised at c) v p q = made_same at c s v p q
      local_above s (UninitialisedThis c) v p q = this_same c s v p q

      is_reference_below : (t : ReferenceType) (v : Value) → is_value_below files objects t v ≡ true → is_reference_value v ≡ true
      is_reference_below t value.Unset q = q
      is_reference_below t (value.Int bits) q = q
      is_reference_below t value.Null q = q
      is_reference_below t (value.Reference r) q = refl

      is_reference_null : (v : Value) → is_null_value v ≡ true → is_reference_value v ≡ true
      is_reference_null value.Unset q = q
      is_reference_null (value.Int bits) q = q
      is_reference_null value.Null q = q
      is_reference_null (value.Reference r) q = refl

      reference_from : (s : VerificationType) (v : Value) → is_reference s ≡ true → has_type files objects s v ≡ true
          → is_reference_value v ≡ true
      reference_from Unusable v p q = absurd (false≢true p)
      reference_from IntType v p q = absurd (false≢true p)
      reference_from NullType v p q = is_reference_null v q
      reference_from (OfType t) v p q = is_reference_below t v q
      reference_from (Uninitialised at c) v p q = is_reference_below (ClassType c) v q
      reference_from (UninitialisedThis c) v p q = is_reference_below (ClassType c) v q

      -- the direct superclass is above
      super_above : (o : Option Name) (c d : Name) → superclass_of files c ≡ o → spells o d ≡ true → is_subclass files c d ≡ true
      super_above None c d e q = absurd (false≢true q)
      super_above (Some s) c d e q =
          within_subclass files rooted 1 c d (or_right (name_eq c d) _ (subst (λ o. option_map_or (λ s. is_within files 0 s d) o false ≡ true) (sym e) q))

      receiver_from : (class : Name) (s : VerificationType) (v : Value) → is_receiver files class s ≡ true
          → has_type files objects s v ≡ true → is_value_below files objects (ClassType class) v ≡ true
      receiver_from class Unusable v p q = absurd (false≢true p)
      receiver_from class IntType v p q = absurd (false≢true p)
      receiver_from class NullType v p q = absurd (false≢true p)
      receiver_from class (OfType t) v p q = absurd (false≢true p)
      receiver_from class (Uninitialised at c) v p q = of_class c class v p q
      receiver_from class (UninitialisedThis c) v p q =
          ⊎_elim (λ e. of_class c class v e q) (λ e. below_on (ClassType c) (ClassType class)
          v (super_above (superclass_of files c) c class refl e) q) (or_cases _ _ p)

      owner_from : (class : Name) (s : VerificationType) (v : Value) → is_instance_or_this files class s ≡ true
          → has_type files objects s v ≡ true → is_value_below files objects (ClassType class) v ≡ true
      owner_from class Unusable v p q = absurd (false≢true p)
      owner_from class IntType v p q = absurd (false≢true p)
      owner_from class NullType v p q = null_below (ClassType class) v q
      owner_from class (OfType t) v p q = below_on t (ClassType class) v p q
      owner_from class (Uninitialised at c) v p q = absurd (false≢true p)
      owner_from class (UninitialisedThis c) v p q = of_class c class v p q

      module _ (test : ReferenceType → Bool) (down : (u t : ReferenceType) → is_assignable files u t ≡ true → test t ≡ true → test u ≡ true) where
        object_with : (o : Option ReferenceType) (t : ReferenceType) → test t ≡ true → is_object_below files t o ≡ true
            → option_map_or test o false ≡ true
        object_with None t p q = absurd (false≢true q)
        object_with (Some u) t p q = down u t q p

        below_with : (t : ReferenceType) (v : Value) → test t ≡ true → is_value_below files objects t v ≡ true
            → is_value_with objects test v ≡ true
        below_with t value.Unset p q = q
        below_with t (value.Int bits) p q = q
        below_with t value.Null p q = q
        below_with t (value.Reference r) p q = object_with (slice_get objects r) t p q

        null_with : (v : Value) → is_null_value v ≡ true → is_value_with objects test v ≡ true
        null_with value.Unset q = q
        null_with (value.Int bits) q = q
        null_with value.Null q = q
        null_with (value.Reference r) q = absurd (false≢true q)

        with_from : (s : VerificationType) (v : Value) → has_type_with test s ≡ true → has_type files objects s v ≡ true
            → is_value_with objects test v ≡ true
        with_from Unusable v p q = absurd (false≢true p)
        with_from IntType v p q = absurd (false≢true p)
        with_from NullType v p q = null_with v q
        with_from (OfType t) v p q = below_with t v p q
        with_from (Uninitialised at c) v p q = absurd (false≢true p)
        with_from (UninitialisedThis c) v p q = absurd (false≢true p)

      -- where the verifier finds what is wanted, the run does
      pub meets_both : (w : Want) (s : VerificationType) (v : Value) → type_meets files w s ≡ true → has_type files objects s v ≡ true
          → value_meets files objects w v ≡ true
      meets_both AnyWord s v p q = refl
      meets_both AnInt s v p q = int_from s v p q
      meets_both AnyReference s v p q = reference_from s v p q
      meets_both (AReference t) s v p q = of_from s t v p q
      meets_both (AReceiver class) s v p q = receiver_from class s v p q
      meets_both (AnOwner class) s v p q = owner_from class s v p q
      meets_both AnArray s v p q = with_from is_array_type array_down s v p q
      meets_both AByteArray s v p q = with_from is_byte_array_type byte_array_down s v p q

      -- what is forgotten or initialised goes on being of its type
      pub forgotten_typed : (offset : ℕ) (s : VerificationType) (v : Value) → has_type files objects s v ≡ true
          → has_type files objects (forgotten offset s) v ≡ true
      forgotten_typed offset s v q = cond_both (is_made_at offset s) _ _ (λ t. has_type files objects t v ≡ true) (λ e. refl) (λ e. q)

      pub initialised_typed : (of s : VerificationType) (v : Value) → has_type files objects s v ≡ true
          → has_type files objects (initialised of s) v ≡ true
      initialised_typed Unusable s v q = q
      initialised_typed IntType s v q = q
      initialised_typed NullType s v q = q
      initialised_typed (OfType t) s v q = q
      initialised_typed (Uninitialised at c) s v q = cond_both (is_uninitialised at c s) _ _ (λ t. has_type files objects t v ≡ true) (λ e. made_same at c s v e q) (λ e. q)
      initialised_typed (UninitialisedThis c) s v q = cond_both (is_uninitialised_this c s) _ _ (λ t. has_type files objects t v ≡ true) (λ e. this_same c s v e q) (λ e. q)

-- ---- more objects change nothing of what has a type

object_more : (files : Program) (os ps : List ReferenceType) → Extends os ps → (r : ℕ) (t : ReferenceType) (o : Option ReferenceType)
    → slice_get os r ≡ o → is_object_below files t o ≡ true → is_object_below files t (slice_get ps r) ≡ true
object_more files os ps x r t None e q = absurd (false≢true q)
object_more files os ps x r t (Some u) e q = subst (λ o. is_object_below files t o ≡ true) (sym (x.keeps r u e)) q

below_more : (files : Program) (os ps : List ReferenceType) → Extends os ps → (t : ReferenceType) (v : Value)
    → is_value_below files os t v ≡ true → is_value_below files ps t v ≡ true
below_more files os ps x t value.Unset q = q
below_more files os ps x t (value.Int bits) q = q
below_more files os ps x t value.Null q = q
below_more files os ps x t (value.Reference r) q = object_more files os ps x r t (slice_get os r) refl q

pub has_type_more : (files : Program) (os ps : List ReferenceType) → Extends os ps → (t : VerificationType) (v : Value)
    → has_type files os t v ≡ true → has_type files ps t v ≡ true
has_type_more files os ps x Unusable v q = q
has_type_more files os ps x IntType v q = q
has_type_more files os ps x NullType v q = q
has_type_more files os ps x (OfType t) v q = below_more files os ps x t v q
has_type_more files os ps x (Uninitialised at c) v q = below_more files os ps x (ClassType c) v q
has_type_more files os ps x (UninitialisedThis c) v q = below_more files os ps x (ClassType c) v q
