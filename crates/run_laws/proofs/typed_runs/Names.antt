-- The fields of a Thread that name it: what is set keeps an object typed, and the name of a Thread in a well-typed heap is null or a
-- reference to a String.
use Rattle.std.proofs.Common.{◌≡◌, ℕ, List, true, Some, refl, sym, subst}
use Rattle.std.proofs.lemmas.Bool.{false≢true}
use Rattle.model.specs.declared.value.Value.{Value}
use Rattle.model.specs.declared.value.Value.TheVariants as value
use Rattle.model.specs.Names.{thread_name, thread_ordinal, thread_target, java_lang_string, java_lang_runnable}
use Rattle.model.specs.BuiltIn.{built_in_classes}
use Rattle.model.specs.Classes.{Program}
use Rattle.model.specs.DescriptorScan.{field_type, field_at, element_at}
use Rattle.model.specs.DescribedTypes.{field_declared, verification_type, made_type}
use Rattle.model.specs.ReferenceTypes.{ReferenceType, ClassType}
use Rattle.model.specs.Types.{OfType, IntType}
use Rattle.model.specs.Operands.{values, word_of, reference_of, word_reference}
use Rattle.model.specs.State.{ObjectOf, types_of, World}
use Rattle.model.specs.Opening.{first_of}
use Rattle.model.specs.Worlds.{object_at, fields_of, value_in, with_field}
use Rattle.model.specs.ThreadNames.{kept_name}
use Rattle.model.specs.WellTyped.{has_type, is_object_typed}
use Rattle.run_laws.proofs.typed_runs.Objects.{HeapTyped, value_in_typed}
use Rattle.run_laws.proofs.typed_runs.Instructions.{fields_typed, with_field_typed, at_typed}

-- ---- what the fields hold

name_type : (files : Program) → verification_type files (field_declared thread_name.descriptor) ≡ OfType (ClassType java_lang_string)
unfolding field_type field_at element_at built_in_classes
name_type files = refl

ordinal_type : (files : Program) → verification_type files (field_declared thread_ordinal.descriptor) ≡ IntType
unfolding field_type field_at element_at built_in_classes
ordinal_type files = refl

target_type : (files : Program) → verification_type files (field_declared thread_target.descriptor) ≡ OfType (made_type files (ClassType java_lang_runnable))
unfolding field_type field_at element_at
target_type files = refl

name_first : first_of values thread_name ≡ value.Null
unfolding field_type field_at element_at
name_first = refl

module _ (files : Program) (os : List ReferenceType) where
  -- a String or null becomes the name
  pub name_typed : (v : Value) (o : ObjectOf Value) → has_type files os (OfType (ClassType java_lang_string)) v ≡ true
      → is_object_typed files os o ≡ true → is_object_typed files os (with_field thread_name v o) ≡ true
  name_typed v o q h = with_field_typed files os thread_name v o (subst (λ t. has_type files os t v ≡ true) (sym (name_type files)) q) h

  -- an int becomes the number
  pub ordinal_typed : (bits : ℕ) (o : ObjectOf Value) → is_object_typed files os o ≡ true
      → is_object_typed files os (with_field thread_ordinal (value.Int bits) o) ≡ true
  ordinal_typed bits o h =
      with_field_typed files os thread_ordinal (value.Int bits) o (subst (λ t. has_type files os t (value.Int bits) ≡ true) (sym (ordinal_type files)) refl) h

  -- a Runnable or null becomes the target
  pub target_typed : (v : Value) (o : ObjectOf Value) → has_type files os (OfType (made_type files (ClassType java_lang_runnable))) v ≡ true
      → is_object_typed files os o ≡ true → is_object_typed files os (with_field thread_target v o) ≡ true
  target_typed v o q h = with_field_typed files os thread_target v o (subst (λ t. has_type files os t v ≡ true) (sym (target_type files)) q) h

  pub kept_name_typed : (o : ObjectOf Value) → is_object_typed files os o ≡ true
      → has_type files os (OfType (ClassType java_lang_string)) (kept_name values o) ≡ true
  kept_name_typed o h =
      subst (λ t. has_type files os t (kept_name values o) ≡ true) (name_type files)
      (subst (λ v. has_type files os (verification_type files (field_declared thread_name.descriptor)) (value_in v thread_name (fields_of o)) ≡ true) name_first
      (value_in_typed files os thread_name (fields_of o) (fields_typed files os o h)))

  -- what refers to something is what it refers to
  pub referred_typed : (v : Value) (r : ℕ) → reference_of v ≡ Some r → has_type files os (OfType (ClassType java_lang_string)) v ≡ true
      → has_type files os (OfType (ClassType java_lang_string)) (value.Reference r) ≡ true
  referred_typed value.Unset r e h = absurd cc
  referred_typed (value.Int bits) r e h = absurd cc
  referred_typed value.Null r e h = absurd cc
  referred_typed (value.Reference s) r e h = let same : s ≡ r = cc in subst (λ k. has_type files os (OfType (ClassType java_lang_string)) (value.Reference k) ≡ true) same h

-- what is a String or null by its type is so by its word
pub told : (files : Program) (os : List ReferenceType) (v : Value) → has_type files os (OfType (ClassType java_lang_string)) v ≡ true
    → word_reference (word_of v) ≡ reference_of v
told files os value.Unset h = absurd (false≢true h)
told files os (value.Int bits) h = absurd (false≢true h)
told files os value.Null h = refl
told files os (value.Reference r) h = refl

pub names_kept : (files : Program) (world : World) → HeapTyped files world.heap → (r : ℕ)
    → word_reference (word_of (kept_name values (object_at world r))) ≡ reference_of (kept_name values (object_at world r))
names_kept files world h r =
    let os = types_of world.heap in
    told files os (kept_name values (object_at world r)) (kept_name_typed files os (object_at world r) (at_typed files os world.heap r h))
