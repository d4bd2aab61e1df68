-- The fields of a Throwable: what a constructor sets keeps an object typed, and so does what the machine sets of an exception that
-- it makes.
use Rattle.std.proofs.Common.{◌≡◌, ℕ, List, [], ◌∷◌, true, Option, Some, None, refl, sym, ap, ◌∙◌, subst}
use Rattle.std.specs.Prelude.{slice_get, slice_set, zero, suc}
use Rattle.model.specs.declared.value.Value.{Value}
use Rattle.model.specs.declared.value.Value.TheVariants as value
use Rattle.model.specs.Names.{java_lang_string, java_lang_throwable, throwable_message, throwable_cause}
use Rattle.model.specs.BuiltIn.{built_in_classes}
use Rattle.model.specs.Classes.{Program}
use Rattle.model.specs.DescriptorScan.{field_type, field_at, element_at}
use Rattle.model.specs.DescribedTypes.{field_declared, verification_type}
use Rattle.model.specs.ReferenceTypes.{ReferenceType, ClassType}
use Rattle.model.specs.StringConstants.{division_text}
use Rattle.model.specs.Types.{OfType, is_object_below}
use Rattle.model.specs.Operands.{values}
use Rattle.model.specs.State.{ObjectOf, type_of, types_of, World}
use Rattle.model.specs.Opening.{first_instance, string_reference, opening_heap}
use Rattle.model.specs.Outcomes.{MachineException, exception_class, NullPointer, Arithmetic, ArrayIndexOutOfBounds, StringIndexOutOfBounds, NegativeArraySize, CloneNotSupported, ArrayStore, ClassCast, IllegalMonitorState, IllegalThreadState, InterruptedWait, IncompatibleClassChange, AbstractMethod, StackOverflow, NoClassDefFound, ExceptionInInitializer}
use Rattle.model.specs.MachineExceptions.{message_of, with_message, with_cause, machine_exception}
use Rattle.model.specs.Worlds.{object_at, with_object, with_field}
use Rattle.model.specs.WellTyped.{has_type, is_object_in, is_object_typed}
use Rattle.run_laws.proofs.laws.LinkedConstants.{division_is_text}
use Rattle.run_laws.proofs.laws.Order.{Extends, assignable_self, has_type_more}
use Rattle.run_laws.proofs.typed_runs.Changes.{Fits}
use Rattle.run_laws.proofs.typed_runs.Objects.{first_instance_typed}
use Rattle.run_laws.proofs.typed_runs.OpeningObjects.{string_there}
use Rattle.run_laws.proofs.typed_runs.WorldChanges.{Keeps, self_keeps, object_keeps}
use Rattle.run_laws.proofs.typed_runs.Instructions.{at_typed, at_there, with_field_typed, with_field_same}

-- ---- what the fields hold

pub message_type : (files : Program) → verification_type files (field_declared throwable_message.descriptor) ≡ OfType (ClassType java_lang_string)
unfolding field_type field_at element_at built_in_classes
message_type files = refl

pub cause_type : (files : Program) → verification_type files (field_declared throwable_cause.descriptor) ≡ OfType (ClassType java_lang_throwable)
unfolding field_type field_at element_at built_in_classes
cause_type files = refl

module _ (files : Program) (os : List ReferenceType) where
  -- a String or null becomes the message
  pub message_typed : (v : Value) (o : ObjectOf Value) → has_type files os (OfType (ClassType java_lang_string)) v ≡ true
      → is_object_typed files os o ≡ true → is_object_typed files os (with_field throwable_message v o) ≡ true
  message_typed v o q h = with_field_typed files os throwable_message v o (subst (λ t. has_type files os t v ≡ true) (sym (message_type files)) q) h

  -- a Throwable or null becomes the cause
  pub cause_typed : (v : Value) (o : ObjectOf Value) → has_type files os (OfType (ClassType java_lang_throwable)) v ≡ true
      → is_object_typed files os o ≡ true → is_object_typed files os (with_field throwable_cause v o) ≡ true
  cause_typed v o q h = with_field_typed files os throwable_cause v o (subst (λ t. has_type files os t v ≡ true) (sym (cause_type files)) q) h

-- ---- an object that is there, or none, is changed

set_absent : {A : Type 0} (xs : List A) (k : ℕ) (x : A) → slice_get xs k ≡ None → slice_set xs k x ≡ xs
set_absent [] k x e = refl
set_absent (y ∷ ys) zero x e = absurd cc
set_absent (y ∷ ys) (suc k) x e = ap (λ l. y ∷ l) (set_absent ys k x e)

pub changed_keeps : (files : Program) (world : World) → Fits files world → (r : ℕ) (change : ObjectOf Value → ObjectOf Value)
    → ((o : ObjectOf Value) → type_of (change o) ≡ type_of o)
    → ((o : ObjectOf Value) → is_object_typed files (types_of world.heap) o ≡ true → is_object_typed files (types_of world.heap) (change o) ≡ true)
    → Keeps files world (with_object world r (change (object_at world r)))
changed_keeps files world fits r change same typed = by (slice_get world.heap r) refl
  where
    by : (o : Option (ObjectOf Value)) → slice_get world.heap r ≡ o → Keeps files world (with_object world r (change (object_at world r)))
    by None e =
        subst (λ h. Keeps files world (record world { heap = h })) (sym (set_absent world.heap r (change (object_at world r)) e)) (self_keeps files world fits)
    by (Some o) e =
        object_keeps files world fits r (object_at world r) (change (object_at world r)) (at_there world.heap r o e) (same (object_at world r))
        (typed (object_at world r) (at_typed files (types_of world.heap) world.heap r fits.heap))

-- ---- exceptions that the machine makes

-- the one message is a constant
message_is : (fault : MachineException) (text : List ℕ) → message_of fault ≡ Some text → division_text ≡ text
message_is NullPointer text e = absurd cc
message_is Arithmetic text e = cc
message_is ArrayIndexOutOfBounds text e = absurd cc
message_is StringIndexOutOfBounds text e = absurd cc
message_is NegativeArraySize text e = absurd cc
message_is CloneNotSupported text e = absurd cc
message_is ArrayStore text e = absurd cc
message_is ClassCast text e = absurd cc
message_is IllegalMonitorState text e = absurd cc
message_is IllegalThreadState text e = absurd cc
message_is InterruptedWait text e = absurd cc
message_is IncompatibleClassChange text e = absurd cc
message_is AbstractMethod text e = absurd cc
message_is StackOverflow text e = absurd cc
message_is NoClassDefFound text e = absurd cc
message_is ExceptionInInitializer text e = absurd cc

-- a cause is a Throwable that is there
abbrev pub IsCause : Program → List ReferenceType → Option ℕ → Type 0
IsCause files os None = Unit {0}
IsCause files os (Some exception) = is_object_in files os java_lang_throwable exception ≡ true

pub cause_more : (files : Program) (os ps : List ReferenceType) → Extends os ps → (cause : Option ℕ) → IsCause files os cause
    → IsCause files ps cause
cause_more files os ps x None is = tt
cause_more files os ps x (Some exception) is = has_type_more files os ps x (OfType (ClassType java_lang_throwable)) (value.Reference exception) is

module _ (files : Program) (os : List ReferenceType) (opened : Extends (types_of (opening_heap values files)) os) where
  division_typed : has_type files os (OfType (ClassType java_lang_string)) (value.Reference (string_reference files division_text)) ≡ true
  division_typed =
      subst (λ o. is_object_below files (ClassType java_lang_string) o ≡ true)
      (sym (opened.keeps (string_reference files division_text) (ClassType java_lang_string) (string_there files division_text (division_is_text files))))
      (assignable_self files (ClassType java_lang_string))

  with_message_typed : (text : Option (List ℕ)) → ((t : List ℕ) → text ≡ Some t → division_text ≡ t) → (o : ObjectOf Value)
      → is_object_typed files os o ≡ true → is_object_typed files os (with_message values files text o) ≡ true
  with_message_typed None only o h = h
  with_message_typed (Some text) only o h =
      message_typed files os (value.Reference (string_reference files text)) o
      (subst (λ t. has_type files os (OfType (ClassType java_lang_string)) (value.Reference (string_reference files t)) ≡ true) (only text refl) division_typed) h

  with_cause_typed : (cause : Option ℕ) → IsCause files os cause → (o : ObjectOf Value) → is_object_typed files os o ≡ true
      → is_object_typed files os (with_cause values cause o) ≡ true
  with_cause_typed None is o h = h
  with_cause_typed (Some exception) is o h = cause_typed files os (value.Reference exception) o is h

  pub exception_typed : (fault : MachineException) (cause : Option ℕ) → IsCause files os cause
      → is_object_typed files os (machine_exception values files fault cause) ≡ true
  exception_typed fault cause is =
      with_cause_typed cause is (with_message values files (message_of fault) (first_instance values files (exception_class fault)))
      (with_message_typed (message_of fault) (message_is fault) (first_instance values files (exception_class fault)) (first_instance_typed files os (exception_class fault)))

with_message_type : (files : Program) (text : Option (List ℕ)) (o : ObjectOf Value) → type_of (with_message values files text o) ≡ type_of o
with_message_type files None o = refl
with_message_type files (Some text) o = with_field_same throwable_message (value.Reference (string_reference files text)) o

with_cause_type : (cause : Option ℕ) (o : ObjectOf Value) → type_of (with_cause values cause o) ≡ type_of o
with_cause_type None o = refl
with_cause_type (Some exception) o = with_field_same throwable_cause (value.Reference exception) o

-- it is of its class
pub exception_type : (files : Program) (fault : MachineException) (cause : Option ℕ)
    → type_of (machine_exception values files fault cause) ≡ ClassType (exception_class fault)
exception_type files fault cause =
    with_cause_type cause (with_message values files (message_of fault) (first_instance values files (exception_class fault)))
    ∙ with_message_type files (message_of fault) (first_instance values files (exception_class fault))
