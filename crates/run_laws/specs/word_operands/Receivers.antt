-- What the object is to which an instruction is done, at the words of a well-typed state (JVMS 4.10.1.9, 6.5): null, or there and
-- of the class or kind that the instruction needs.
use Rattle.std.specs.Prelude.{◌≡◌, ℕ, zero, suc, ◌<◌, List, Option, Some, None, Bool, true, false, length, slice_get, slice_index_or, IsTrue, IsFalse, ◌||◌}
use Rattle.std.specs.Option.{option_map, option_map_or, option_and_then}
use Rattle.model.specs.declared.instr.ArrayKind.{ArrayKind}
use Rattle.model.specs.declared.instr.ArrayKind.TheVariants as array_kind
use Rattle.model.specs.declared.instr.FieldAccess.TheVariants as access
use Rattle.model.specs.declared.instr.Instr.{Instr}
use Rattle.model.specs.declared.instr.Instr.TheVariants as instr
use Rattle.model.specs.declared.instr.Invocation.TheVariants as invocation
use Rattle.model.specs.DescriptorParts.{is_array_class}
use Rattle.model.specs.Names.{Name, name_eq, Member, java_lang_object, java_lang_throwable, java_lang_string}
use Rattle.model.specs.Pool.{field_at, method_at, interface_method_at}
use Rattle.model.specs.Classes.{Program, Body, body_of, is_interface, is_subclass}
use Rattle.model.specs.Lookup.{find_field, field_of, is_instance_field}
use Rattle.model.specs.Linkable.{IsLinkable}
use Rattle.model.specs.ReferenceTypes.{Primitive, Char, Short, Int, ReferenceType, ClassType, is_assignable}
use Rattle.model.specs.DescribedTypes.{made_type}
use Rattle.model.specs.Types.{is_byte_or_boolean}
use Rattle.model.specs.State.{ObjectOf, Instance, Primitives, References, FrameOf, StateOf, Characters}
use Rattle.model.specs.Worlds.{class_of_object}
use Rattle.model.specs.Calls.{parameter_count}
use Rattle.model.specs.Sites.{Site, site_at}
use Rattle.model.specs.Words.{AreWellTypedWords}
use Rattle.run_laws.specs.word_operands.Operands.{IsOnTop}

-- ---- what an object is

-- an instance of the class or of one below it
abbrev pub is_instance_below : {A : Type 0} → Program → Name → ObjectOf A → Bool
is_instance_below files class (Instance own fields) = is_subclass files own class
is_instance_below files class (Primitives of elements) = false
is_instance_below files class (References of elements) = false
is_instance_below files class (Characters text) = is_subclass files java_lang_string class

-- the class whose methods it has, which is Object for an array, is the class or below it
abbrev pub has_class_below : {A : Type 0} → Program → Name → ObjectOf A → Bool
has_class_below files class object = is_subclass files (class_of_object object) class

abbrev pub is_array : {A : Type 0} → ObjectOf A → Bool
is_array (Instance class fields) = false
is_array (Primitives of elements) = true
is_array (References of elements) = true
is_array (Characters text) = false

-- of the arrays of primitives that the loads and stores of a kind are for
abbrev pub holds_kind : ArrayKind → Primitive → Bool
holds_kind array_kind.Reference of = false
holds_kind array_kind.ByteOrBoolean of = is_byte_or_boolean of
holds_kind array_kind.Int Int = true
holds_kind array_kind.Int other = false
holds_kind array_kind.Char Char = true
holds_kind array_kind.Char other = false
holds_kind array_kind.Short Short = true
holds_kind array_kind.Short other = false

abbrev pub is_reference_kind : ArrayKind → Bool
is_reference_kind array_kind.Reference = true
is_reference_kind array_kind.ByteOrBoolean = false
is_reference_kind array_kind.Int = false
is_reference_kind array_kind.Char = false
is_reference_kind array_kind.Short = false

-- an array of the kind
abbrev pub is_array_of : {A : Type 0} → ArrayKind → ObjectOf A → Bool
is_array_of kind (Instance class fields) = false
is_array_of kind (Primitives of elements) = holds_kind kind of
is_array_of kind (References of elements) = is_reference_kind kind
is_array_of kind (Characters text) = false

abbrev pub is_any : {A : Type 0} → ObjectOf A → Bool
is_any object = true

-- ---- the object of an instruction

-- which operand it is, counted from the top of the stack, and what it is if it is not null
pub record Receiver : Type 0 where
  pub operand : ℕ
  pub is : ObjectOf ℕ → Bool

abbrev pub receiver : ℕ → (ObjectOf ℕ → Bool) → Receiver
receiver operand is = record { operand = operand; is = is }

-- an object that has the field that is named
abbrev pub with_field_at : Program → Site → ℕ → ℕ → Option Receiver
with_field_at files site operand index =
    option_map (λ (field : Member). receiver operand (is_instance_below files field.class)) (option_and_then (find_field files) (field_at site.body.pool index))

-- an object of the class that a call names; the last parameter is on top
abbrev pub with_method_at : Program → Site → ℕ → Option Receiver
with_method_at files site index =
    option_map (λ (named : Member). receiver (parameter_count named) (has_class_below files named.class)) (method_at site.body.pool index)

-- the same for an invokevirtual, or any object where that names an array class, whose methods are Object's
abbrev pub is_called_on : {A : Type 0} → Program → Name → ObjectOf A → Bool
is_called_on files class object = is_array_class class || has_class_below files class object

abbrev pub with_virtual_at : Program → Site → ℕ → Option Receiver
with_virtual_at files site index =
    option_map (λ (named : Member). receiver (parameter_count named) (is_called_on files named.class)) (method_at site.body.pool index)

-- any object for a call on an interface, which the verifier takes for Object (JVMS 4.10.1.2)
abbrev pub with_interface_at : Site → ℕ → Option Receiver
with_interface_at site index = option_map (λ (named : Member). receiver (parameter_count named) is_any) (interface_method_at site.body.pool index)

-- the object of the instruction of a site, if it has one
abbrev pub receiver_of : Program → Site → Instr → Option Receiver
receiver_of files site (instr.Field access.GetField index) = with_field_at files site 0 index
receiver_of files site (instr.Field access.PutField index) = with_field_at files site 1 index
receiver_of files site (instr.Invoke invocation.Virtual index) = with_virtual_at files site index
receiver_of files site (instr.Invoke invocation.Special index) = with_method_at files site index
receiver_of files site (instr.InvokeInterface index count last) = with_interface_at site index
receiver_of files site instr.ArrayLength = Some (receiver 0 is_array)
receiver_of files site (instr.LoadElement kind) = Some (receiver 1 (is_array_of kind))
receiver_of files site (instr.StoreElement kind) = Some (receiver 2 (is_array_of kind))
receiver_of files site (instr.CheckCast index) = Some (receiver 0 is_any)
receiver_of files site (instr.InstanceOf index) = Some (receiver 0 is_any)
receiver_of files site instr.Throw = Some (receiver 0 (is_instance_below files java_lang_throwable))
receiver_of files site instr.MonitorEnter = Some (receiver 0 is_any)
receiver_of files site instr.MonitorExit = Some (receiver 0 is_any)
receiver_of files site _ = None

-- 0, which is null, or the word of a reference to an object that is there and passes a test
abbrev pub is_null_or : {A : Type 0} → List (ObjectOf A) → (ObjectOf A → Bool) → ℕ → Bool
is_null_or heap test zero = true
is_null_or heap test (suc r) = option_map_or test (slice_get heap r) false

-- the operand is on the stack, and is null or such an object
pub record IsReceived (heap : List (ObjectOf ℕ)) (stack : List ℕ) (of : Receiver) : Type 0 where
  pub there : of.operand < length stack
  pub fits : IsTrue (is_null_or heap of.is (slice_index_or stack of.operand 0))

-- so is the object of the instruction of each frame that is on top, at words of a well-typed state of files that link
abbrev pub AreReceived : Type 0
AreReceived =
    (files : List (List ℕ)) (trees : Program) → IsLinkable files trees → (state : StateOf ℕ) → AreWellTypedWords trees state
    → (t : ℕ) (frame : FrameOf ℕ) → IsOnTop state t frame
    → (body : Body) (site : Site) (of : Receiver)
    → body_of trees frame.method ≡ Some body → site_at frame.method body frame.place.offset ≡ Some site
    → receiver_of trees site site.instr ≡ Some of
    → IsReceived state.world.heap frame.place.slots.stack of

-- ---- the classes of instance fields (JVMS 5.4.3.2)

-- what the verifier takes for an object of the type is an instance of the class or of one below it
abbrev pub AreInstances : Program → ReferenceType → Name → Type 0
AreInstances files type class =
    (t : ReferenceType) → IsTrue (is_assignable files t type) → (own : Name) × (t ≡ ClassType own) × IsTrue (is_subclass files own class)

-- what a reference that names an instance field names: a class that is no interface and not Object, and is the one that declares
-- the field or below it
pub record NamesField (files : Program) (named field : Member) : Type 0 where
  pub name : field.name ≡ named.name
  pub descriptor : field.descriptor ≡ named.descriptor
  pub no_object : IsFalse (name_eq named.class java_lang_object)
  pub no_interface : IsFalse (is_interface files named.class)
  pub below : IsTrue (is_subclass files named.class field.class)
  -- so each object that may come to be a receiver has the field, `this` of a constructor among them
  pub receivers : AreInstances files (made_type files (ClassType named.class)) field.class
  pub own : AreInstances files (ClassType named.class) field.class

-- so does each reference that finds an instance field, in files that link
abbrev pub AreFieldsOfClasses : Type 0
AreFieldsOfClasses =
    (files : List (List ℕ)) (trees : Program) → IsLinkable files trees → (named field : Member)
    → find_field trees named ≡ Some field → IsTrue (option_map_or is_instance_field (field_of trees field) false)
    → NamesField trees named field
