-- The verifier's types, and what an instruction wants of a word (JVMS 4.10.1.2, 4.10.1.4).
use Rattle.std.specs.Prelude.{ℕ, List, Option, Some, None, Bool, true, false, ◌||◌, slice_get}
use Rattle.std.specs.Option.{option_map_or}
use Rattle.model.specs.Names.{Name, name_eq, spells}
use Rattle.model.specs.Classes.{Program, superclass_of}
use Rattle.model.specs.ReferenceTypes.{Primitive, Boolean, Char, Byte, Short, Int, ReferenceType, ClassType, PrimitiveArray, ReferenceArray, is_subtype, is_assignable}
use Rattle.model.specs.declared.value.Value.{Value}
use Rattle.model.specs.declared.value.Value.TheVariants as value

pub data VerificationType : Type 0 where
  -- of a local variable alone
  Unusable : VerificationType
  IntType : VerificationType
  NullType : VerificationType
  OfType : (type : ReferenceType) → VerificationType
  -- what the `new` at an offset made, of the class that it names
  Uninitialised : (at : ℕ) (class : Name) → VerificationType
  -- the receiver of a constructor of a class, until another constructor was called on it
  UninitialisedThis : (class : Name) → VerificationType

-- what an instruction wants of a local variable or of a place of the operand stack
pub data Want : Type 0 where
  -- any word of the stack
  AnyWord : Want
  AnInt : Want
  -- a reference that is only moved, initialised or not
  AnyReference : Want
  -- a reference of a type, or null
  AReference : (type : ReferenceType) → Want
  -- the receiver of a constructor of a class
  AReceiver : (class : Name) → Want
  -- the object whose field is put, where a class declares the field and the instruction names that class
  AnOwner : (class : Name) → Want
  -- an array, or null
  AnArray : Want
  -- an array of bytes or one of booleans, or null
  AByteArray : Want

-- ---- over types

abbrev pub is_usable : VerificationType → Bool
is_usable Unusable = false
is_usable IntType = true
is_usable NullType = true
is_usable (OfType t) = true
is_usable (Uninitialised at c) = true
is_usable (UninitialisedThis c) = true

abbrev pub is_int : VerificationType → Bool
is_int Unusable = false
is_int IntType = true
is_int NullType = false
is_int (OfType t) = false
is_int (Uninitialised at c) = false
is_int (UninitialisedThis c) = false

abbrev pub is_reference : VerificationType → Bool
is_reference Unusable = false
is_reference IntType = false
is_reference NullType = true
is_reference (OfType t) = true
is_reference (Uninitialised at c) = true
is_reference (UninitialisedThis c) = true

abbrev pub is_of : Program → ReferenceType → VerificationType → Bool
is_of files want Unusable = false
is_of files want IntType = false
is_of files want NullType = true
is_of files want (OfType t) = is_assignable files t want
is_of files want (Uninitialised at c) = false
is_of files want (UninitialisedThis c) = false

-- what is not initialised and may get a call of a constructor of the class (JVMS 4.10.1.9, invokespecial): what a `new` of
-- that class made, or `this` in a constructor of that class or of a direct subclass
abbrev pub is_receiver : Program → Name → VerificationType → Bool
is_receiver files class Unusable = false
is_receiver files class IntType = false
is_receiver files class NullType = false
is_receiver files class (OfType t) = false
is_receiver files class (Uninitialised at c) = name_eq c class
is_receiver files class (UninitialisedThis c) = name_eq c class || spells (superclass_of files c) class

-- an object of the class, or `this` in a constructor of the class (JVMS 4.10.1.9, putfield)
abbrev pub is_instance_or_this : Program → Name → VerificationType → Bool
is_instance_or_this files class Unusable = false
is_instance_or_this files class IntType = false
is_instance_or_this files class NullType = true
is_instance_or_this files class (OfType t) = is_assignable files t (ClassType class)
is_instance_or_this files class (Uninitialised at c) = false
is_instance_or_this files class (UninitialisedThis c) = name_eq c class

abbrev pub is_array_type : ReferenceType → Bool
is_array_type (ClassType c) = false
is_array_type (PrimitiveArray of) = true
is_array_type (ReferenceArray of) = true

abbrev pub is_byte_or_boolean : Primitive → Bool
is_byte_or_boolean Boolean = true
is_byte_or_boolean Char = false
is_byte_or_boolean Byte = true
is_byte_or_boolean Short = false
is_byte_or_boolean Int = false

abbrev pub is_byte_array_type : ReferenceType → Bool
is_byte_array_type (ClassType c) = false
is_byte_array_type (PrimitiveArray of) = is_byte_or_boolean of
is_byte_array_type (ReferenceArray of) = false

-- null, or an initialised reference whose type passes a test
abbrev pub has_type_with : (ReferenceType → Bool) → VerificationType → Bool
has_type_with test Unusable = false
has_type_with test IntType = false
has_type_with test NullType = true
has_type_with test (OfType t) = test t
has_type_with test (Uninitialised at c) = false
has_type_with test (UninitialisedThis c) = false

-- a type is as wanted
abbrev pub type_meets : Program → Want → VerificationType → Bool
type_meets files AnyWord t = is_usable t
type_meets files AnInt t = is_int t
type_meets files AnyReference t = is_reference t
type_meets files (AReference want) t = is_of files want t
type_meets files (AReceiver class) t = is_receiver files class t
type_meets files (AnOwner class) t = is_instance_or_this files class t
type_meets files AnArray t = has_type_with is_array_type t
type_meets files AByteArray t = has_type_with is_byte_array_type t

-- ---- over values

abbrev pub is_int_value : Value → Bool
is_int_value value.Unset = false
is_int_value (value.Int bits) = true
is_int_value value.Null = false
is_int_value (value.Reference r) = false

abbrev pub is_reference_value : Value → Bool
is_reference_value value.Unset = false
is_reference_value (value.Int bits) = false
is_reference_value value.Null = true
is_reference_value (value.Reference r) = true

-- an object is there, and is an instance of a type (JVMS 6.5, instanceof), by its own type
abbrev pub is_object_of : Program → ReferenceType → Option ReferenceType → Bool
is_object_of files want None = false
is_object_of files want (Some t) = is_subtype files t want

-- null, or a reference to an instance of a type, by the types of the objects
abbrev pub is_value_of : Program → List ReferenceType → ReferenceType → Value → Bool
is_value_of files objects want value.Unset = false
is_value_of files objects want (value.Int bits) = false
is_value_of files objects want value.Null = true
is_value_of files objects want (value.Reference r) = is_object_of files want (slice_get objects r)

-- the same by the order of the verifier, which looks at superclasses alone
abbrev pub is_object_below : Program → ReferenceType → Option ReferenceType → Bool
is_object_below files want None = false
is_object_below files want (Some t) = is_assignable files t want

abbrev pub is_value_below : Program → List ReferenceType → ReferenceType → Value → Bool
is_value_below files objects want value.Unset = false
is_value_below files objects want (value.Int bits) = false
is_value_below files objects want value.Null = true
is_value_below files objects want (value.Reference r) = is_object_below files want (slice_get objects r)

-- null, or a reference to an object whose type passes a test
abbrev pub is_value_with : List ReferenceType → (ReferenceType → Bool) → Value → Bool
is_value_with objects test value.Unset = false
is_value_with objects test (value.Int bits) = false
is_value_with objects test value.Null = true
is_value_with objects test (value.Reference r) = option_map_or test (slice_get objects r) false

-- a value is as wanted; what a constructor or a put takes is of the class
abbrev pub value_meets : Program → List ReferenceType → Want → Value → Bool
value_meets files objects AnyWord v = true
value_meets files objects AnInt v = is_int_value v
value_meets files objects AnyReference v = is_reference_value v
value_meets files objects (AReference want) v = is_value_below files objects want v
value_meets files objects (AReceiver class) v = is_value_below files objects (ClassType class) v
value_meets files objects (AnOwner class) v = is_value_below files objects (ClassType class) v
value_meets files objects AnArray v = is_value_with objects is_array_type v
value_meets files objects AByteArray v = is_value_with objects is_byte_array_type v
