-- The types that descriptors and class constants name (JVMS 4.3, 4.4.1), and those that the verifier has for them.
use Rattle.std.specs.Prelude.{ℕ, zero, suc, List, [], ◌∷◌, Option, Some, None, ◌==◌, if◌then◌else◌, map}
use Rattle.std.specs.Option.{option_map_or}
use Rattle.model.specs.Names.{Name, java_lang_object}
use Rattle.model.specs.Descriptors.{ElementType, FieldType, MethodType}
use Rattle.model.specs.Descriptors as descriptors
use Rattle.model.specs.DescriptorScan.{field_type, method_type}
use Rattle.model.specs.Classes.{Program, is_interface}
use Rattle.model.specs.ReferenceTypes.{Primitive, ReferenceType, ClassType, PrimitiveArray, ReferenceArray}
use Rattle.model.specs.ReferenceTypes as primitive
use Rattle.model.specs.Types.{VerificationType, Unusable, IntType, NullType, OfType, Uninitialised, UninitialisedThis, Want, AnInt, AReference}

-- ---- what a descriptor declares

-- boolean, byte, char and short are ints for the machine (JVMS 2.11.1)
pub data DeclaredType : Type 0 where
  DeclaredInt : DeclaredType
  DeclaredReference : (type : ReferenceType) → DeclaredType

-- with no dimension; long, float and double are left out of the profile, and stand here as an int (own)
abbrev pub element_declared : ElementType → DeclaredType
element_declared descriptors.Byte = DeclaredInt
element_declared descriptors.Char = DeclaredInt
element_declared descriptors.Double = DeclaredInt
element_declared descriptors.Float = DeclaredInt
element_declared descriptors.Int = DeclaredInt
element_declared descriptors.Long = DeclaredInt
element_declared (descriptors.Object name) = DeclaredReference (ClassType name)
element_declared descriptors.Short = DeclaredInt
element_declared descriptors.Boolean = DeclaredInt

-- an array with one dimension
abbrev pub array_of : ElementType → ReferenceType
array_of descriptors.Byte = PrimitiveArray primitive.Byte
array_of descriptors.Char = PrimitiveArray primitive.Char
array_of descriptors.Double = PrimitiveArray primitive.Int
array_of descriptors.Float = PrimitiveArray primitive.Int
array_of descriptors.Int = PrimitiveArray primitive.Int
array_of descriptors.Long = PrimitiveArray primitive.Int
array_of (descriptors.Object name) = ReferenceArray (ClassType name)
array_of descriptors.Short = PrimitiveArray primitive.Short
array_of descriptors.Boolean = PrimitiveArray primitive.Boolean

-- so many arrays around a type
abbrev pub arrays : ℕ → ReferenceType → ReferenceType
arrays zero t = t
arrays (suc n) t = ReferenceArray (arrays n t)

abbrev pub declared_with : ℕ → ElementType → DeclaredType
declared_with zero element = element_declared element
declared_with (suc n) element = DeclaredReference (arrays n (array_of element))

abbrev pub declared_of : FieldType → DeclaredType
declared_of t = declared_with t.dimensions t.element

-- the type of a field's descriptor (JVMS 4.3.2); a text that is none is refused before this is asked
abbrev pub field_declared : Name → DeclaredType
field_declared descriptor = option_map_or declared_of (field_type descriptor) DeclaredInt

-- the types of the parameters of a method's descriptor, from left to right (JVMS 4.3.3)
abbrev pub parameters_declared : Name → List DeclaredType
parameters_declared descriptor = option_map_or (λ (m : MethodType). map declared_of m.parameters) (method_type descriptor) []

abbrev pub returned_type : Option FieldType → List DeclaredType
returned_type None = []
returned_type (Some t) = declared_of t ∷ []

-- the type of its result; none where it is void
abbrev pub results_declared : Name → List DeclaredType
results_declared descriptor = option_map_or (λ (m : MethodType). returned_type m.returns) (method_type descriptor) []

-- ---- what a class constant names (JVMS 4.4.1)

abbrev pub reference_declared : Name → DeclaredType → ReferenceType
reference_declared name DeclaredInt = ClassType name
reference_declared name (DeclaredReference t) = t

-- a class by its name, and an array by its descriptor
abbrev pub type_named : Name → ReferenceType
type_named [] = ClassType []
type_named (b ∷ bytes) = if b == 91 then reference_declared (b ∷ bytes) (field_declared (b ∷ bytes)) else ClassType (b ∷ bytes)

-- ---- as the verifier has them

-- an interface counts as Object wherever a type is made (JVMS 4.10.1.2), in array types too (own)
abbrev pub made_type : Program → ReferenceType → ReferenceType
made_type files (ClassType c) = ClassType (if is_interface files c then java_lang_object else c)
made_type files (PrimitiveArray of) = PrimitiveArray of
made_type files (ReferenceArray of) = ReferenceArray (made_type files of)

-- of what is declared so
abbrev pub verification_type : Program → DeclaredType → VerificationType
verification_type files DeclaredInt = IntType
verification_type files (DeclaredReference t) = OfType (made_type files t)

-- what an instruction wants that passes a value on to what is declared so
abbrev pub declared_want : Program → DeclaredType → Want
declared_want files DeclaredInt = AnInt
declared_want files (DeclaredReference t) = AReference (made_type files t)

abbrev pub component_of : Program → ReferenceType → VerificationType
component_of files (ClassType c) = NullType
component_of files (PrimitiveArray of) = IntType
component_of files (ReferenceArray of) = OfType (made_type files of)

-- what `aaload` gives of an array of this type; null of null (JVMS 4.10.1.9, aaload)
abbrev pub component_type : Program → VerificationType → VerificationType
component_type files Unusable = NullType
component_type files IntType = NullType
component_type files NullType = NullType
component_type files (OfType t) = component_of files t
component_type files (Uninitialised at c) = NullType
component_type files (UninitialisedThis c) = NullType
