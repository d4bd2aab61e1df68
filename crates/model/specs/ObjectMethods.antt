-- What an object tells of itself by methods without code: its number, its class, and the texts that are made of these (the API of
-- Object, Class and System). Neither ever changes.
use Rattle.std.specs.Prelude.{◌≡◌, ℕ, ◌+◌, ◌-◌, ◌/◌, ◌%◌, ◌^◌, List, [], ◌∷◌, ◌++◌, Option, Some, None, ◌==◌, if◌then◌else◌, nat_lt, length, map, codes, refl}
use Rattle.std.specs.List.{slice_index_or}
use Rattle.model.specs.declared.object_method.ObjectMethod.{ObjectMethod}
use Rattle.model.specs.declared.object_method.ObjectMethod.TheVariants.{HashCode, IdentityHashCode, GetClass, ClassName, Described}
use Rattle.model.specs.Names.{Name}
use Rattle.model.specs.Classes.{Program, classes_of, name_of}
use Rattle.model.specs.ReferenceTypes.{Primitive, Boolean, Char, Byte, Short, Int, ReferenceType, ClassType, PrimitiveArray, ReferenceArray}
use Rattle.model.specs.BuiltInNumbers.{first_class_reference}
use Rattle.model.specs.Texts.{Text, decoded}
use Rattle.model.specs.Operands.{Slots, Carrier}
use Rattle.model.specs.State.{WorldOf, type_of, Characters}
use Rattle.model.specs.Opening.{class_reference}
use Rattle.model.specs.Outcomes.{OutcomeOf, Raises, NullPointer, IncompatibleClassChange, Makes}
use Rattle.model.specs.Worlds.{allocated, object_at}
use Rattle.model.specs.Sites.{pushing, pushing_at, referent, int_operand}

-- ---- names

-- the letter of a primitive type in a descriptor (JVMS table 4.2)
abbrev pub primitive_letter : Primitive → Name
primitive_letter Boolean = codes "Z"
primitive_letter Char = codes "C"
primitive_letter Byte = codes "B"
primitive_letter Short = codes "S"
primitive_letter Int = codes "I"

-- the descriptor of a type (JVMS 4.3.2)
abbrev pub type_descriptor : ReferenceType → Name
type_descriptor (ClassType name) = codes "L" ++ name ++ codes ";"
type_descriptor (PrimitiveArray of) = codes "[" ++ primitive_letter of
type_descriptor (ReferenceArray of) = codes "[" ++ type_descriptor of

-- what a type is called: a class by its name, an array by its descriptor
abbrev pub type_name : ReferenceType → Name
type_name (ClassType name) = name
type_name (PrimitiveArray of) = type_descriptor (PrimitiveArray of)
type_name (ReferenceArray of) = type_descriptor (ReferenceArray of)

-- the class whose Class object has this reference
abbrev pub class_described : Program → ℕ → Name
class_described files object = slice_index_or (map name_of (classes_of files)) (object - first_class_reference) []

-- ---- texts

abbrev pub dotted_unit : ℕ → ℕ
dotted_unit unit = if unit == 47 then 46 else unit

-- the text of a name, with dots for slashes
abbrev pub dotted : Name → Text
dotted name = map dotted_unit (decoded name)

-- the unit of a hexadecimal digit: `0` to `9`, `a` to `f`
abbrev pub hexadecimal_digit : ℕ → ℕ
hexadecimal_digit digit = if nat_lt digit 10 then 48 + digit else 87 + digit

-- the eight digits of an int
abbrev pub hexadecimal_digits : ℕ → Text
hexadecimal_digits bits = map (λ place. hexadecimal_digit (bits / 16 ^ place % 16)) (7 ∷ 6 ∷ 5 ∷ 4 ∷ 3 ∷ 2 ∷ 1 ∷ 0 ∷ [])

-- without the zeros in front of another digit
abbrev pub without_zeros : Text → Text
without_zeros [] = []
without_zeros (digit ∷ []) = digit ∷ []
without_zeros (digit ∷ other ∷ digits) = if digit == 48 then without_zeros (other ∷ digits) else digit ∷ other ∷ digits

-- an int without its sign (the API of Integer, toHexString)
abbrev pub hexadecimal : ℕ → Text
hexadecimal bits = without_zeros (hexadecimal_digits bits)

-- what Object.toString shows: the name, `@` and a hash code
abbrev pub description : ReferenceType → ℕ → Text
description type hash = dotted (type_name type) ++ 64 ∷ hexadecimal hash

-- ---- what each method answers

pub data ObjectAnswer : Type 0 where
  -- a NullPointerException
  IsNull : ObjectAnswer
  -- an IncompatibleClassChangeError
  HasNoClass : ObjectAnswer
  -- an int, by its bits
  Answers : (bits : ℕ) → ObjectAnswer
  -- the Class object of a class
  IsOf : (class : Name) → ObjectAnswer
  -- a new String
  Composes : (text : Text) → ObjectAnswer

abbrev pub answer_of_null : ObjectMethod → ObjectAnswer
answer_of_null HashCode = IsNull
answer_of_null IdentityHashCode = Answers 0
answer_of_null GetClass = IsNull
answer_of_null ClassName = IsNull
answer_of_null Described = IsNull

-- arrays have no Class object (own)
abbrev pub class_answer : ReferenceType → ObjectAnswer
class_answer (ClassType name) = IsOf name
class_answer (PrimitiveArray of) = HasNoClass
class_answer (ReferenceArray of) = HasNoClass

-- by the object's reference, its type and the int behind it; a hash code is the reference (own)
abbrev pub answer_about : Program → ObjectMethod → ℕ → ReferenceType → ℕ → ObjectAnswer
answer_about files HashCode object type int = Answers (object % 2 ^ 32)
answer_about files IdentityHashCode object type int = Answers (object % 2 ^ 32)
answer_about files GetClass object type int = class_answer type
answer_about files ClassName object type int = Composes (dotted (class_described files object))
answer_about files Described object type int = Composes (description type int)

abbrev pub object_answer : Program → ObjectMethod → Option ℕ → (ℕ → ReferenceType) → ℕ → ObjectAnswer
object_answer files method None type int = answer_of_null method
object_answer files method (Some object) type int = answer_about files method object (type object) int

-- ---- what becomes of it

-- the object is the last operand, but of `described` the one under it
abbrev pub object_place : ObjectMethod → ℕ
object_place HashCode = 0
object_place IdentityHashCode = 0
object_place GetClass = 0
object_place ClassName = 0
object_place Described = 1

-- A new String is one object, and its units are cells.
abbrev pub tells : {A : Type 0} → Carrier A → Program → ObjectAnswer → ℕ → WorldOf A → Slots A → List A → OutcomeOf A
tells C files IsNull next world slots rest = Raises NullPointer
tells C files HasNoClass next world slots rest = Raises IncompatibleClassChange
tells C files (Answers bits) next world slots rest = pushing next (C.int bits ∷ []) world slots rest
tells C files (IsOf class) next world slots rest = pushing next (C.reference (class_reference files class) ∷ []) world slots rest
tells C files (Composes text) next world slots rest =
    pushing_at (Makes (length text)) next (C.reference (length world.heap) ∷ []) (allocated world (Characters text)) slots rest

abbrev pub type_at : {A : Type 0} → WorldOf A → ℕ → ReferenceType
type_at world object = type_of (object_at world object)

-- .., [object], [int] -> .., result
abbrev pub object_tells : {A : Type 0} → Carrier A → Program → ObjectMethod → ℕ → WorldOf A → Slots A → List A → List A → OutcomeOf A
object_tells C files method next world slots ops rest =
    tells C files (object_answer files method (referent C ops (object_place method)) (type_at world) (int_operand C ops 0)) next world slots rest

-- ---- examples

names : map (λ name. dotted name) (codes "a/b/C" ∷ codes "Main" ∷ []) ≡ codes "a.b.C" ∷ codes "Main" ∷ []
unfolding decoded
names = refl

hexadecimals : map (λ bits. hexadecimal bits) (0 ∷ 1 ∷ 255 ∷ 0xbeef ∷ 0xffffffff ∷ []) ≡ codes "0" ∷ codes "1" ∷ codes "ff" ∷ codes "beef" ∷ codes "ffffffff" ∷ []
hexadecimals = refl

descriptions : map (λ type. description type 31) (ClassType (codes "a/B") ∷ PrimitiveArray Int ∷ ReferenceArray (ClassType (codes "a/B")) ∷ ReferenceArray (PrimitiveArray Char) ∷ [])
    ≡ codes "a.B@1f" ∷ codes "[I@1f" ∷ codes "[La.B;@1f" ∷ codes "[[C@1f" ∷ []
unfolding decoded
descriptions = refl

abbrev pub answer_of : ObjectMethod → Option ℕ → ReferenceType → ObjectAnswer
answer_of method object type = object_answer [] method object (λ r. type) 31

of_an_array : map (λ method. answer_of method (Some 40) (PrimitiveArray Int)) (HashCode ∷ IdentityHashCode ∷ GetClass ∷ [])
    ≡ Answers 40 ∷ Answers 40 ∷ HasNoClass ∷ []
of_an_array = refl

of_no_object : map (λ method. answer_of method None (PrimitiveArray Int)) (HashCode ∷ IdentityHashCode ∷ GetClass ∷ Described ∷ [])
    ≡ IsNull ∷ Answers 0 ∷ IsNull ∷ IsNull ∷ []
of_no_object = refl
