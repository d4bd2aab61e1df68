-- Reference types (JVMS 2.4): what an object is an instance of.
use Rattle.std.specs.Prelude.{ℕ, Bool, false, ◌||◌, ◌==◌}
use Rattle.model.specs.Names.{Name, name_eq, java_lang_object}
use Rattle.model.specs.Classes.{Program, is_subclass, implements}

-- the primitive types of which there are arrays here
pub data Primitive : Type 0 where
  Boolean : Primitive
  Char : Primitive
  Byte : Primitive
  Short : Primitive
  Int : Primitive

pub data ReferenceType : Type 0 where
  ClassType : (name : Name) → ReferenceType
  PrimitiveArray : (of : Primitive) → ReferenceType
  ReferenceArray : (of : ReferenceType) → ReferenceType

-- each by a number of its own
abbrev pub primitive_number : Primitive → ℕ
primitive_number Boolean = 0
primitive_number Char = 1
primitive_number Byte = 2
primitive_number Short = 3
primitive_number Int = 4

-- What is of the first type is of the second, by what is so of classes (JVMS 4.10.1.2, 6.5 checkcast): an array is an
-- Object, and no other class and no interface (own); an array of references is one of what its components are.
abbrev pub is_type_below : (Name → Name → Bool) → ReferenceType → ReferenceType → Bool
is_type_below below (ClassType c) (ClassType d) = below c d
is_type_below below (ClassType c) (PrimitiveArray b) = false
is_type_below below (ClassType c) (ReferenceArray b) = false
is_type_below below (PrimitiveArray a) (ClassType d) = name_eq d java_lang_object
is_type_below below (PrimitiveArray a) (PrimitiveArray b) = primitive_number a == primitive_number b
is_type_below below (PrimitiveArray a) (ReferenceArray b) = false
is_type_below below (ReferenceArray a) (ClassType d) = name_eq d java_lang_object
is_type_below below (ReferenceArray a) (PrimitiveArray b) = false
is_type_below below (ReferenceArray a) (ReferenceArray b) = is_type_below below a b

-- the class is the other one or below it, or it implements the interface (JVMS 2.4)
abbrev pub is_subclass_or_implements : Program → Name → Name → Bool
is_subclass_or_implements files c d = is_subclass files c d || implements files c d

-- the test of checkcast, instanceof and aastore (JVMS 6.5): what an object of the first type is an instance of
abbrev pub is_subtype : Program → ReferenceType → ReferenceType → Bool
is_subtype files s t = is_type_below (is_subclass_or_implements files) s t

-- the order of the verifier's types (JVMS 4.10.1.2), in which an interface stands as Object and superclasses alone count (own)
abbrev pub is_assignable : Program → ReferenceType → ReferenceType → Bool
is_assignable files s t = is_type_below (is_subclass files) s t
