-- What an index of the constant pool names (JVMS 4.4).
use Rattle.std.specs.Prelude.{ℕ, List, ◌∷◌, Option, Some, None, map}
use Rattle.model.specs.Names.{Member}
use Rattle.model.specs.Tree.{Entry, Utf8, Integer, Class, String, Field, Method, InterfaceMethod, NameAndType}
use Rattle.model.specs.Spelling.{entry_at}

-- the bytes of the Utf8 (JVMS 4.4.7)
abbrev pub utf8_of : Entry → Option (List ℕ)
utf8_of (Utf8 text) = Some text
utf8_of e = None

abbrev pub utf8_at : List Entry → ℕ → Option (List ℕ)
utf8_at pool index = utf8_of (entry_at pool index)

-- the name of the Class (JVMS 4.4.1)
abbrev pub class_name_of : List Entry → Entry → Option (List ℕ)
class_name_of pool (Class name) = utf8_at pool name
class_name_of pool e = None

abbrev pub class_name_at : List Entry → ℕ → Option (List ℕ)
class_name_at pool index = class_name_of pool (entry_at pool index)

-- the text of the String (JVMS 4.4.3)
abbrev pub string_of : List Entry → Entry → Option (List ℕ)
string_of pool (String text) = utf8_at pool text
string_of pool e = None

abbrev pub string_at : List Entry → ℕ → Option (List ℕ)
string_at pool index = string_of pool (entry_at pool index)

-- the name and the descriptor of the NameAndType (JVMS 4.4.6)
pub record NameAndDescriptor : Type 0 where
  pub name : List ℕ
  pub descriptor : List ℕ

-- where both are there
abbrev pub name_and_descriptor : Option (List ℕ) → Option (List ℕ) → Option NameAndDescriptor
name_and_descriptor (Some name) (Some descriptor) = Some (record { name = name; descriptor = descriptor })
name_and_descriptor name descriptor = None

abbrev pub name_and_type_of : List Entry → Entry → Option NameAndDescriptor
name_and_type_of pool (NameAndType name descriptor) = name_and_descriptor (utf8_at pool name) (utf8_at pool descriptor)
name_and_type_of pool e = None

abbrev pub name_and_type_at : List Entry → ℕ → Option NameAndDescriptor
name_and_type_at pool index = name_and_type_of pool (entry_at pool index)

-- a field or a method as a Fieldref, a Methodref or an InterfaceMethodref names it (JVMS 4.4.2)
abbrev pub Reference : Type 0
Reference = Member

-- where both are there
abbrev pub reference : Option (List ℕ) → Option NameAndDescriptor → Option Reference
reference (Some class) (Some member) = Some (record { class = class; name = member.name; descriptor = member.descriptor })
reference class member = None

abbrev pub reference_at : List Entry → ℕ → ℕ → Option Reference
reference_at pool class name_and_type = reference (class_name_at pool class) (name_and_type_at pool name_and_type)

-- the Fieldref
abbrev pub field_of_entry : List Entry → Entry → Option Reference
field_of_entry pool (Field class name_and_type) = reference_at pool class name_and_type
field_of_entry pool e = None

abbrev pub field_at : List Entry → ℕ → Option Reference
field_at pool index = field_of_entry pool (entry_at pool index)

-- the Methodref
abbrev pub method_of_entry : List Entry → Entry → Option Reference
method_of_entry pool (Method class name_and_type) = reference_at pool class name_and_type
method_of_entry pool e = None

abbrev pub method_at : List Entry → ℕ → Option Reference
method_at pool index = method_of_entry pool (entry_at pool index)

-- the InterfaceMethodref
abbrev pub interface_method_of_entry : List Entry → Entry → Option Reference
interface_method_of_entry pool (InterfaceMethod class name_and_type) = reference_at pool class name_and_type
interface_method_of_entry pool e = None

abbrev pub interface_method_at : List Entry → ℕ → Option Reference
interface_method_at pool index = interface_method_of_entry pool (entry_at pool index)

-- an Integer by its bits (JVMS 4.4.4)
abbrev pub integer_of : Entry → Option ℕ
integer_of (Integer bits) = Some bits
integer_of e = None

-- the ints that `ldc` and `ldc_w` may load, by the index of the entry
abbrev pub integers_of : List Entry → List (Option ℕ)
integers_of pool = None ∷ map integer_of pool
