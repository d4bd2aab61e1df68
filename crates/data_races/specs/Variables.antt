-- Variables that threads share (JLS 17.4.1): fields and elements of arrays. Local variables are not shared.
use Rattle.std.specs.Prelude.{ℕ, ◌/◌, ◌%◌, Bool, false, ◌&&◌, ◌==◌}
use Rattle.std.specs.Option.{option_map_or}
use Rattle.model.specs.Names.{Member, member_eq}
use Rattle.model.specs.Tree.{FieldTree}
use Rattle.model.specs.Classes.{Program}
use Rattle.model.specs.Lookup.{field_of}

-- a field of an object or a static field, by the class that declares it, its name and its descriptor; or an element of an array
pub data Variable : Type 0 where
  InstanceField : (object : ℕ) (field : Member) → Variable
  StaticField : (field : Member) → Variable
  Element : (array index : ℕ) → Variable

abbrev pub is_field_of : ℕ → Member → Variable → Bool
is_field_of object field (InstanceField other named) = (object == other) && member_eq field named
is_field_of object field (StaticField named) = false
is_field_of object field (Element array index) = false

abbrev pub is_static : Member → Variable → Bool
is_static field (InstanceField object named) = false
is_static field (StaticField named) = member_eq field named
is_static field (Element array index) = false

abbrev pub is_element : ℕ → ℕ → Variable → Bool
is_element array index (InstanceField object field) = false
is_element array index (StaticField field) = false
is_element array index (Element other place) = (array == other) && (index == place)

abbrev pub is_same_variable : Variable → Variable → Bool
is_same_variable (InstanceField object field) other = is_field_of object field other
is_same_variable (StaticField field) other = is_static field other
is_same_variable (Element array index) other = is_element array index other

-- ACC_VOLATILE (JVMS table 4.5-A; JLS 8.3.1.4)
abbrev pub is_volatile_field : FieldTree → Bool
is_volatile_field f = f.flags / 0x0040 % 2 == 1

abbrev pub declares_volatile : Program → Member → Bool
declares_volatile files field = option_map_or is_volatile_field (field_of files field) false

-- elements of arrays are never volatile
abbrev pub is_volatile : Program → Variable → Bool
is_volatile files (InstanceField object field) = declares_volatile files field
is_volatile files (StaticField field) = declares_volatile files field
is_volatile files (Element array index) = false
