-- Which field or method a symbolic reference names (JVMS 5.4.3), and which method a call runs (JVMS 6.5). Access is not
-- asked for (own). What is found is named by the class that declares it.
use Rattle.std.specs.Prelude.{ℕ, zero, suc, length, List, [], ◌∷◌, Option, Some, None, Bool, true, false, not, ◌&&◌, if◌then◌else◌, find, reverse, map}
use Rattle.std.specs.Option.{option_and_then, option_map_or, option_or}
use Rattle.std.specs.List.{filter, flat_map}
use Rattle.model.specs.Names.{Name, spells, Member, java_lang_object}
use Rattle.model.specs.Tree.{Entry, FieldTree, MethodTree, FileTree}
use Rattle.model.specs.Pool.{utf8_at}
use Rattle.model.specs.Conditions.{text_at}
pub use Rattle.model.specs.AccessFlags.{is_public_method, is_private_method, is_static_method, is_instance_method, is_final_method, is_synchronized_method, is_native_method, is_abstract_method, is_static_field, is_instance_field}
pub use Rattle.model.specs.Classes.{Program, class_of, superclass_of, superinterfaces_of, all_superinterfaces, is_interface, is_subclass, implements, package_of}
use Rattle.model.specs.Classes.{classes_of, lineage, declared_in}
use Rattle.model.specs.DescriptorParts.{is_array_class}
pub use Rattle.model.specs.ReferenceTypes.{is_subtype, is_assignable}

-- ---- what a class itself declares

-- a field is of this name and descriptor (JVMS 4.5)
abbrev pub is_field : List Entry → Name → Name → FieldTree → Bool
is_field pool name descriptor f = spells (utf8_at pool f.name) name && spells (utf8_at pool f.descriptor) descriptor

abbrev pub field_in : FileTree → Name → Name → Option FieldTree
field_in file name descriptor = find (is_field file.pool name descriptor) file.fields

-- the declaration of a field, by the class that declares it
abbrev pub field_of : Program → Member → Option FieldTree
field_of files m = option_and_then (λ file. field_in file m.name m.descriptor) (class_of files m.class)

-- the declaration of a method, by the class that declares it
abbrev pub method_of : Program → Member → Option MethodTree
method_of files m = option_and_then (λ file. declared_in file m.name m.descriptor) (class_of files m.class)

-- the member of this name and descriptor in another class
abbrev pub in_class : Name → Member → Member
in_class class m = record { class = class; name = m.name; descriptor = m.descriptor }

abbrev pub where_so : Bool → Member → Option Member
where_so true m = Some m
where_so false m = None

-- the first answer of those that have one
abbrev pub first_found : (Name → Option Member) → List Name → Option Member
first_found found [] = None
first_found found (class ∷ classes) = option_or (found class) (first_found found classes)

-- ---- fields (JVMS 5.4.3.2)

abbrev pub field_in_class : Program → Member → Name → Option Member
field_in_class files m class = where_so (option_map_or (λ (f : FieldTree). true) (field_of files (in_class class m)) false) (in_class class m)

-- in the class, then in its superinterfaces, then in its superclass, each in the same way, by at most so many steps
abbrev pub field_from : Program → ℕ → Member → Name → Option Member
field_from files zero m class = None
field_from files (suc n) m class =
    option_or (field_in_class files m class)
    (option_or (first_found (λ i. field_from files n m i) (superinterfaces_of files class))
    (option_and_then (λ s. field_from files n m s) (superclass_of files class)))

-- the field that a symbolic reference names
abbrev pub find_field : Program → Member → Option Member
find_field files m = field_from files (length (classes_of files)) m m.class

-- ---- methods (JVMS 5.4.3.3, 5.4.3.4)

-- the class declares the method, and as is wanted
abbrev pub method_in_class : Program → (MethodTree → Bool) → Member → Name → Option Member
method_in_class files wanted m class = where_so (option_map_or wanted (method_of files (in_class class m)) false) (in_class class m)

abbrev pub any_method : MethodTree → Bool
any_method m = true

-- the class whose methods those of a class or of an array are: an array has Object's (JVMS 2.4, JLS 10.7)
abbrev pub searched_class : Name → Name
searched_class class = if is_array_class class then java_lang_object else class

-- the method that a symbolic reference to a method of a class names: one of the class and its superclasses, the nearest
-- first, else one of all their superinterfaces; of several of these the first (own: all are abstract)
abbrev pub find_method : Program → Member → Option Member
find_method files m =
    option_or (first_found (method_in_class files any_method m) (lineage files (searched_class m.class)))
    (first_found (method_in_class files any_method m) (all_superinterfaces files (searched_class m.class)))

abbrev pub is_public_instance_method : MethodTree → Bool
is_public_instance_method m = is_public_method m && is_instance_method m

-- the method that a symbolic reference to a method of an interface names: the interface's own, else a public instance
-- method of Object, else one of its superinterfaces
abbrev pub find_interface_method : Program → Member → Option Member
find_interface_method files m =
    option_or (method_in_class files any_method m m.class)
    (option_or (method_in_class files is_public_instance_method m java_lang_object)
    (first_found (method_in_class files any_method m) (all_superinterfaces files m.class)))

-- ---- selection (JVMS 6.5 invokevirtual, invokespecial, invokeinterface)

-- a private method is passed over, as a static one is (own)
abbrev pub is_selectable : MethodTree → Bool
is_selectable m = is_instance_method m && not (is_private_method m)

-- the method of this name and descriptor that a receiver of a class has: the nearest declaration from the class upwards,
-- abstract or not
abbrev pub select : Program → Name → Member → Option Member
select files class m = first_found (method_in_class files is_selectable m) (lineage files class)

-- ---- the fields of an object

abbrev pub field_member : Name → List Entry → FieldTree → Member
field_member class pool f = record { class = class; name = text_at pool f.name; descriptor = text_at pool f.descriptor }

-- the instance fields that a class itself declares, in their order
abbrev pub own_instance_fields : Program → Name → List Member
own_instance_fields files class =
    option_map_or (λ (file : FileTree). map (field_member class file.pool) (filter is_instance_field file.fields)) (class_of files class) []

-- all instance fields of an object of a class, those of its superclass first
abbrev pub instance_fields : Program → Name → List Member
instance_fields files class = flat_map (own_instance_fields files) (reverse (lineage files class))
