-- What a class file has to meet beyond its layout (JVMS 4.1, 4.2, 4.3, 4.4 to 4.7), each under its name.
use Rattle.std.specs.Prelude.{ℕ, ◌+◌, ◌/◌, ◌%◌, List, [], ◌∷◌, map, Bool, true, false, not, ◌&&◌, ◌||◌, ◌==◌, nat_le, if◌then◌else◌, codes, Option, Some, None}
use Rattle.std.specs.Str.{bytes_eq}
use Rattle.std.specs.List.{list_all, list_any, count_by}
use Rattle.model.specs.declared.class_file.ExceptionEntry.{ExceptionEntry}
use Rattle.model.specs.Tree.{Entry, Utf8, Integer, Float, Long, Double, Class, String, Field, Method, InterfaceMethod, NameAndType, SkippedTree, CodeTree, FieldPart, ConstantOf, SkippedOfField, MethodPart, CodeOf, SkippedOfMethod, FieldTree, MethodTree, FileTree}
use Rattle.model.specs.Spelling.{entry_at, text_of, is_static}
use Rattle.model.specs.Pool.{NameAndDescriptor}
use Rattle.model.specs.Descriptors.{is_unqualified, is_class_name}
use Rattle.model.specs.DescriptorScan.{is_field_descriptor, is_method_descriptor, method_slots}

-- ---- Index: each index names an entry of the kind that it has to name

abbrev pub is_utf8 : Entry → Bool
is_utf8 (Utf8 text) = true
is_utf8 e = false

abbrev pub is_class : Entry → Bool
is_class (Class name) = true
is_class e = false

abbrev pub is_name_and_type : Entry → Bool
is_name_and_type (NameAndType name descriptor) = true
is_name_and_type e = false

-- what a ConstantValue may name (JVMS table 4.7.2-A)
abbrev pub is_constant : Entry → Bool
is_constant (Integer bits) = true
is_constant (Float bits) = true
is_constant (Long bits) = true
is_constant (Double bits) = true
is_constant (String text) = true
is_constant e = false

abbrev pub names_utf8 : List Entry → ℕ → Bool
names_utf8 pool index = is_utf8 (entry_at pool index)

abbrev pub names_class : List Entry → ℕ → Bool
names_class pool index = is_class (entry_at pool index)

abbrev pub names_name_and_type : List Entry → ℕ → Bool
names_name_and_type pool index = is_name_and_type (entry_at pool index)

abbrev pub names_constant : List Entry → ℕ → Bool
names_constant pool index = is_constant (entry_at pool index)

-- the indices in an entry of the pool (JVMS 4.4)
abbrev pub entry_indices : List Entry → Entry → Bool
entry_indices pool (Class name) = names_utf8 pool name
entry_indices pool (String text) = names_utf8 pool text
entry_indices pool (Field class name_and_type) = names_class pool class && names_name_and_type pool name_and_type
entry_indices pool (Method class name_and_type) = names_class pool class && names_name_and_type pool name_and_type
entry_indices pool (InterfaceMethod class name_and_type) = names_class pool class && names_name_and_type pool name_and_type
entry_indices pool (NameAndType name descriptor) = names_utf8 pool name && names_utf8 pool descriptor
entry_indices pool e = true

abbrev pub skipped_indices : List Entry → SkippedTree → Bool
skipped_indices pool a = names_utf8 pool a.name

-- the class that a handler takes; 0 is any (JVMS 4.7.3)
abbrev pub exception_indices : List Entry → ExceptionEntry → Bool
exception_indices pool e = (e.catch_type == 0) || names_class pool e.catch_type

abbrev pub code_indices : List Entry → CodeTree → Bool
code_indices pool c = list_all (exception_indices pool) c.exceptions && list_all (skipped_indices pool) c.attributes

abbrev pub field_part_indices : List Entry → FieldPart → Bool
field_part_indices pool (ConstantOf name index) = names_utf8 pool name && names_constant pool index
field_part_indices pool (SkippedOfField a) = skipped_indices pool a

abbrev pub method_part_indices : List Entry → MethodPart → Bool
method_part_indices pool (CodeOf name c) = names_utf8 pool name && code_indices pool c
method_part_indices pool (SkippedOfMethod a) = skipped_indices pool a

abbrev pub field_indices : List Entry → FieldTree → Bool
field_indices pool f = names_utf8 pool f.name && (names_utf8 pool f.descriptor && list_all (field_part_indices pool) f.parts)

abbrev pub method_indices : List Entry → MethodTree → Bool
method_indices pool m = names_utf8 pool m.name && (names_utf8 pool m.descriptor && list_all (method_part_indices pool) m.parts)

abbrev pub member_indices : FileTree → Bool
member_indices c = list_all (field_indices c.pool) c.fields && (list_all (method_indices c.pool) c.methods && list_all (skipped_indices c.pool) c.attributes)

-- super_class is 0 in no file (own; JVMS 4.1 lets it be 0 in that of Object)
abbrev pub file_indices : FileTree → Bool
file_indices c =
    list_all (entry_indices c.pool) c.pool
    && (names_class c.pool c.this_class
    && (names_class c.pool c.super_class
    && (list_all (names_class c.pool) c.interfaces
    && member_indices c)))

-- ---- Attribute: each Code and each ConstantValue stands where it has to

abbrev pub is_code_part : MethodPart → Bool
is_code_part (CodeOf name c) = true
is_code_part (SkippedOfMethod a) = false

-- ACC_NATIVE and ACC_ABSTRACT (JVMS table 4.6-A)
abbrev pub is_native : ℕ → Bool
is_native flags = flags / 0x0100 % 2 == 1

abbrev pub is_abstract : ℕ → Bool
is_abstract flags = flags / 0x0400 % 2 == 1

-- whether a method of these access flags has a Code (JVMS 4.7.3)
abbrev pub has_code : ℕ → Bool
has_code flags = not (is_native flags || is_abstract flags)

-- a method has one Code, and a native or abstract one has none (JVMS 4.7.3)
abbrev pub has_code_by_flags : MethodTree → Bool
has_code_by_flags m = count_by is_code_part m.parts == (if has_code m.flags then 1 else 0)

abbrev pub is_constant_part : FieldPart → Bool
is_constant_part (ConstantOf name index) = true
is_constant_part (SkippedOfField a) = false

-- whether a field of this descriptor may have a constant of this kind (JVMS table 4.7.2-A)
abbrev pub is_constant_of : List ℕ → Entry → Bool
is_constant_of descriptor (Integer bits) =
    bytes_eq descriptor (codes "I") || (bytes_eq descriptor (codes "S") || (bytes_eq descriptor (codes "C") || (bytes_eq descriptor (codes "B") || bytes_eq descriptor (codes "Z"))))
is_constant_of descriptor (Float bits) = bytes_eq descriptor (codes "F")
is_constant_of descriptor (Long bits) = bytes_eq descriptor (codes "J")
is_constant_of descriptor (Double bits) = bytes_eq descriptor (codes "D")
is_constant_of descriptor (String text) = bytes_eq descriptor (codes "Ljava/lang/String;")
is_constant_of descriptor e = false

abbrev pub constant_fits : List Entry → List ℕ → FieldPart → Bool
constant_fits pool descriptor (ConstantOf name index) = is_constant_of descriptor (entry_at pool index)
constant_fits pool descriptor (SkippedOfField a) = true

-- a field has one ConstantValue at most, of a kind that its descriptor asks for (JVMS 4.7.2)
abbrev pub field_constants : List Entry → FieldTree → Bool
field_constants pool f = nat_le (count_by is_constant_part f.parts) 1 && list_all (constant_fits pool (text_of (entry_at pool f.descriptor))) f.parts

abbrev pub file_attributes : FileTree → Bool
file_attributes c = list_all (field_constants c.pool) c.fields && list_all has_code_by_flags c.methods

-- ---- Duplicate: no two fields, and no two methods, have one name and one descriptor (JVMS 4.5, 4.6)

abbrev pub name_and_descriptor_at : List Entry → ℕ → ℕ → NameAndDescriptor
name_and_descriptor_at pool name descriptor = record { name = text_of (entry_at pool name); descriptor = text_of (entry_at pool descriptor) }

abbrev pub is_same : NameAndDescriptor → NameAndDescriptor → Bool
is_same a b = bytes_eq a.name b.name && bytes_eq a.descriptor b.descriptor

-- whether none is the same as a later one
abbrev pub differ : List NameAndDescriptor → Bool
differ [] = true
differ (x ∷ xs) = not (list_any (is_same x) xs) && differ xs

abbrev pub fields_differ : FileTree → Bool
fields_differ c = differ (map (λ f. name_and_descriptor_at c.pool f.name f.descriptor) c.fields)

abbrev pub methods_differ : FileTree → Bool
methods_differ c = differ (map (λ m. name_and_descriptor_at c.pool m.name m.descriptor) c.methods)

abbrev pub members_differ : FileTree → Bool
members_differ c = fields_differ c && methods_differ c

-- ---- Name: each name is one (JVMS 4.2)

-- neither < nor >
abbrev pub is_method_byte : ℕ → Bool
is_method_byte b = not (b == 60 || b == 62)

-- an unqualified name without < and >, or one of the two special ones (JVMS 4.2.2)
abbrev pub is_method_name : List ℕ → Bool
is_method_name name = bytes_eq name (codes "<init>") || (bytes_eq name (codes "<clinit>") || (is_unqualified name && list_all is_method_byte name))

abbrev pub begins_with : ℕ → List ℕ → Bool
begins_with b [] = false
begins_with b (first ∷ rest) = first == b

-- what a Class may name: a class, or an array by its descriptor (JVMS 4.4.1)
abbrev pub is_class_or_array : List ℕ → Bool
is_class_or_array text = is_class_name text || (begins_with 91 text && is_field_descriptor text)

-- a name beside a descriptor that begins with ( is that of a method (own)
abbrev pub is_member_name : List ℕ → List ℕ → Bool
is_member_name name descriptor = if begins_with 40 descriptor then is_method_name name else is_unqualified name

abbrev pub text_at : List Entry → ℕ → List ℕ
text_at pool index = text_of (entry_at pool index)

abbrev pub entry_names : List Entry → Entry → Bool
entry_names pool (Class name) = is_class_or_array (text_at pool name)
entry_names pool (NameAndType name descriptor) = is_member_name (text_at pool name) (text_at pool descriptor)
entry_names pool e = true

-- the name in a Class
abbrev pub class_text : List Entry → Entry → List ℕ
class_text pool (Class name) = text_at pool name
class_text pool e = []

-- this_class, super_class and the interfaces are no arrays (JVMS 4.1)
abbrev pub names_no_array : List Entry → ℕ → Bool
names_no_array pool index = is_class_name (class_text pool (entry_at pool index))

abbrev pub is_field_named : List Entry → FieldTree → Bool
is_field_named pool f = is_unqualified (text_at pool f.name)

abbrev pub is_method_named : List Entry → MethodTree → Bool
is_method_named pool m = is_method_name (text_at pool m.name)

abbrev pub member_names : FileTree → Bool
member_names c = list_all (is_field_named c.pool) c.fields && list_all (is_method_named c.pool) c.methods

abbrev pub file_names : FileTree → Bool
file_names c =
    list_all (entry_names c.pool) c.pool
    && (names_no_array c.pool c.this_class
    && (names_no_array c.pool c.super_class
    && (list_all (names_no_array c.pool) c.interfaces
    && member_names c)))

-- ---- Descriptor: each descriptor is one, of the kind that is asked for (JVMS 4.3)

-- the descriptor in a NameAndType
abbrev pub descriptor_text : List Entry → Entry → List ℕ
descriptor_text pool (NameAndType name descriptor) = text_at pool descriptor
descriptor_text pool e = []

abbrev pub is_descriptor : List ℕ → Bool
is_descriptor text = is_field_descriptor text || is_method_descriptor text

-- a Fieldref is not of a method, and a reference to a method not of a field (JVMS 4.4.2)
abbrev pub entry_descriptors : List Entry → Entry → Bool
entry_descriptors pool (NameAndType name descriptor) = is_descriptor (text_at pool descriptor)
entry_descriptors pool (Field class name_and_type) = not (is_method_descriptor (descriptor_text pool (entry_at pool name_and_type)))
entry_descriptors pool (Method class name_and_type) = not (is_field_descriptor (descriptor_text pool (entry_at pool name_and_type)))
entry_descriptors pool (InterfaceMethod class name_and_type) = not (is_field_descriptor (descriptor_text pool (entry_at pool name_and_type)))
entry_descriptors pool e = true

abbrev pub is_field_described : List Entry → FieldTree → Bool
is_field_described pool f = is_field_descriptor (text_at pool f.descriptor)

-- at most 255 slots, that of a receiver included (JVMS 4.3.3)
abbrev pub slots_fit : ℕ → Option ℕ → Bool
slots_fit flags None = false
slots_fit flags (Some slots) = nat_le (if is_static flags then slots else slots + 1) 255

abbrev pub is_method_described : List Entry → MethodTree → Bool
is_method_described pool m = slots_fit m.flags (method_slots (text_at pool m.descriptor))

abbrev pub member_descriptors : FileTree → Bool
member_descriptors c = list_all (is_field_described c.pool) c.fields && list_all (is_method_described c.pool) c.methods

abbrev pub file_descriptors : FileTree → Bool
file_descriptors c = list_all (entry_descriptors c.pool) c.pool && member_descriptors c
