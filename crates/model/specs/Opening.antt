-- The opening state of a program (own): the objects, fields and classes that there are before any event.
use Rattle.std.specs.Prelude.{if◌then◌else◌, ℕ, ◌+◌, List, [], ◌∷◌, ◌++◌, map, filter, length}
use Rattle.std.specs.List.{flat_map, position_or_len}
use Rattle.model.specs.BuiltInNumbers.{first_class_reference}
use Rattle.model.specs.Names.{Name, name_eq, Member, thread_name, java_lang_class, java_lang_string, java_lang_thread, java_io_print_stream}
use Rattle.model.specs.Tree.{FileTree}
use Rattle.model.specs.Classes.{Program, name_of, is_named, classes_of}
use Rattle.model.specs.ReferenceTypes.{ClassType}
use Rattle.model.specs.DescribedTypes.{DeclaredType, DeclaredInt, DeclaredReference, field_declared}
use Rattle.model.specs.Lookup.{is_static_field, field_member, instance_fields}
use Rattle.model.specs.StringConstants.{string_texts, main_text}
use Rattle.model.specs.Rows.{counting}
use Rattle.model.specs.Texts.{decoded}
use Rattle.model.specs.Operands.{Carrier, values}
use Rattle.model.specs.State.{ObjectOf, Instance, References, Characters, NotInitialised, StateOf, new_thread}
use Rattle.model.specs.Monitors.{unlocked}
use Rattle.model.specs.Worlds.{with_field}

-- ---- fields and what they begin with (JVMS 2.3, 2.4)

abbrev pub first_value : {A : Type 0} → Carrier A → DeclaredType → A
first_value C DeclaredInt = C.int 0
first_value C (DeclaredReference type) = C.over.null

-- what the field of a descriptor begins with
abbrev pub first_of : {A : Type 0} → Carrier A → Member → A
first_of C field = first_value C (field_declared field.descriptor)

abbrev pub with_first : {A : Type 0} → Carrier A → Member → Member × A
with_first C field = (field, first_of C field)

-- an object with the fields of its class and of its superclasses
abbrev pub first_instance : {A : Type 0} → Carrier A → Program → Name → ObjectOf A
first_instance C files class = Instance class (map (with_first C) (instance_fields files class))

-- an object as `new` makes it; a String is empty
abbrev pub new_instance : {A : Type 0} → Carrier A → Program → Name → ObjectOf A
new_instance C files class = if name_eq class java_lang_string then Characters [] else first_instance C files class

abbrev pub static_fields_in : FileTree → List Member
static_fields_in file = map (field_member (name_of file) file.pool) (filter is_static_field file.fields)

-- the static fields that the files declare, in their order
abbrev pub static_fields : Program → List Member
static_fields files = flat_map static_fields_in files

-- ---- the objects

-- the PrintStream of System.out
abbrev pub print_stream_reference : ℕ
print_stream_reference = 0

-- the empty array that main gets
abbrev pub arguments_reference : ℕ
arguments_reference = 1

abbrev pub main_thread_reference : ℕ
main_thread_reference = 2

-- the Class object of a class
abbrev pub class_reference : Program → Name → ℕ
class_reference files name = first_class_reference + position_or_len (is_named name) (classes_of files)

-- the String object of a constant with this text
abbrev pub string_reference : Program → List ℕ → ℕ
string_reference files text = first_class_reference + length (classes_of files) + position_or_len (name_eq text) (string_texts files)

-- the Strings of all constants, in their order
abbrev pub string_references : Program → List ℕ
string_references files = counting (first_class_reference + length (classes_of files)) (length (string_texts files))

-- the PrintStream of System.err, behind the Strings
abbrev pub error_stream_reference : Program → ℕ
error_stream_reference files = first_class_reference + length (classes_of files) + length (string_texts files)

-- the Thread of main, which has a name
abbrev pub main_thread_object : {A : Type 0} → Carrier A → Program → ObjectOf A
main_thread_object C files = with_field thread_name (C.reference (string_reference files main_text)) (new_instance C files java_lang_thread)

-- the PrintStream of System.out, the arguments, the Thread of main, a Class for each class, a String for each text, and the
-- PrintStream of System.err
unfoldable pub opening_heap : {A : Type 0} → Carrier A → Program → List (ObjectOf A)
opening_heap C files =
    Instance java_io_print_stream []
    ∷ References (ClassType java_lang_string) []
    ∷ main_thread_object C files
    ∷ (map (λ file. Instance java_lang_class []) (classes_of files)
    ++ (map (λ bytes. Characters (decoded bytes)) (string_texts files) ++ Instance java_io_print_stream [] ∷ []))

-- how many objects there are
abbrev pub opening_count : Program → ℕ
opening_count files = length (opening_heap values files)

-- ---- the state

-- the main thread alone, which has not begun; no class of a file is initialised (JVMS 5.5), and no monitor is owned
abbrev pub opening : {A : Type 0} → Carrier A → Program → StateOf A
opening C files =
    record {
      world = record {
        heap = opening_heap C files;
        statics = map (with_first C) (static_fields files);
        classes = map (λ file. (name_of file, NotInitialised)) files;
        monitors = map (λ object. unlocked) (opening_heap C files);
        threads = new_thread main_thread_reference ∷ [];
        printed = [];
        interned = [];
        unnamed = 0;
      };
      stacks = [] ∷ [];
    }
