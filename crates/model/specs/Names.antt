-- Names in internal form, as class files spell them (JVMS 4.2), compared by their bytes (own).
use Rattle.std.specs.Prelude.{ℕ, List, Option, Some, None, Bool, false, ◌&&◌, codes}
use Rattle.std.specs.Str.{bytes_eq}

-- the bytes of a name or of a descriptor
abbrev pub Name : Type 0
Name = List ℕ

abbrev pub name_eq : Name → Name → Bool
name_eq a b = bytes_eq a b

-- a name is there, and is this one
abbrev pub spells : Option Name → Name → Bool
spells None name = false
spells (Some text) name = name_eq text name

-- a field or a method as a symbolic reference names it (JVMS 5.1)
pub record Member : Type 0 where
  pub class : Name
  pub name : Name
  pub descriptor : Name

abbrev pub member_eq : Member → Member → Bool
member_eq a b = name_eq a.class b.class && (name_eq a.name b.name && name_eq a.descriptor b.descriptor)

-- ---- names of methods that the machine calls by itself

-- of each constructor (JVMS 2.9, instance initialization methods)
abbrev pub constructor_name : Name
constructor_name = codes "<init>"

-- of the initialiser of a class (JVMS 2.9, class initialization methods)
abbrev pub initialiser_name : Name
initialiser_name = codes "<clinit>"

-- ---- names of built-in classes and members

abbrev pub java_lang_object : Name
java_lang_object = codes "java/lang/Object"

abbrev pub java_lang_class : Name
java_lang_class = codes "java/lang/Class"

abbrev pub java_lang_string : Name
java_lang_string = codes "java/lang/String"

abbrev pub java_lang_string_builder : Name
java_lang_string_builder = codes "java/lang/StringBuilder"

abbrev pub java_lang_system : Name
java_lang_system = codes "java/lang/System"

abbrev pub java_lang_thread : Name
java_lang_thread = codes "java/lang/Thread"

abbrev pub java_lang_runnable : Name
java_lang_runnable = codes "java/lang/Runnable"

abbrev pub java_lang_throwable : Name
java_lang_throwable = codes "java/lang/Throwable"

abbrev pub java_lang_cloneable : Name
java_lang_cloneable = codes "java/lang/Cloneable"

abbrev pub java_io_print_stream : Name
java_io_print_stream = codes "java/io/PrintStream"

abbrev pub java_lang_error : Name
java_lang_error = codes "java/lang/Error"

-- the field System.out
abbrev pub system_out : Member
system_out = record { class = java_lang_system; name = codes "out"; descriptor = codes "Ljava/io/PrintStream;" }

-- the field System.err
abbrev pub system_err : Member
system_err = record { class = java_lang_system; name = codes "err"; descriptor = codes "Ljava/io/PrintStream;" }

-- the field of a Thread that keeps what its constructor was given to run
abbrev pub thread_target : Member
thread_target = record { class = java_lang_thread; name = codes "target"; descriptor = codes "Ljava/lang/Runnable;" }

-- the fields of a Thread that keep its name, which of those without a name it is, and its priority
abbrev pub thread_name : Member
thread_name = record { class = java_lang_thread; name = codes "name"; descriptor = codes "Ljava/lang/String;" }

abbrev pub thread_ordinal : Member
thread_ordinal = record { class = java_lang_thread; name = codes "number"; descriptor = codes "I" }

abbrev pub thread_priority : Member
thread_priority = record { class = java_lang_thread; name = codes "priority"; descriptor = codes "I" }

-- the field of a StringBuilder that keeps its text
abbrev pub builder_text : Member
builder_text = record { class = java_lang_string_builder; name = codes "text"; descriptor = codes "Ljava/lang/String;" }

-- the fields of a Throwable that keep what its constructor was told, and the exceptions that were added to it
abbrev pub throwable_message : Member
throwable_message = record { class = java_lang_throwable; name = codes "message"; descriptor = codes "Ljava/lang/String;" }

abbrev pub throwable_cause : Member
throwable_cause = record { class = java_lang_throwable; name = codes "cause"; descriptor = codes "Ljava/lang/Throwable;" }

abbrev pub throwable_suppressed : Member
throwable_suppressed = record { class = java_lang_throwable; name = codes "suppressed"; descriptor = codes "[Ljava/lang/Throwable;" }

-- the method that makes the text of Object.toString
abbrev pub string_described : Member
string_described = record { class = java_lang_string; name = codes "described"; descriptor = codes "(Ljava/lang/Object;I)Ljava/lang/String;" }

-- the method that tests the bounds of System.arraycopy
abbrev pub string_lower : Member
string_lower = record { class = java_lang_string; name = codes "lower"; descriptor = codes "(C)C" }

abbrev pub system_check : Member
system_check = record { class = java_lang_system; name = codes "check"; descriptor = codes "(IIIII)V" }

-- Object.clone
abbrev pub object_clone : Member
object_clone = record { class = java_lang_object; name = codes "clone"; descriptor = codes "()Ljava/lang/Object;" }

-- String.getChars
abbrev pub string_get_chars : Member
string_get_chars = record { class = java_lang_string; name = codes "getChars"; descriptor = codes "(II[CI)V" }

-- PrintStream.println of an int
abbrev pub println_int : Member
println_int = record { class = java_io_print_stream; name = codes "println"; descriptor = codes "(I)V" }

-- the method with which a program begins, in its initial class (JVMS 5.2)
abbrev pub main_of : Name → Member
main_of class = record { class = class; name = codes "main"; descriptor = codes "([Ljava/lang/String;)V" }

-- the initialiser of a class (JVMS 2.9)
abbrev pub initialiser_of : Name → Member
initialiser_of class = record { class = class; name = codes "<clinit>"; descriptor = codes "()V" }

-- the method with which a started thread begins (JLS 17)
abbrev pub thread_run : Member
thread_run = record { class = java_lang_thread; name = codes "run"; descriptor = codes "()V" }
