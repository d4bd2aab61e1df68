-- The built-in classes beside those of a Java platform, and subtypes.
use Rattle.std.specs.Prelude.{◌≡◌, ℕ, List, [], ◌∷◌, ◌++◌, Option, Some, None, Bool, true, false, map, length, replicate, codes}
use Rattle.std.specs.Option.{option_map}
use Rattle.std.specs.List.{AllByRecursion}
use Rattle.model.specs.Names.{Name, java_lang_object, java_lang_class, java_lang_string, java_lang_thread, java_io_print_stream}
use Rattle.model.specs.Tree.{FileTree}
use Rattle.model.specs.Spelling.{FileFits}
use Rattle.model.specs.BuiltIn.{built_in_classes}
use Rattle.model.specs.Classes.{name_of, super_name_of, class_of, is_subclass}
use Rattle.model.specs.ReferenceTypes.{ReferenceType, ClassType, PrimitiveArray, ReferenceArray, Byte, Int, is_subtype}
use Rattle.model.specs.Operands.{values}
use Rattle.model.specs.State.{State, types_of}
use Rattle.model.specs.StringConstants.{string_texts}
use Rattle.model.specs.Opening.{opening}
use Rattle.run_laws.specs.examples.OnlyReturns.{only_returns_file}

-- names, superclasses and access flags (JVMS table 4.1-A): 0021 is public, 0031 public and final, 0421 public and
-- abstract, 0601 a public interface. A platform has classes between PrintStream and Object.
abbrev pub platform : List (Name × Option Name × ℕ)
platform =
    (codes "java/lang/Object", None, 0x0021)
    ∷ (codes "java/lang/Runnable", Some (codes "java/lang/Object"), 0x0601)
    ∷ (codes "java/lang/Thread", Some (codes "java/lang/Object"), 0x0021)
    ∷ (codes "java/lang/String", Some (codes "java/lang/Object"), 0x0031)
    ∷ (codes "java/lang/Class", Some (codes "java/lang/Object"), 0x0031)
    ∷ (codes "java/lang/System", Some (codes "java/lang/Object"), 0x0031)
    ∷ (codes "java/io/PrintStream", Some (codes "java/lang/Object"), 0x0021)
    ∷ (codes "java/lang/Throwable", Some (codes "java/lang/Object"), 0x0021)
    ∷ (codes "java/lang/Error", Some (codes "java/lang/Throwable"), 0x0021)
    ∷ (codes "java/lang/Exception", Some (codes "java/lang/Throwable"), 0x0021)
    ∷ (codes "java/lang/LinkageError", Some (codes "java/lang/Error"), 0x0021)
    ∷ (codes "java/lang/VirtualMachineError", Some (codes "java/lang/Error"), 0x0421)
    ∷ (codes "java/lang/IncompatibleClassChangeError", Some (codes "java/lang/LinkageError"), 0x0021)
    ∷ (codes "java/lang/NoClassDefFoundError", Some (codes "java/lang/LinkageError"), 0x0021)
    ∷ (codes "java/lang/ExceptionInInitializerError", Some (codes "java/lang/LinkageError"), 0x0021)
    ∷ (codes "java/lang/AbstractMethodError", Some (codes "java/lang/IncompatibleClassChangeError"), 0x0021)
    ∷ (codes "java/lang/StackOverflowError", Some (codes "java/lang/VirtualMachineError"), 0x0021)
    ∷ (codes "java/lang/RuntimeException", Some (codes "java/lang/Exception"), 0x0021)
    ∷ (codes "java/lang/InterruptedException", Some (codes "java/lang/Exception"), 0x0021)
    ∷ (codes "java/lang/ArithmeticException", Some (codes "java/lang/RuntimeException"), 0x0021)
    ∷ (codes "java/lang/ArrayStoreException", Some (codes "java/lang/RuntimeException"), 0x0021)
    ∷ (codes "java/lang/ClassCastException", Some (codes "java/lang/RuntimeException"), 0x0021)
    ∷ (codes "java/lang/IllegalMonitorStateException", Some (codes "java/lang/RuntimeException"), 0x0021)
    ∷ (codes "java/lang/IllegalArgumentException", Some (codes "java/lang/RuntimeException"), 0x0021)
    ∷ (codes "java/lang/IllegalStateException", Some (codes "java/lang/RuntimeException"), 0x0021)
    ∷ (codes "java/lang/IndexOutOfBoundsException", Some (codes "java/lang/RuntimeException"), 0x0021)
    ∷ (codes "java/lang/NegativeArraySizeException", Some (codes "java/lang/RuntimeException"), 0x0021)
    ∷ (codes "java/lang/NullPointerException", Some (codes "java/lang/RuntimeException"), 0x0021)
    ∷ (codes "java/lang/IllegalThreadStateException", Some (codes "java/lang/IllegalArgumentException"), 0x0021)
    ∷ (codes "java/lang/ArrayIndexOutOfBoundsException", Some (codes "java/lang/IndexOutOfBoundsException"), 0x0021)
    ∷ (codes "java/lang/Comparable", Some (codes "java/lang/Object"), 0x0601)
    ∷ (codes "java/lang/CharSequence", Some (codes "java/lang/Object"), 0x0601)
    ∷ (codes "java/lang/StringIndexOutOfBoundsException", Some (codes "java/lang/IndexOutOfBoundsException"), 0x0021)
    ∷ (codes "java/lang/Cloneable", Some (codes "java/lang/Object"), 0x0601)
    ∷ (codes "java/lang/CloneNotSupportedException", Some (codes "java/lang/Exception"), 0x0021)
    ∷ (codes "java/lang/AssertionError", Some (codes "java/lang/Error"), 0x0021)
    ∷ (codes "java/lang/StringBuilder", Some (codes "java/lang/Object"), 0x0031)
    ∷ []

-- how a class of that name is declared
abbrev pub declared : Name × Option Name × ℕ → Option (Name × Option Name × ℕ)
declared row = option_map (λ (file : FileTree). (name_of file, super_name_of file, file.flags)) (class_of [] row.0)

-- Object, String, Object[], String[], int[], byte[], int[][], Object[][]
abbrev pub types : List ReferenceType
types =
    ClassType java_lang_object ∷ ClassType java_lang_string ∷ ReferenceArray (ClassType java_lang_object) ∷ ReferenceArray (ClassType java_lang_string)
    ∷ PrimitiveArray Int ∷ PrimitiveArray Byte ∷ ReferenceArray (PrimitiveArray Int) ∷ ReferenceArray (ReferenceArray (ClassType java_lang_object)) ∷ []

-- a row for each type, which says of which of the types it is a subtype
abbrev pub subtypes : List (List Bool)
subtypes =
    (true ∷ false ∷ false ∷ false ∷ false ∷ false ∷ false ∷ false ∷ [])
    ∷ (true ∷ true ∷ false ∷ false ∷ false ∷ false ∷ false ∷ false ∷ [])
    ∷ (true ∷ false ∷ true ∷ false ∷ false ∷ false ∷ false ∷ false ∷ [])
    ∷ (true ∷ false ∷ true ∷ true ∷ false ∷ false ∷ false ∷ false ∷ [])
    ∷ (true ∷ false ∷ false ∷ false ∷ true ∷ false ∷ false ∷ false ∷ [])
    ∷ (true ∷ false ∷ false ∷ false ∷ false ∷ true ∷ false ∷ false ∷ [])
    ∷ (true ∷ false ∷ true ∷ false ∷ false ∷ false ∷ true ∷ false ∷ [])
    ∷ (true ∷ false ∷ true ∷ false ∷ false ∷ false ∷ false ∷ true ∷ [])
    ∷ []

pub record BuiltInClasses : Type 0 where
  pub declared_so : map declared platform ≡ map (λ row. Some row) platform
  pub no_others : length built_in_classes ≡ length platform
  pub are_files : AllByRecursion FileFits built_in_classes
  pub exception_below : is_subclass [] (codes "java/lang/ArrayIndexOutOfBoundsException") (codes "java/lang/Throwable") ≡ true
  pub throwable_above : is_subclass [] (codes "java/lang/Throwable") (codes "java/lang/ArrayIndexOutOfBoundsException") ≡ false
  pub error_aside : is_subclass [] (codes "java/lang/StackOverflowError") (codes "java/lang/Exception") ≡ false
  pub subtyped : map (λ s. map (λ t. is_subtype [] s t) types) types ≡ subtypes

-- Before any event there are the stream, the arguments, the Thread of main, a Class for each class, a String for each text,
-- and the stream of System.err. The texts are those of built-in classes, and those that the machine gives.
pub record OpeningObjects : Type 0 where
  pub types : types_of (let s : State = opening values (only_returns_file ∷ []) in s).world.heap
      ≡ ClassType java_io_print_stream ∷ ReferenceArray (ClassType java_lang_string)
      ∷ ClassType java_lang_thread
      ∷ (replicate 38 (ClassType java_lang_class) ++ (replicate 20 (ClassType java_lang_string) ++ ClassType java_io_print_stream ∷ []))
  pub texts : string_texts (only_returns_file ∷ [])
      ≡ codes "Thread[" ∷ codes "," ∷ codes ",main]"
      ∷ codes "null" ∷ codes "true" ∷ codes "false" ∷ codes "class " ∷ codes "\n" ∷ codes "a null" ∷ codes "Can't overwrite cause with "
      ∷ codes "Self-causation not permitted" ∷ codes ": " ∷ codes "Caused by: " ∷ codes "Self-suppression not permitted"
      ∷ codes "Cannot suppress a null exception." ∷ codes "Array index out of range: " ∷ codes "String index out of range: " ∷ []
      ∷ codes "main" ∷ codes "/ by zero" ∷ []
