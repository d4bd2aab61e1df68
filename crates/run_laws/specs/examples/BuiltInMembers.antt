-- The members of the built-in classes, as a listing shows them, and the conditions that they meet.
use Rattle.std.specs.Prelude.{◌≡◌, ℕ, List, [], ◌∷◌, ◌++◌, Some, Bool, not, filter, map, replicate, codes}
use Rattle.std.specs.Option.{option_map}
use Rattle.std.specs.List.{flat_map}
use Rattle.model.specs.Names.{Name, name_eq, java_lang_throwable, constructor_name}
use Rattle.model.specs.Tree.{MethodTree, FileTree}
use Rattle.model.specs.BuiltIn.{runnable_class, comparable_class, char_sequence_class, built_in_classes}
use Rattle.model.specs.built_in.Object.{object_class}
use Rattle.model.specs.built_in.Thread.{thread_class}
use Rattle.model.specs.built_in.String.{string_class}
use Rattle.model.specs.built_in.Class.{class_class}
use Rattle.model.specs.built_in.System.{system_class}
use Rattle.model.specs.built_in.PrintStream.{print_stream_class}
use Rattle.model.specs.Classes.{name_of, class_of, is_subclass}
use Rattle.model.specs.Listing.{listing}
use Rattle.model.specs.Profile.{method_name, method_descriptor}
use Rattle.run_laws.specs.examples.StringListing.{methods_with_code}
use Rattle.run_laws.specs.examples.BuiltInListings.{object_listing, thread_listing, class_listing, system_listing, print_stream_listing}
use Rattle.run_laws.specs.examples.Conditions.{malformed_as, names_of, of_operands, of_code, of_hierarchy, of_resolution}

-- the conditions of linking that stand in a built-in class; that its methods are native, and its names built in, is no
-- matter
abbrev pub standing_in : FileTree → List Name
standing_in file = names_of (of_operands file ++ (of_code [] file ++ (of_hierarchy [] file ++ of_resolution [] file)))

-- a method of a class by its access flags, its name and its descriptor
abbrev pub method_row : FileTree → MethodTree → ℕ × Name × Name
method_row file m = (m.flags, method_name file m, method_descriptor file m)

-- the constructors of exceptions
abbrev pub plain : ℕ × Name × Name
plain = (0x0101, codes "<init>", codes "()V")

abbrev pub with_message : ℕ × Name × Name
with_message = (0x0101, codes "<init>", codes "(Ljava/lang/String;)V")

abbrev pub with_cause : ℕ × Name × Name
with_cause = (0x0101, codes "<init>", codes "(Ljava/lang/String;Ljava/lang/Throwable;)V")

-- those with code, by their one parameter
abbrev pub with_code : Name → ℕ × Name × Name
with_code descriptor = (0x0001, codes "<init>", descriptor)

abbrev pub of_cause : ℕ × Name × Name
of_cause = with_code (codes "(Ljava/lang/Throwable;)V")

abbrev pub of_index : ℕ × Name × Name
of_index = with_code (codes "(I)V")

-- those of most, and those of classes that others are below
abbrev pub two : List (ℕ × Name × Name)
two = plain ∷ with_message ∷ []

abbrev pub three : List (ℕ × Name × Name)
three = plain ∷ with_message ∷ with_cause ∷ []

abbrev pub four : List (ℕ × Name × Name)
four = of_cause ∷ three

abbrev pub of_assertions : List (ℕ × Name × Name)
of_assertions =
    with_code (codes "(Ljava/lang/Object;)V") ∷ with_code (codes "(Z)V") ∷ with_code (codes "(C)V") ∷ of_index
    ∷ plain ∷ with_cause ∷ []

-- by the classes: Throwable, Error, Exception, LinkageError, VirtualMachineError, ExceptionInInitializerError behind two others,
-- RuntimeException behind two, IllegalArgumentException and IllegalStateException behind five, the two classes of indices, and
-- last AssertionError
abbrev pub constructors_of_throwables : List (List (ℕ × Name × Name))
constructors_of_throwables =
    replicate 3 four ++ (three ∷ four ∷ two ∷ two ∷ (of_cause ∷ two) ∷ two ∷ two ∷ four ∷ [])
    ++ (replicate 5 two ++ (replicate 2 four ++ (replicate 4 two
    ++ ((of_index ∷ two) ∷ (of_index ∷ two) ∷ two ∷ of_assertions ∷ []))))

abbrev pub is_constructor_row : ℕ × Name × Name → Bool
is_constructor_row row = name_eq row.1 constructor_name

-- the rows of a class's constructors, and of its other methods
abbrev pub constructor_rows : FileTree → List (ℕ × Name × Name)
constructor_rows file = filter is_constructor_row (map (method_row file) file.methods)

abbrev pub other_rows : FileTree → List (ℕ × Name × Name)
other_rows file = filter (λ row. not (is_constructor_row row)) (map (method_row file) file.methods)

-- Throwable, and the classes below it
abbrev pub throwables : List FileTree
throwables = filter (λ file. is_subclass [] (name_of file) java_lang_throwable) built_in_classes

pub record BuiltInMembers : Type 0 where
  pub object : listing object_class ≡ object_listing
  pub runnable : listing runnable_class ≡ codes "interface java/lang/Runnable extends java/lang/Object\nmethod run()V flags 0401\n"
  pub thread : listing thread_class ≡ thread_listing
  pub string : listing string_class
      ≡ codes "class java/lang/String extends java/lang/Object implements java/lang/Comparable java/lang/CharSequence\n"
      ++ (methods_with_code ++ (codes "method <init>()V flags 0101\nmethod <init>(Ljava/lang/String;)V flags 0101\n"
      ++ (codes "method <init>([CII)V flags 0101\nmethod length()I flags 0101\nmethod charAt(I)C flags 0101\n"
      ++ (codes "method equals(Ljava/lang/Object;)Z flags 0101\nmethod hashCode()I flags 0101\n"
      ++ (codes "method compareTo(Ljava/lang/String;)I flags 0101\n"
      ++ (codes "method concat(Ljava/lang/String;)Ljava/lang/String; flags 0101\n"
      ++ (codes "method substring(II)Ljava/lang/String; flags 0101\nmethod indexOf(II)I flags 0101\n"
      ++ (codes "method regionMatches(ILjava/lang/String;II)Z flags 0101\nmethod getChars(II[CI)V flags 0101\n"
      ++ (codes "method intern()Ljava/lang/String; flags 0101\nmethod valueOf(I)Ljava/lang/String; flags 0109\n"
      ++ (codes "method valueOf(C)Ljava/lang/String; flags 0109\n"
      ++ codes "method described(Ljava/lang/Object;I)Ljava/lang/String; flags 010a\n"))))))))))
  pub class : listing class_class ≡ class_listing
  pub comparable : listing comparable_class
      ≡ codes "interface java/lang/Comparable extends java/lang/Object\nmethod compareTo(Ljava/lang/Object;)I flags 0401\n"
  pub char_sequence : listing char_sequence_class
      ≡ codes "interface java/lang/CharSequence extends java/lang/Object\nmethod length()I flags 0401\nmethod charAt(I)C flags 0401\n"
      ++ codes "method subSequence(II)Ljava/lang/CharSequence; flags 0401\nmethod toString()Ljava/lang/String; flags 0401\n"
  pub cloneable : option_map listing (class_of [] (codes "java/lang/Cloneable"))
      ≡ Some (codes "interface java/lang/Cloneable extends java/lang/Object\n")
  pub system : listing system_class ≡ system_listing
  pub print_stream : listing print_stream_class ≡ print_stream_listing
  pub constructors : map constructor_rows throwables ≡ constructors_of_throwables
  -- Throwable and ExceptionInInitializerError have other methods, too
  pub others : flat_map other_rows throwables
      ≡ (0x0001, codes "getMessage", codes "()Ljava/lang/String;") ∷ (0x0001, codes "getLocalizedMessage", codes "()Ljava/lang/String;")
      ∷ (0x0001, codes "getCause", codes "()Ljava/lang/Throwable;")
      ∷ (0x0021, codes "initCause", codes "(Ljava/lang/Throwable;)Ljava/lang/Throwable;")
      ∷ (0x0001, codes "toString", codes "()Ljava/lang/String;") ∷ (0x0001, codes "printStackTrace", codes "()V")
      ∷ (0x0001, codes "printStackTrace", codes "(Ljava/io/PrintStream;)V")
      ∷ (0x0001, codes "fillInStackTrace", codes "()Ljava/lang/Throwable;")
      ∷ (0x0031, codes "addSuppressed", codes "(Ljava/lang/Throwable;)V")
      ∷ (0x0031, codes "getSuppressed", codes "()[Ljava/lang/Throwable;")
      ∷ (0x0001, codes "getException", codes "()Ljava/lang/Throwable;") ∷ []
  -- that Object has no superclass is what no file may say
  pub whole : flat_map malformed_as built_in_classes ≡ codes "Index" ∷ codes "Name" ∷ []
  -- Object.toString, methods of String and System.arraycopy call methods that no file may name; methods of Thread, of
  -- Throwable and of StringBuilder name such fields
  pub no_other : flat_map standing_in built_in_classes
      ≡ codes "names_hidden_method" ∷ codes "names_hidden_field" ∷ codes "names_hidden_method" ∷ codes "names_hidden_method"
      ∷ codes "names_hidden_field" ∷ codes "names_hidden_field" ∷ []
