-- Class files over one constant pool, for the examples of refusals.
use Rattle.std.specs.Prelude.{ℕ, List, [], ◌∷◌, ◌++◌, replicate, codes}
use Rattle.model.specs.declared.class_file.ExceptionEntry.{ExceptionEntry}
use Rattle.model.specs.Names.{Name, java_lang_object, java_lang_runnable, java_lang_string, java_lang_system, java_lang_thread, java_lang_throwable}
use Rattle.model.specs.Tree.{Entry, Utf8, Float, Long, Class, Field, Method, InterfaceMethod, NameAndType, Unusable, FieldPart, FieldTree, MethodPart, CodeOf, MethodTree, FileTree}
use Rattle.model.specs.Classes.{Program}
use Rattle.run_laws.specs.examples.Bytes.{hex}

-- what each index names is said where it is used
abbrev pub pool : List Entry
pool =
    Utf8 (codes "A") ∷ Class 1 ∷ Utf8 java_lang_object ∷ Class 3 ∷ Utf8 (codes "main")
    ∷ Utf8 (codes "([Ljava/lang/String;)V") ∷ Utf8 (codes "Code") ∷ Utf8 (codes "f") ∷ Utf8 (codes "()V") ∷ Utf8 (codes "<init>")
    ∷ Utf8 (codes "<clinit>") ∷ Utf8 (codes "I") ∷ Utf8 (codes "x") ∷ Utf8 (codes "(I)V") ∷ Utf8 (codes "()I")
    ∷ Utf8 (codes "J") ∷ Utf8 (codes "[J") ∷ Class 17 ∷ Float 0 ∷ Utf8 (codes "[I")
    ∷ Class 20 ∷ Utf8 (codes "clone") ∷ Utf8 (codes "()Ljava/lang/Object;") ∷ NameAndType 22 23 ∷ Method 21 24
    ∷ Utf8 java_lang_runnable ∷ Class 26 ∷ Utf8 (codes "run") ∷ NameAndType 28 9 ∷ InterfaceMethod 27 29
    ∷ Method 27 29 ∷ NameAndType 10 9 ∷ Method 4 32 ∷ NameAndType 11 9 ∷ Method 2 34
    ∷ Utf8 (codes "B") ∷ Class 36 ∷ NameAndType 8 9 ∷ Method 37 38 ∷ Method 2 38
    ∷ Method 37 32 ∷ Utf8 (replicate 255 91 ++ codes "I") ∷ Class 42 ∷ Utf8 (codes "Missing") ∷ Class 44
    ∷ Utf8 (codes "LMissing;") ∷ NameAndType 13 12 ∷ Field 2 47 ∷ Utf8 java_lang_system ∷ Class 49
    ∷ Utf8 (codes "out") ∷ Utf8 (codes "Ljava/io/PrintStream;") ∷ NameAndType 51 52 ∷ Field 50 53 ∷ Utf8 java_lang_thread
    ∷ Class 55 ∷ Utf8 (codes "target") ∷ Utf8 (codes "Ljava/lang/Runnable;") ∷ NameAndType 57 58 ∷ Field 56 59
    ∷ Utf8 (codes "wait") ∷ Utf8 java_lang_string ∷ Class 62 ∷ Utf8 (codes "p/B") ∷ Class 64
    ∷ Utf8 (codes "ConstantValue") ∷ Long 0 ∷ Unusable ∷ Utf8 (codes "V") ∷ Utf8 (codes "p//B")
    ∷ Utf8 (codes "described") ∷ Utf8 (codes "(Ljava/lang/Object;I)Ljava/lang/String;") ∷ NameAndType 71 72 ∷ Method 63 73 ∷ Utf8 java_lang_throwable
    ∷ Class 75 ∷ Method 21 38 ∷ []

abbrev pub class : ℕ → ℕ → ℕ → List ℕ → List FieldTree → List MethodTree → FileTree
class flags this super interfaces fields methods =
    record { pool = pool; flags = flags; this_class = this; super_class = super; interfaces = interfaces; fields = fields; methods = methods; attributes = [] }

abbrev pub field : ℕ → ℕ → ℕ → List FieldPart → FieldTree
field flags name descriptor parts = record { flags = flags; name = name; descriptor = descriptor; parts = parts }

abbrev pub method : ℕ → ℕ → ℕ → List MethodPart → MethodTree
method flags name descriptor parts = record { flags = flags; name = name; descriptor = descriptor; parts = parts }

-- a Code with so many local variables, and with entries of its exception table
abbrev pub code_with : ℕ → Name → List ExceptionEntry → List MethodPart
code_with max_locals text exceptions =
    CodeOf 7 (record { max_stack = 2; max_locals = max_locals; code = hex text; exceptions = exceptions; attributes = [] }) ∷ []

abbrev pub code : Name → List MethodPart
code text = code_with 2 text []

abbrev pub returns : List MethodPart
returns = code (codes "b1")

abbrev pub exception : ℕ → ℕ → ℕ → ℕ → ExceptionEntry
exception start end handler catch_type = record { start = start; end = end; handler = handler; catch_type = catch_type }

-- ---- programs

-- public static void main(String[]), which returns
abbrev pub main : MethodTree
main = method 0x0009 5 6 returns

-- a class A below Object with a main, and with other members
abbrev pub a_with : List FieldTree → List MethodTree → FileTree
a_with fields methods = class 0x0021 2 4 [] fields (main ∷ methods)

abbrev pub a_alone : FileTree
a_alone = a_with [] []

-- the program of A alone, with a method, and that of A whose f has this code
abbrev pub with_method : MethodTree → Program
with_method m = a_with [] (m ∷ []) ∷ []

abbrev pub doing : Name → Program
doing text = with_method (method 0x0009 8 9 (code text))

-- the program of A with a field
abbrev pub with_field : FieldTree → Program
with_field f = a_with (f ∷ []) [] ∷ []

-- the program of A whose f has nops, a return, and an entry of its exception table
abbrev pub catching : ExceptionEntry → Program
catching e = with_method (method 0x0009 8 9 (code_with 2 (codes "00 1000 57 b1 57 b1") (e ∷ [])))

-- the program of A alone and of another class
abbrev pub beside : FileTree → Program
beside file = a_alone ∷ file ∷ []

-- B, with these flags, of these super class and interfaces, with fields and methods
abbrev pub b_below : ℕ → List ℕ → List MethodTree → FileTree
b_below super interfaces methods = class 0x0021 37 super interfaces [] methods

abbrev pub b_interface : List FieldTree → List MethodTree → FileTree
b_interface fields methods = class 0x0601 37 4 [] fields methods
