-- The class java/lang/RuntimeException (own).
-- Made by `tools/build-built-in` of the class files of builtin/classes. Not to be edited.
use Rattle.std.specs.Prelude.{ℕ, List, [], ◌∷◌, Some, codes}
use Rattle.model.specs.Tree.{Entry, Utf8, Method, NameAndType, FileTree}
use Rattle.model.specs.BuiltInForm.{Coded, coded, tree_of, public_class, constructor, with_message, with_cause}

-- RuntimeException.<init>(Ljava/lang/Throwable;)V: 0 aload_0, 1 aload_1, 2 invokespecial Exception.<init>, 5 return
abbrev pub runtime_exception_init_code : List ℕ
runtime_exception_init_code =
    0x2a ∷ 0x2b ∷ 0xb7 ∷ 0 ∷ 8 ∷ 0xb1 ∷ []

abbrev pub runtime_exception_coded : List Coded
runtime_exception_coded =
    coded 0x0001 5 6 2 2 runtime_exception_init_code
    ∷ []

abbrev pub runtime_exception_operands : List Entry
runtime_exception_operands =
    Utf8 (codes "<init>") ∷ Utf8 (codes "(Ljava/lang/Throwable;)V") ∷ NameAndType 5 6 ∷ Method 4 7 ∷ Utf8 (codes "Code")
    ∷ []

abbrev pub runtime_exception_class : FileTree
runtime_exception_class =
    tree_of (record {
      flags = public_class;
      name = codes "java/lang/RuntimeException";
      superclass = Some (codes "java/lang/Exception");
      interfaces = [];
      operands = runtime_exception_operands;
      fields = [];
      coded = runtime_exception_coded;
      natives = constructor ∷ with_message ∷ with_cause ∷ [];
    })
