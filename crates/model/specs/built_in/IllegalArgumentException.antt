-- The class java/lang/IllegalArgumentException (own).
-- Made by `tools/build-built-in` of the class files of builtin/classes. Not to be edited.
use Rattle.std.specs.Prelude.{ℕ, List, [], ◌∷◌, Some, codes}
use Rattle.model.specs.Tree.{Entry, Utf8, Method, NameAndType, FileTree}
use Rattle.model.specs.BuiltInForm.{Coded, coded, tree_of, public_class, constructor, with_message, with_cause}

-- IllegalArgumentException.<init>(Ljava/lang/Throwable;)V: 0 aload_0, 1 aload_1, 2 invokespecial
-- RuntimeException.<init>, 5 return
abbrev pub illegal_argument_exception_init_code : List ℕ
illegal_argument_exception_init_code =
    0x2a ∷ 0x2b ∷ 0xb7 ∷ 0 ∷ 8 ∷ 0xb1 ∷ []

abbrev pub illegal_argument_exception_coded : List Coded
illegal_argument_exception_coded =
    coded 0x0001 5 6 2 2 illegal_argument_exception_init_code
    ∷ []

abbrev pub illegal_argument_exception_operands : List Entry
illegal_argument_exception_operands =
    Utf8 (codes "<init>") ∷ Utf8 (codes "(Ljava/lang/Throwable;)V") ∷ NameAndType 5 6 ∷ Method 4 7 ∷ Utf8 (codes "Code")
    ∷ []

abbrev pub illegal_argument_exception_class : FileTree
illegal_argument_exception_class =
    tree_of (record {
      flags = public_class;
      name = codes "java/lang/IllegalArgumentException";
      superclass = Some (codes "java/lang/RuntimeException");
      interfaces = [];
      operands = illegal_argument_exception_operands;
      fields = [];
      coded = illegal_argument_exception_coded;
      natives = constructor ∷ with_message ∷ with_cause ∷ [];
    })
