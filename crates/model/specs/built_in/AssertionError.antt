-- The class java/lang/AssertionError (own).
-- Made by `tools/build-built-in` of the class files of builtin/classes. Not to be edited.
use Rattle.std.specs.Prelude.{ℕ, List, [], ◌∷◌, Some, codes}
use Rattle.model.specs.Tree.{Entry, Utf8, Class, Method, NameAndType, FileTree}
use Rattle.model.specs.BuiltInForm.{Coded, coded, tree_of, public_class, constructor, with_cause}

-- AssertionError.<init>(Ljava/lang/Object;)V: 0 aload_0, 1 aload_1, 2 invokestatic String.valueOf, 5 invokespecial
-- Error.<init>, 8 aload_1, 9 instanceof Throwable, 12 ifeq 24, 15 aload_0, 16 aload_1, 17 checkcast Throwable, 20
-- invokevirtual initCause, 23 pop, 24 return
abbrev pub assertion_error_init_code : List ℕ
assertion_error_init_code =
    0x2a ∷ 0x2b ∷ 0xb8 ∷ 0 ∷ 10 ∷ 0xb7 ∷ 0 ∷ 14 ∷ 0x2b ∷ 0xc1 ∷ 0 ∷ 16 ∷ 0x99 ∷ 0 ∷ 12 ∷ 0x2a ∷ 0x2b ∷ 0xc0 ∷ 0 ∷ 16
    ∷ 0xb6 ∷ 0 ∷ 20 ∷ 0x57 ∷ 0xb1 ∷ []

-- AssertionError.<init>(Z)V: 0 aload_0, 1 iload_1, 2 invokestatic String.valueOf, 5 invokespecial Error.<init>, 8
-- return
abbrev pub assertion_error_init_2_code : List ℕ
assertion_error_init_2_code =
    0x2a ∷ 0x1b ∷ 0xb8 ∷ 0 ∷ 23 ∷ 0xb7 ∷ 0 ∷ 14 ∷ 0xb1 ∷ []

-- AssertionError.<init>(C)V: 0 aload_0, 1 iload_1, 2 invokestatic String.valueOf, 5 invokespecial Error.<init>, 8
-- return
abbrev pub assertion_error_init_3_code : List ℕ
assertion_error_init_3_code =
    0x2a ∷ 0x1b ∷ 0xb8 ∷ 0 ∷ 26 ∷ 0xb7 ∷ 0 ∷ 14 ∷ 0xb1 ∷ []

-- AssertionError.<init>(I)V: 0 aload_0, 1 iload_1, 2 invokestatic String.valueOf, 5 invokespecial Error.<init>, 8
-- return
abbrev pub assertion_error_init_4_code : List ℕ
assertion_error_init_4_code =
    0x2a ∷ 0x1b ∷ 0xb8 ∷ 0 ∷ 29 ∷ 0xb7 ∷ 0 ∷ 14 ∷ 0xb1 ∷ []

abbrev pub assertion_error_coded : List Coded
assertion_error_coded =
    coded 0x0001 11 30 2 2 assertion_error_init_code
    ∷ coded 0x0001 11 31 2 2 assertion_error_init_2_code
    ∷ coded 0x0001 11 32 2 2 assertion_error_init_3_code
    ∷ coded 0x0001 11 33 2 2 assertion_error_init_4_code
    ∷ []

abbrev pub assertion_error_operands : List Entry
assertion_error_operands =
    Utf8 (codes "java/lang/String") ∷ Class 5 ∷ Utf8 (codes "valueOf")
    ∷ Utf8 (codes "(Ljava/lang/Object;)Ljava/lang/String;") ∷ NameAndType 7 8 ∷ Method 6 9 ∷ Utf8 (codes "<init>")
    ∷ Utf8 (codes "(Ljava/lang/String;)V") ∷ NameAndType 11 12 ∷ Method 4 13 ∷ Utf8 (codes "java/lang/Throwable")
    ∷ Class 15 ∷ Utf8 (codes "initCause") ∷ Utf8 (codes "(Ljava/lang/Throwable;)Ljava/lang/Throwable;")
    ∷ NameAndType 17 18 ∷ Method 2 19 ∷ Utf8 (codes "(Z)Ljava/lang/String;") ∷ NameAndType 7 21 ∷ Method 6 22
    ∷ Utf8 (codes "(C)Ljava/lang/String;") ∷ NameAndType 7 24 ∷ Method 6 25 ∷ Utf8 (codes "(I)Ljava/lang/String;")
    ∷ NameAndType 7 27 ∷ Method 6 28 ∷ Utf8 (codes "(Ljava/lang/Object;)V") ∷ Utf8 (codes "(Z)V") ∷ Utf8 (codes "(C)V")
    ∷ Utf8 (codes "(I)V") ∷ Utf8 (codes "Code") ∷ []

abbrev pub assertion_error_class : FileTree
assertion_error_class =
    tree_of (record {
      flags = public_class;
      name = codes "java/lang/AssertionError";
      superclass = Some (codes "java/lang/Error");
      interfaces = [];
      operands = assertion_error_operands;
      fields = [];
      coded = assertion_error_coded;
      natives = constructor ∷ with_cause ∷ [];
    })
