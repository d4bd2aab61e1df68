-- The class java/lang/ExceptionInInitializerError (own).
-- Made by `tools/build-built-in` of the class files of builtin/classes. Not to be edited.
use Rattle.std.specs.Prelude.{ℕ, List, [], ◌∷◌, Some, codes}
use Rattle.model.specs.Tree.{Entry, Utf8, Method, NameAndType, FileTree}
use Rattle.model.specs.BuiltInForm.{Coded, coded, tree_of, public_class, constructor, with_message}

-- ExceptionInInitializerError.<init>(Ljava/lang/Throwable;)V: 0 aload_0, 1 aconst_null, 2 aload_1, 3 invokespecial
-- LinkageError.<init>, 6 return
abbrev pub exception_in_initializer_error_init_code : List ℕ
exception_in_initializer_error_init_code =
    0x2a ∷ 0x01 ∷ 0x2b ∷ 0xb7 ∷ 0 ∷ 8 ∷ 0xb1 ∷ []

-- ExceptionInInitializerError.getException()Ljava/lang/Throwable;: 0 aload_0, 1 invokespecial LinkageError.getCause, 4
-- areturn
abbrev pub exception_in_initializer_error_get_exception_code : List ℕ
exception_in_initializer_error_get_exception_code =
    0x2a ∷ 0xb7 ∷ 0 ∷ 12 ∷ 0xb0 ∷ []

abbrev pub exception_in_initializer_error_coded : List Coded
exception_in_initializer_error_coded =
    coded 0x0001 5 13 3 2 exception_in_initializer_error_init_code
    ∷ coded 0x0001 14 10 1 1 exception_in_initializer_error_get_exception_code
    ∷ []

abbrev pub exception_in_initializer_error_operands : List Entry
exception_in_initializer_error_operands =
    Utf8 (codes "<init>") ∷ Utf8 (codes "(Ljava/lang/String;Ljava/lang/Throwable;)V") ∷ NameAndType 5 6 ∷ Method 4 7
    ∷ Utf8 (codes "getCause") ∷ Utf8 (codes "()Ljava/lang/Throwable;") ∷ NameAndType 9 10 ∷ Method 4 11
    ∷ Utf8 (codes "(Ljava/lang/Throwable;)V") ∷ Utf8 (codes "getException") ∷ Utf8 (codes "Code") ∷ []

abbrev pub exception_in_initializer_error_class : FileTree
exception_in_initializer_error_class =
    tree_of (record {
      flags = public_class;
      name = codes "java/lang/ExceptionInInitializerError";
      superclass = Some (codes "java/lang/LinkageError");
      interfaces = [];
      operands = exception_in_initializer_error_operands;
      fields = [];
      coded = exception_in_initializer_error_coded;
      natives = constructor ∷ with_message ∷ [];
    })
