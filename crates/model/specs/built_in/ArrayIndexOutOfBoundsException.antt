-- The class java/lang/ArrayIndexOutOfBoundsException (own).
-- Made by `tools/build-built-in` of the class files of builtin/classes. Not to be edited.
use Rattle.std.specs.Prelude.{ℕ, List, [], ◌∷◌, Some, codes}
use Rattle.model.specs.Tree.{Entry, Utf8, Class, String, Method, NameAndType, FileTree}
use Rattle.model.specs.BuiltInForm.{Coded, coded, tree_of, public_class, constructor, with_message}

-- ArrayIndexOutOfBoundsException.<init>(I)V: 0 aload_0, 1 ldc #6, 3 iload_1, 4 invokestatic String.valueOf, 7
-- invokevirtual String.concat, 10 invokespecial IndexOutOfBoundsException.<init>, 13 return
abbrev pub array_index_out_of_bounds_exception_init_code : List ℕ
array_index_out_of_bounds_exception_init_code =
    0x2a ∷ 0x12 ∷ 6 ∷ 0x1b ∷ 0xb8 ∷ 0 ∷ 12 ∷ 0xb6 ∷ 0 ∷ 16 ∷ 0xb7 ∷ 0 ∷ 20 ∷ 0xb1 ∷ []

abbrev pub array_index_out_of_bounds_exception_coded : List Coded
array_index_out_of_bounds_exception_coded =
    coded 0x0001 17 21 3 2 array_index_out_of_bounds_exception_init_code
    ∷ []

abbrev pub array_index_out_of_bounds_exception_operands : List Entry
array_index_out_of_bounds_exception_operands =
    Utf8 (codes "Array index out of range: ") ∷ String 5 ∷ Utf8 (codes "java/lang/String") ∷ Class 7
    ∷ Utf8 (codes "valueOf") ∷ Utf8 (codes "(I)Ljava/lang/String;") ∷ NameAndType 9 10 ∷ Method 8 11
    ∷ Utf8 (codes "concat") ∷ Utf8 (codes "(Ljava/lang/String;)Ljava/lang/String;") ∷ NameAndType 13 14 ∷ Method 8 15
    ∷ Utf8 (codes "<init>") ∷ Utf8 (codes "(Ljava/lang/String;)V") ∷ NameAndType 17 18 ∷ Method 4 19
    ∷ Utf8 (codes "(I)V") ∷ Utf8 (codes "Code") ∷ []

abbrev pub array_index_out_of_bounds_exception_class : FileTree
array_index_out_of_bounds_exception_class =
    tree_of (record {
      flags = public_class;
      name = codes "java/lang/ArrayIndexOutOfBoundsException";
      superclass = Some (codes "java/lang/IndexOutOfBoundsException");
      interfaces = [];
      operands = array_index_out_of_bounds_exception_operands;
      fields = [];
      coded = array_index_out_of_bounds_exception_coded;
      natives = constructor ∷ with_message ∷ [];
    })
