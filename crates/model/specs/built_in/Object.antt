-- The class java/lang/Object (own).
-- Made by `tools/build-built-in` of the class files of builtin/classes. Not to be edited.
use Rattle.std.specs.Prelude.{ℕ, List, [], ◌∷◌, None, codes}
use Rattle.model.specs.Tree.{Entry, Utf8, Class, Method, NameAndType, FileTree}
use Rattle.model.specs.BuiltInForm.{Declared, declared, Coded, coded, tree_of, public_class, native_method, final_native_method, constructor}

-- Object.equals(Ljava/lang/Object;)Z: 0 aload_0, 1 aload_1, 2 if_acmpne 9, 5 iconst_1, 6 goto 10, 9 iconst_0, 10
-- ireturn
abbrev pub object_equals_code : List ℕ
object_equals_code =
    0x2a ∷ 0x2b ∷ 0xa6 ∷ 0 ∷ 7 ∷ 0x04 ∷ 0xa7 ∷ 0 ∷ 4 ∷ 0x03 ∷ 0xac ∷ []

-- Object.toString()Ljava/lang/String;: 0 aload_0, 1 aload_0, 2 invokevirtual hashCode, 5 invokestatic String.described,
-- 8 areturn
abbrev pub object_to_string_code : List ℕ
object_to_string_code =
    0x2a ∷ 0x2a ∷ 0xb6 ∷ 0 ∷ 6 ∷ 0xb8 ∷ 0 ∷ 12 ∷ 0xb0 ∷ []

abbrev pub object_coded : List Coded
object_coded =
    coded 0x0001 13 14 2 2 object_equals_code
    ∷ coded 0x0001 15 16 2 1 object_to_string_code
    ∷ []

abbrev pub object_methods : List Declared
object_methods =
    constructor
    ∷ declared native_method (codes "hashCode") (codes "()I")
    ∷ declared final_native_method (codes "getClass") (codes "()Ljava/lang/Class;")
    ∷ declared 0x0104 (codes "clone") (codes "()Ljava/lang/Object;")
    ∷ declared final_native_method (codes "wait") (codes "()V")
    ∷ declared final_native_method (codes "notify") (codes "()V")
    ∷ declared final_native_method (codes "notifyAll") (codes "()V")
    ∷ []

abbrev pub object_operands : List Entry
object_operands =
    Utf8 (codes "hashCode") ∷ Utf8 (codes "()I") ∷ NameAndType 3 4 ∷ Method 2 5 ∷ Utf8 (codes "java/lang/String")
    ∷ Class 7 ∷ Utf8 (codes "described") ∷ Utf8 (codes "(Ljava/lang/Object;I)Ljava/lang/String;") ∷ NameAndType 9 10
    ∷ Method 8 11 ∷ Utf8 (codes "equals") ∷ Utf8 (codes "(Ljava/lang/Object;)Z") ∷ Utf8 (codes "toString")
    ∷ Utf8 (codes "()Ljava/lang/String;") ∷ Utf8 (codes "Code") ∷ []

abbrev pub object_class : FileTree
object_class =
    tree_of (record {
      flags = public_class;
      name = codes "java/lang/Object";
      superclass = None;
      interfaces = [];
      operands = object_operands;
      fields = [];
      coded = object_coded;
      natives = object_methods;
    })
