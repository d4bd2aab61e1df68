-- The class java/lang/Class (own).
-- Made by `tools/build-built-in` of the class files of builtin/classes. Not to be edited.
use Rattle.std.specs.Prelude.{ℕ, List, [], ◌∷◌, Some, codes}
use Rattle.model.specs.Tree.{Entry, Utf8, Class, String, Method, NameAndType, FileTree}
use Rattle.model.specs.BuiltInForm.{Declared, declared, Coded, coded, tree_of, final_class, native_method}

-- Class.getSimpleName()Ljava/lang/String;: 0 aload_0, 1 invokevirtual getName, 4 astore_1, 5 aload_1, 6 bipush 46, 8
-- invokevirtual String.lastIndexOf, 11 istore_2, 12 aload_1, 13 bipush 36, 15 invokevirtual String.lastIndexOf, 18
-- istore_3, 19 iload_2, 20 iload_3, 21 if_icmpge 30, 24 iload_3, 25 iconst_1, 26 iadd, 27 goto 33, 30 iload_2, 31
-- iconst_1, 32 iadd, 33 istore 4, 35 iload 4, 37 aload_1, 38 invokevirtual String.length, 41 if_icmpge 72, 44 aload_1,
-- 45 iload 4, 47 invokevirtual String.charAt, 50 bipush 48, 52 if_icmplt 72, 55 aload_1, 56 iload 4, 58 invokevirtual
-- String.charAt, 61 bipush 57, 63 if_icmpgt 72, 66 iinc 4 1, 69 goto 35, 72 aload_1, 73 iload 4, 75 invokevirtual
-- String.substring, 78 areturn
abbrev pub class_get_simple_name_code : List ℕ
class_get_simple_name_code =
    0x2a ∷ 0xb6 ∷ 0 ∷ 10 ∷ 0x4c ∷ 0x2b ∷ 0x10 ∷ 46 ∷ 0xb6 ∷ 0 ∷ 16 ∷ 0x3d ∷ 0x2b ∷ 0x10 ∷ 36 ∷ 0xb6 ∷ 0 ∷ 16 ∷ 0x3e
    ∷ 0x1c ∷ 0x1d ∷ 0xa2 ∷ 0 ∷ 9 ∷ 0x1d ∷ 0x04 ∷ 0x60 ∷ 0xa7 ∷ 0 ∷ 6 ∷ 0x1c ∷ 0x04 ∷ 0x60 ∷ 0x36 ∷ 4 ∷ 0x15 ∷ 4 ∷ 0x2b
    ∷ 0xb6 ∷ 0 ∷ 20 ∷ 0xa2 ∷ 0 ∷ 31 ∷ 0x2b ∷ 0x15 ∷ 4 ∷ 0xb6 ∷ 0 ∷ 24 ∷ 0x10 ∷ 48 ∷ 0xa1 ∷ 0 ∷ 20 ∷ 0x2b ∷ 0x15 ∷ 4
    ∷ 0xb6 ∷ 0 ∷ 24 ∷ 0x10 ∷ 57 ∷ 0xa3 ∷ 0 ∷ 9 ∷ 0x84 ∷ 4 ∷ 1 ∷ 0xa7 ∷ 255 ∷ 222 ∷ 0x2b ∷ 0x15 ∷ 4 ∷ 0xb6 ∷ 0 ∷ 28
    ∷ 0xb0 ∷ []

-- Class.toString()Ljava/lang/String;: 0 ldc #6, 2 aload_0, 3 invokevirtual getName, 6 invokevirtual String.concat, 9
-- areturn
abbrev pub class_to_string_code : List ℕ
class_to_string_code =
    0x12 ∷ 6 ∷ 0x2a ∷ 0xb6 ∷ 0 ∷ 10 ∷ 0xb6 ∷ 0 ∷ 32 ∷ 0xb0 ∷ []

-- Class.desiredAssertionStatus()Z: 0 iconst_1, 1 ireturn
abbrev pub class_desired_assertion_status_code : List ℕ
class_desired_assertion_status_code =
    0x04 ∷ 0xac ∷ []

abbrev pub class_coded : List Coded
class_coded =
    coded 0x0001 33 8 2 5 class_get_simple_name_code
    ∷ coded 0x0001 34 8 2 1 class_to_string_code
    ∷ coded 0x0001 35 36 1 1 class_desired_assertion_status_code
    ∷ []

abbrev pub class_methods : List Declared
class_methods =
    declared native_method (codes "getName") (codes "()Ljava/lang/String;")
    ∷ []

abbrev pub class_operands : List Entry
class_operands =
    Utf8 (codes "class ") ∷ String 5 ∷ Utf8 (codes "getName") ∷ Utf8 (codes "()Ljava/lang/String;") ∷ NameAndType 7 8
    ∷ Method 2 9 ∷ Utf8 (codes "java/lang/String") ∷ Class 11 ∷ Utf8 (codes "lastIndexOf") ∷ Utf8 (codes "(I)I")
    ∷ NameAndType 13 14 ∷ Method 12 15 ∷ Utf8 (codes "length") ∷ Utf8 (codes "()I") ∷ NameAndType 17 18 ∷ Method 12 19
    ∷ Utf8 (codes "charAt") ∷ Utf8 (codes "(I)C") ∷ NameAndType 21 22 ∷ Method 12 23 ∷ Utf8 (codes "substring")
    ∷ Utf8 (codes "(I)Ljava/lang/String;") ∷ NameAndType 25 26 ∷ Method 12 27 ∷ Utf8 (codes "concat")
    ∷ Utf8 (codes "(Ljava/lang/String;)Ljava/lang/String;") ∷ NameAndType 29 30 ∷ Method 12 31
    ∷ Utf8 (codes "getSimpleName") ∷ Utf8 (codes "toString") ∷ Utf8 (codes "desiredAssertionStatus")
    ∷ Utf8 (codes "()Z") ∷ Utf8 (codes "Code") ∷ []

abbrev pub class_class : FileTree
class_class =
    tree_of (record {
      flags = final_class;
      name = codes "java/lang/Class";
      superclass = Some (codes "java/lang/Object");
      interfaces = [];
      operands = class_operands;
      fields = [];
      coded = class_coded;
      natives = class_methods;
    })
