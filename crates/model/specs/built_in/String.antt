-- The class java/lang/String (own).
-- Made by `tools/build-built-in` of the class files of builtin/classes. Not to be edited.
use Rattle.std.specs.Prelude.{ℕ, List, [], ◌∷◌, Some, codes}
use Rattle.model.specs.Tree.{Entry, Utf8, Class, String, Method, InterfaceMethod, NameAndType, FileTree}
use Rattle.model.specs.BuiltInForm.{Declared, declared, Coded, coded, tree_of, final_class, native_method, static_native_method, hidden_native_method, constructor, with_message}

-- String.<init>([C)V: 0 aload_0, 1 aload_1, 2 iconst_0, 3 aload_1, 4 arraylength, 5 invokespecial <init>, 8 return
abbrev pub string_init_code : List ℕ
string_init_code =
    0x2a ∷ 0x2b ∷ 0x03 ∷ 0x2b ∷ 0xbe ∷ 0xb7 ∷ 0 ∷ 18 ∷ 0xb1 ∷ []

-- String.valueOf(Ljava/lang/Object;)Ljava/lang/String;: 0 aload_0, 1 ifnonnull 9, 4 ldc #10, 6 goto 13, 9 aload_0, 10
-- invokevirtual Object.toString, 13 areturn
abbrev pub string_value_of_code : List ℕ
string_value_of_code =
    0x2a ∷ 0xc7 ∷ 0 ∷ 8 ∷ 0x12 ∷ 10 ∷ 0xa7 ∷ 0 ∷ 7 ∷ 0x2a ∷ 0xb6 ∷ 0 ∷ 22 ∷ 0xb0 ∷ []

-- String.valueOf(Z)Ljava/lang/String;: 0 iload_0, 1 ifeq 9, 4 ldc #12, 6 goto 11, 9 ldc #14, 11 areturn
abbrev pub string_value_of_2_code : List ℕ
string_value_of_2_code =
    0x1a ∷ 0x99 ∷ 0 ∷ 8 ∷ 0x12 ∷ 12 ∷ 0xa7 ∷ 0 ∷ 5 ∷ 0x12 ∷ 14 ∷ 0xb0 ∷ []

-- String.valueOf([C)Ljava/lang/String;: 0 new String, 3 dup, 4 aload_0, 5 iconst_0, 6 aload_0, 7 arraylength, 8
-- invokespecial <init>, 11 areturn
abbrev pub string_value_of_3_code : List ℕ
string_value_of_3_code =
    0xbb ∷ 0 ∷ 2 ∷ 0x59 ∷ 0x2a ∷ 0x03 ∷ 0x2a ∷ 0xbe ∷ 0xb7 ∷ 0 ∷ 18 ∷ 0xb0 ∷ []

-- String.valueOf([CII)Ljava/lang/String;: 0 new String, 3 dup, 4 aload_0, 5 iload_1, 6 iload_2, 7 invokespecial <init>,
-- 10 areturn
abbrev pub string_value_of_4_code : List ℕ
string_value_of_4_code =
    0xbb ∷ 0 ∷ 2 ∷ 0x59 ∷ 0x2a ∷ 0x1b ∷ 0x1c ∷ 0xb7 ∷ 0 ∷ 18 ∷ 0xb0 ∷ []

-- String.copyValueOf([C)Ljava/lang/String;: 0 new String, 3 dup, 4 aload_0, 5 iconst_0, 6 aload_0, 7 arraylength, 8
-- invokespecial <init>, 11 areturn
abbrev pub string_copy_value_of_code : List ℕ
string_copy_value_of_code =
    0xbb ∷ 0 ∷ 2 ∷ 0x59 ∷ 0x2a ∷ 0x03 ∷ 0x2a ∷ 0xbe ∷ 0xb7 ∷ 0 ∷ 18 ∷ 0xb0 ∷ []

-- String.copyValueOf([CII)Ljava/lang/String;: 0 new String, 3 dup, 4 aload_0, 5 iload_1, 6 iload_2, 7 invokespecial
-- <init>, 10 areturn
abbrev pub string_copy_value_of_2_code : List ℕ
string_copy_value_of_2_code =
    0xbb ∷ 0 ∷ 2 ∷ 0x59 ∷ 0x2a ∷ 0x1b ∷ 0x1c ∷ 0xb7 ∷ 0 ∷ 18 ∷ 0xb0 ∷ []

-- String.join(Ljava/lang/CharSequence;[Ljava/lang/CharSequence;)Ljava/lang/String;: 0 aload_0, 1 invokeinterface
-- CharSequence.toString, 6 astore_2, 7 new StringBuilder, 10 dup, 11 invokespecial StringBuilder.<init>, 14 astore_3,
-- 15 iconst_0, 16 istore 4, 18 iload 4, 20 aload_1, 21 arraylength, 22 if_icmpge 51, 25 iload 4, 27 ifle 36, 30
-- aload_3, 31 aload_2, 32 invokevirtual StringBuilder.append, 35 pop, 36 aload_3, 37 aload_1, 38 iload 4, 40 aaload, 41
-- invokevirtual StringBuilder.append, 44 pop, 45 iinc 4 1, 48 goto 18, 51 aload_3, 52 invokevirtual
-- StringBuilder.toString, 55 areturn
abbrev pub string_join_code : List ℕ
string_join_code =
    0x2a ∷ 0xb9 ∷ 0 ∷ 23 ∷ 1 ∷ 0 ∷ 0x4d ∷ 0xbb ∷ 0 ∷ 25 ∷ 0x59 ∷ 0xb7 ∷ 0 ∷ 28 ∷ 0x4e ∷ 0x03 ∷ 0x36 ∷ 4 ∷ 0x15 ∷ 4
    ∷ 0x2b ∷ 0xbe ∷ 0xa2 ∷ 0 ∷ 29 ∷ 0x15 ∷ 4 ∷ 0x9e ∷ 0 ∷ 9 ∷ 0x2d ∷ 0x2c ∷ 0xb6 ∷ 0 ∷ 32 ∷ 0x57 ∷ 0x2d ∷ 0x2b ∷ 0x15
    ∷ 4 ∷ 0x32 ∷ 0xb6 ∷ 0 ∷ 35 ∷ 0x57 ∷ 0x84 ∷ 4 ∷ 1 ∷ 0xa7 ∷ 255 ∷ 226 ∷ 0x2d ∷ 0xb6 ∷ 0 ∷ 36 ∷ 0xb0 ∷ []

-- String.isEmpty()Z: 0 aload_0, 1 invokevirtual length, 4 ifne 11, 7 iconst_1, 8 goto 12, 11 iconst_0, 12 ireturn
abbrev pub string_is_empty_code : List ℕ
string_is_empty_code =
    0x2a ∷ 0xb6 ∷ 0 ∷ 40 ∷ 0x9a ∷ 0 ∷ 7 ∷ 0x04 ∷ 0xa7 ∷ 0 ∷ 4 ∷ 0x03 ∷ 0xac ∷ []

-- String.toString()Ljava/lang/String;: 0 aload_0, 1 areturn
abbrev pub string_to_string_code : List ℕ
string_to_string_code =
    0x2a ∷ 0xb0 ∷ []

-- String.substring(I)Ljava/lang/String;: 0 aload_0, 1 iload_1, 2 aload_0, 3 invokevirtual length, 6 invokevirtual
-- substring, 9 areturn
abbrev pub string_substring_code : List ℕ
string_substring_code =
    0x2a ∷ 0x1b ∷ 0x2a ∷ 0xb6 ∷ 0 ∷ 40 ∷ 0xb6 ∷ 0 ∷ 44 ∷ 0xb0 ∷ []

-- String.subSequence(II)Ljava/lang/CharSequence;: 0 aload_0, 1 iload_1, 2 iload_2, 3 invokevirtual substring, 6 areturn
abbrev pub string_sub_sequence_code : List ℕ
string_sub_sequence_code =
    0x2a ∷ 0x1b ∷ 0x1c ∷ 0xb6 ∷ 0 ∷ 44 ∷ 0xb0 ∷ []

-- String.compareTo(Ljava/lang/Object;)I: 0 aload_0, 1 aload_1, 2 checkcast String, 5 invokevirtual compareTo, 8 ireturn
abbrev pub string_compare_to_code : List ℕ
string_compare_to_code =
    0x2a ∷ 0x2b ∷ 0xc0 ∷ 0 ∷ 2 ∷ 0xb6 ∷ 0 ∷ 48 ∷ 0xac ∷ []

-- String.indexOf(I)I: 0 aload_0, 1 iload_1, 2 iconst_0, 3 invokevirtual indexOf, 6 ireturn
abbrev pub string_index_of_code : List ℕ
string_index_of_code =
    0x2a ∷ 0x1b ∷ 0x03 ∷ 0xb6 ∷ 0 ∷ 52 ∷ 0xac ∷ []

-- String.indexOf(Ljava/lang/String;)I: 0 aload_0, 1 aload_1, 2 iconst_0, 3 invokevirtual indexOf, 6 ireturn
abbrev pub string_index_of_2_code : List ℕ
string_index_of_2_code =
    0x2a ∷ 0x2b ∷ 0x03 ∷ 0xb6 ∷ 0 ∷ 55 ∷ 0xac ∷ []

-- String.indexOf(Ljava/lang/String;I)I: 0 aload_1, 1 invokevirtual length, 4 istore_3, 5 aload_0, 6 invokevirtual
-- length, 9 iload_3, 10 isub, 11 istore 4, 13 iload_2, 14 ifge 21, 17 iconst_0, 18 goto 22, 21 iload_2, 22 istore 5, 24
-- iload 5, 26 iload 4, 28 if_icmpgt 52, 31 aload_0, 32 iload 5, 34 aload_1, 35 iconst_0, 36 iload_3, 37 invokevirtual
-- regionMatches, 40 ifeq 46, 43 iload 5, 45 ireturn, 46 iinc 5 1, 49 goto 24, 52 iload_3, 53 ifne 63, 56 aload_0, 57
-- invokevirtual length, 60 goto 64, 63 iconst_m1, 64 ireturn
abbrev pub string_index_of_3_code : List ℕ
string_index_of_3_code =
    0x2b ∷ 0xb6 ∷ 0 ∷ 40 ∷ 0x3e ∷ 0x2a ∷ 0xb6 ∷ 0 ∷ 40 ∷ 0x1d ∷ 0x64 ∷ 0x36 ∷ 4 ∷ 0x1c ∷ 0x9c ∷ 0 ∷ 7 ∷ 0x03 ∷ 0xa7 ∷ 0
    ∷ 4 ∷ 0x1c ∷ 0x36 ∷ 5 ∷ 0x15 ∷ 5 ∷ 0x15 ∷ 4 ∷ 0xa3 ∷ 0 ∷ 24 ∷ 0x2a ∷ 0x15 ∷ 5 ∷ 0x2b ∷ 0x03 ∷ 0x1d ∷ 0xb6 ∷ 0 ∷ 59
    ∷ 0x99 ∷ 0 ∷ 6 ∷ 0x15 ∷ 5 ∷ 0xac ∷ 0x84 ∷ 5 ∷ 1 ∷ 0xa7 ∷ 255 ∷ 231 ∷ 0x1d ∷ 0x9a ∷ 0 ∷ 10 ∷ 0x2a ∷ 0xb6 ∷ 0 ∷ 40
    ∷ 0xa7 ∷ 0 ∷ 4 ∷ 0x02 ∷ 0xac ∷ []

-- String.lastIndexOf(I)I: 0 aload_0, 1 iload_1, 2 aload_0, 3 invokevirtual length, 6 iconst_1, 7 isub, 8 invokevirtual
-- lastIndexOf, 11 ireturn
abbrev pub string_last_index_of_code : List ℕ
string_last_index_of_code =
    0x2a ∷ 0x1b ∷ 0x2a ∷ 0xb6 ∷ 0 ∷ 40 ∷ 0x04 ∷ 0x64 ∷ 0xb6 ∷ 0 ∷ 62 ∷ 0xac ∷ []

-- String.lastIndexOf(II)I: 0 aload_0, 1 invokevirtual length, 4 iconst_1, 5 isub, 6 istore_3, 7 iload_2, 8 iload_3, 9
-- if_icmpge 16, 12 iload_2, 13 goto 17, 16 iload_3, 17 istore 4, 19 iload 4, 21 iflt 43, 24 aload_0, 25 iload 4, 27
-- invokevirtual charAt, 30 iload_1, 31 if_icmpne 37, 34 iload 4, 36 ireturn, 37 iinc 4 -1, 40 goto 19, 43 iconst_m1, 44
-- ireturn
abbrev pub string_last_index_of_2_code : List ℕ
string_last_index_of_2_code =
    0x2a ∷ 0xb6 ∷ 0 ∷ 40 ∷ 0x04 ∷ 0x64 ∷ 0x3e ∷ 0x1c ∷ 0x1d ∷ 0xa2 ∷ 0 ∷ 7 ∷ 0x1c ∷ 0xa7 ∷ 0 ∷ 4 ∷ 0x1d ∷ 0x36 ∷ 4
    ∷ 0x15 ∷ 4 ∷ 0x9b ∷ 0 ∷ 22 ∷ 0x2a ∷ 0x15 ∷ 4 ∷ 0xb6 ∷ 0 ∷ 66 ∷ 0x1b ∷ 0xa0 ∷ 0 ∷ 6 ∷ 0x15 ∷ 4 ∷ 0xac ∷ 0x84 ∷ 4
    ∷ 255 ∷ 0xa7 ∷ 255 ∷ 235 ∷ 0x02 ∷ 0xac ∷ []

-- String.lastIndexOf(Ljava/lang/String;)I: 0 aload_0, 1 aload_1, 2 aload_0, 3 invokevirtual length, 6 invokevirtual
-- lastIndexOf, 9 ireturn
abbrev pub string_last_index_of_3_code : List ℕ
string_last_index_of_3_code =
    0x2a ∷ 0x2b ∷ 0x2a ∷ 0xb6 ∷ 0 ∷ 40 ∷ 0xb6 ∷ 0 ∷ 68 ∷ 0xac ∷ []

-- String.lastIndexOf(Ljava/lang/String;I)I: 0 aload_1, 1 invokevirtual length, 4 istore_3, 5 aload_0, 6 invokevirtual
-- length, 9 iload_3, 10 isub, 11 istore 4, 13 iload_2, 14 iload 4, 16 if_icmpge 23, 19 iload_2, 20 goto 25, 23 iload 4,
-- 25 istore 5, 27 iload 5, 29 iflt 53, 32 aload_0, 33 iload 5, 35 aload_1, 36 iconst_0, 37 iload_3, 38 invokevirtual
-- regionMatches, 41 ifeq 47, 44 iload 5, 46 ireturn, 47 iinc 5 -1, 50 goto 27, 53 iconst_m1, 54 ireturn
abbrev pub string_last_index_of_4_code : List ℕ
string_last_index_of_4_code =
    0x2b ∷ 0xb6 ∷ 0 ∷ 40 ∷ 0x3e ∷ 0x2a ∷ 0xb6 ∷ 0 ∷ 40 ∷ 0x1d ∷ 0x64 ∷ 0x36 ∷ 4 ∷ 0x1c ∷ 0x15 ∷ 4 ∷ 0xa2 ∷ 0 ∷ 7 ∷ 0x1c
    ∷ 0xa7 ∷ 0 ∷ 5 ∷ 0x15 ∷ 4 ∷ 0x36 ∷ 5 ∷ 0x15 ∷ 5 ∷ 0x9b ∷ 0 ∷ 24 ∷ 0x2a ∷ 0x15 ∷ 5 ∷ 0x2b ∷ 0x03 ∷ 0x1d ∷ 0xb6 ∷ 0
    ∷ 59 ∷ 0x99 ∷ 0 ∷ 6 ∷ 0x15 ∷ 5 ∷ 0xac ∷ 0x84 ∷ 5 ∷ 255 ∷ 0xa7 ∷ 255 ∷ 233 ∷ 0x02 ∷ 0xac ∷ []

-- String.startsWith(Ljava/lang/String;)Z: 0 aload_0, 1 iconst_0, 2 aload_1, 3 iconst_0, 4 aload_1, 5 invokevirtual
-- length, 8 invokevirtual regionMatches, 11 ireturn
abbrev pub string_starts_with_code : List ℕ
string_starts_with_code =
    0x2a ∷ 0x03 ∷ 0x2b ∷ 0x03 ∷ 0x2b ∷ 0xb6 ∷ 0 ∷ 40 ∷ 0xb6 ∷ 0 ∷ 59 ∷ 0xac ∷ []

-- String.startsWith(Ljava/lang/String;I)Z: 0 aload_0, 1 iload_2, 2 aload_1, 3 iconst_0, 4 aload_1, 5 invokevirtual
-- length, 8 invokevirtual regionMatches, 11 ireturn
abbrev pub string_starts_with_2_code : List ℕ
string_starts_with_2_code =
    0x2a ∷ 0x1c ∷ 0x2b ∷ 0x03 ∷ 0x2b ∷ 0xb6 ∷ 0 ∷ 40 ∷ 0xb6 ∷ 0 ∷ 59 ∷ 0xac ∷ []

-- String.endsWith(Ljava/lang/String;)Z: 0 aload_0, 1 aload_0, 2 invokevirtual length, 5 aload_1, 6 invokevirtual
-- length, 9 isub, 10 aload_1, 11 iconst_0, 12 aload_1, 13 invokevirtual length, 16 invokevirtual regionMatches, 19
-- ireturn
abbrev pub string_ends_with_code : List ℕ
string_ends_with_code =
    0x2a ∷ 0x2a ∷ 0xb6 ∷ 0 ∷ 40 ∷ 0x2b ∷ 0xb6 ∷ 0 ∷ 40 ∷ 0x64 ∷ 0x2b ∷ 0x03 ∷ 0x2b ∷ 0xb6 ∷ 0 ∷ 40 ∷ 0xb6 ∷ 0 ∷ 59
    ∷ 0xac ∷ []

-- String.contains(Ljava/lang/CharSequence;)Z: 0 aload_0, 1 aload_1, 2 invokeinterface CharSequence.toString, 7
-- iconst_0, 8 invokevirtual indexOf, 11 iflt 18, 14 iconst_1, 15 goto 19, 18 iconst_0, 19 ireturn
abbrev pub string_contains_code : List ℕ
string_contains_code =
    0x2a ∷ 0x2b ∷ 0xb9 ∷ 0 ∷ 23 ∷ 1 ∷ 0 ∷ 0x03 ∷ 0xb6 ∷ 0 ∷ 55 ∷ 0x9b ∷ 0 ∷ 7 ∷ 0x04 ∷ 0xa7 ∷ 0 ∷ 4 ∷ 0x03 ∷ 0xac ∷ []

-- String.contentEquals(Ljava/lang/CharSequence;)Z: 0 aload_0, 1 aload_1, 2 invokeinterface CharSequence.toString, 7
-- invokevirtual equals, 10 ireturn
abbrev pub string_content_equals_code : List ℕ
string_content_equals_code =
    0x2a ∷ 0x2b ∷ 0xb9 ∷ 0 ∷ 23 ∷ 1 ∷ 0 ∷ 0xb6 ∷ 0 ∷ 72 ∷ 0xac ∷ []

-- String.trim()Ljava/lang/String;: 0 iconst_0, 1 istore_1, 2 aload_0, 3 invokevirtual length, 6 istore_2, 7 iload_1, 8
-- iload_2, 9 if_icmpge 28, 12 aload_0, 13 iload_1, 14 invokevirtual charAt, 17 bipush 32, 19 if_icmpgt 28, 22 iinc 1 1,
-- 25 goto 7, 28 iload_1, 29 iload_2, 30 if_icmpge 51, 33 aload_0, 34 iload_2, 35 iconst_1, 36 isub, 37 invokevirtual
-- charAt, 40 bipush 32, 42 if_icmpgt 51, 45 iinc 2 -1, 48 goto 28, 51 aload_0, 52 iload_1, 53 iload_2, 54 invokevirtual
-- substring, 57 areturn
abbrev pub string_trim_code : List ℕ
string_trim_code =
    0x03 ∷ 0x3c ∷ 0x2a ∷ 0xb6 ∷ 0 ∷ 40 ∷ 0x3d ∷ 0x1b ∷ 0x1c ∷ 0xa2 ∷ 0 ∷ 19 ∷ 0x2a ∷ 0x1b ∷ 0xb6 ∷ 0 ∷ 66 ∷ 0x10 ∷ 32
    ∷ 0xa3 ∷ 0 ∷ 9 ∷ 0x84 ∷ 1 ∷ 1 ∷ 0xa7 ∷ 255 ∷ 238 ∷ 0x1b ∷ 0x1c ∷ 0xa2 ∷ 0 ∷ 21 ∷ 0x2a ∷ 0x1c ∷ 0x04 ∷ 0x64 ∷ 0xb6
    ∷ 0 ∷ 66 ∷ 0x10 ∷ 32 ∷ 0xa3 ∷ 0 ∷ 9 ∷ 0x84 ∷ 2 ∷ 255 ∷ 0xa7 ∷ 255 ∷ 236 ∷ 0x2a ∷ 0x1b ∷ 0x1c ∷ 0xb6 ∷ 0 ∷ 44 ∷ 0xb0
    ∷ []

-- String.toCharArray()[C: 0 aload_0, 1 invokevirtual length, 4 newarray char, 6 astore_1, 7 aload_0, 8 iconst_0, 9
-- aload_1, 10 arraylength, 11 aload_1, 12 iconst_0, 13 invokevirtual getChars, 16 aload_1, 17 areturn
abbrev pub string_to_char_array_code : List ℕ
string_to_char_array_code =
    0x2a ∷ 0xb6 ∷ 0 ∷ 40 ∷ 0xbc ∷ 5 ∷ 0x4c ∷ 0x2a ∷ 0x03 ∷ 0x2b ∷ 0xbe ∷ 0x2b ∷ 0x03 ∷ 0xb6 ∷ 0 ∷ 76 ∷ 0x2b ∷ 0xb0 ∷ []

-- String.replace(CC)Ljava/lang/String;: 0 iload_1, 1 iload_2, 2 if_icmpeq 14, 5 aload_0, 6 iload_1, 7 iconst_0, 8
-- invokevirtual indexOf, 11 ifge 16, 14 aload_0, 15 areturn, 16 aload_0, 17 invokevirtual toCharArray, 20 astore_3, 21
-- iconst_0, 22 istore 4, 24 iload 4, 26 aload_3, 27 arraylength, 28 if_icmpge 50, 31 aload_3, 32 iload 4, 34 caload, 35
-- iload_1, 36 if_icmpne 44, 39 aload_3, 40 iload 4, 42 iload_2, 43 castore, 44 iinc 4 1, 47 goto 24, 50 new String, 53
-- dup, 54 aload_3, 55 iconst_0, 56 aload_3, 57 arraylength, 58 invokespecial <init>, 61 areturn
abbrev pub string_replace_code : List ℕ
string_replace_code =
    0x1b ∷ 0x1c ∷ 0x9f ∷ 0 ∷ 12 ∷ 0x2a ∷ 0x1b ∷ 0x03 ∷ 0xb6 ∷ 0 ∷ 52 ∷ 0x9c ∷ 0 ∷ 5 ∷ 0x2a ∷ 0xb0 ∷ 0x2a ∷ 0xb6 ∷ 0 ∷ 80
    ∷ 0x4e ∷ 0x03 ∷ 0x36 ∷ 4 ∷ 0x15 ∷ 4 ∷ 0x2d ∷ 0xbe ∷ 0xa2 ∷ 0 ∷ 22 ∷ 0x2d ∷ 0x15 ∷ 4 ∷ 0x34 ∷ 0x1b ∷ 0xa0 ∷ 0 ∷ 8
    ∷ 0x2d ∷ 0x15 ∷ 4 ∷ 0x1c ∷ 0x55 ∷ 0x84 ∷ 4 ∷ 1 ∷ 0xa7 ∷ 255 ∷ 233 ∷ 0xbb ∷ 0 ∷ 2 ∷ 0x59 ∷ 0x2d ∷ 0x03 ∷ 0x2d ∷ 0xbe
    ∷ 0xb7 ∷ 0 ∷ 18 ∷ 0xb0 ∷ []

-- String.replace(Ljava/lang/CharSequence;Ljava/lang/CharSequence;)Ljava/lang/String;: 0 aload_1, 1 invokeinterface
-- CharSequence.toString, 6 astore_3, 7 aload_2, 8 invokeinterface CharSequence.toString, 13 astore 4, 15 aload_0, 16
-- aload_3, 17 iconst_0, 18 invokevirtual indexOf, 21 istore 5, 23 iload 5, 25 ifge 30, 28 aload_0, 29 areturn, 30 new
-- StringBuilder, 33 dup, 34 invokespecial StringBuilder.<init>, 37 astore 6, 39 iconst_0, 40 istore 7, 42 aload_3, 43
-- invokevirtual isEmpty, 46 ifeq 53, 49 iconst_1, 50 goto 57, 53 aload_3, 54 invokevirtual length, 57 istore 8, 59
-- iload 5, 61 iflt 123, 64 aload 6, 66 aload_0, 67 iload 7, 69 iload 5, 71 invokevirtual substring, 74 invokevirtual
-- StringBuilder.append, 77 aload 4, 79 invokevirtual StringBuilder.append, 82 pop, 83 iload 5, 85 aload_3, 86
-- invokevirtual length, 89 iadd, 90 istore 7, 92 iload 5, 94 iload 8, 96 iadd, 97 aload_0, 98 invokevirtual length, 101
-- if_icmple 108, 104 iconst_m1, 105 goto 118, 108 aload_0, 109 aload_3, 110 iload 5, 112 iload 8, 114 iadd, 115
-- invokevirtual indexOf, 118 istore 5, 120 goto 59, 123 aload 6, 125 aload_0, 126 iload 7, 128 aload_0, 129
-- invokevirtual length, 132 invokevirtual substring, 135 invokevirtual StringBuilder.append, 138 invokevirtual
-- StringBuilder.toString, 141 areturn
abbrev pub string_replace_2_code : List ℕ
string_replace_2_code =
    0x2b ∷ 0xb9 ∷ 0 ∷ 23 ∷ 1 ∷ 0 ∷ 0x4e ∷ 0x2c ∷ 0xb9 ∷ 0 ∷ 23 ∷ 1 ∷ 0 ∷ 0x3a ∷ 4 ∷ 0x2a ∷ 0x2d ∷ 0x03 ∷ 0xb6 ∷ 0 ∷ 55
    ∷ 0x36 ∷ 5 ∷ 0x15 ∷ 5 ∷ 0x9c ∷ 0 ∷ 5 ∷ 0x2a ∷ 0xb0 ∷ 0xbb ∷ 0 ∷ 25 ∷ 0x59 ∷ 0xb7 ∷ 0 ∷ 28 ∷ 0x3a ∷ 6 ∷ 0x03 ∷ 0x36
    ∷ 7 ∷ 0x2d ∷ 0xb6 ∷ 0 ∷ 84 ∷ 0x99 ∷ 0 ∷ 7 ∷ 0x04 ∷ 0xa7 ∷ 0 ∷ 7 ∷ 0x2d ∷ 0xb6 ∷ 0 ∷ 40 ∷ 0x36 ∷ 8 ∷ 0x15 ∷ 5 ∷ 0x9b
    ∷ 0 ∷ 62 ∷ 0x19 ∷ 6 ∷ 0x2a ∷ 0x15 ∷ 7 ∷ 0x15 ∷ 5 ∷ 0xb6 ∷ 0 ∷ 44 ∷ 0xb6 ∷ 0 ∷ 32 ∷ 0x19 ∷ 4 ∷ 0xb6 ∷ 0 ∷ 32 ∷ 0x57
    ∷ 0x15 ∷ 5 ∷ 0x2d ∷ 0xb6 ∷ 0 ∷ 40 ∷ 0x60 ∷ 0x36 ∷ 7 ∷ 0x15 ∷ 5 ∷ 0x15 ∷ 8 ∷ 0x60 ∷ 0x2a ∷ 0xb6 ∷ 0 ∷ 40 ∷ 0xa4 ∷ 0
    ∷ 7 ∷ 0x02 ∷ 0xa7 ∷ 0 ∷ 13 ∷ 0x2a ∷ 0x2d ∷ 0x15 ∷ 5 ∷ 0x15 ∷ 8 ∷ 0x60 ∷ 0xb6 ∷ 0 ∷ 55 ∷ 0x36 ∷ 5 ∷ 0xa7 ∷ 255 ∷ 195
    ∷ 0x19 ∷ 6 ∷ 0x2a ∷ 0x15 ∷ 7 ∷ 0x2a ∷ 0xb6 ∷ 0 ∷ 40 ∷ 0xb6 ∷ 0 ∷ 44 ∷ 0xb6 ∷ 0 ∷ 32 ∷ 0xb6 ∷ 0 ∷ 36 ∷ 0xb0 ∷ []

-- String.toLowerCase()Ljava/lang/String;: 0 aload_0, 1 invokevirtual toCharArray, 4 astore_1, 5 iconst_0, 6 istore_2, 7
-- iload_2, 8 aload_1, 9 arraylength, 10 if_icmpge 28, 13 aload_1, 14 iload_2, 15 aload_1, 16 iload_2, 17 caload, 18
-- invokestatic lower, 21 castore, 22 iinc 2 1, 25 goto 7, 28 new String, 31 dup, 32 aload_1, 33 iconst_0, 34 aload_1,
-- 35 arraylength, 36 invokespecial <init>, 39 astore_2, 40 aload_0, 41 aload_2, 42 invokevirtual equals, 45 ifeq 52, 48
-- aload_0, 49 goto 53, 52 aload_2, 53 areturn
abbrev pub string_to_lower_case_code : List ℕ
string_to_lower_case_code =
    0x2a ∷ 0xb6 ∷ 0 ∷ 80 ∷ 0x4c ∷ 0x03 ∷ 0x3d ∷ 0x1c ∷ 0x2b ∷ 0xbe ∷ 0xa2 ∷ 0 ∷ 18 ∷ 0x2b ∷ 0x1c ∷ 0x2b ∷ 0x1c ∷ 0x34
    ∷ 0xb8 ∷ 0 ∷ 88 ∷ 0x55 ∷ 0x84 ∷ 2 ∷ 1 ∷ 0xa7 ∷ 255 ∷ 238 ∷ 0xbb ∷ 0 ∷ 2 ∷ 0x59 ∷ 0x2b ∷ 0x03 ∷ 0x2b ∷ 0xbe ∷ 0xb7
    ∷ 0 ∷ 18 ∷ 0x4d ∷ 0x2a ∷ 0x2c ∷ 0xb6 ∷ 0 ∷ 72 ∷ 0x99 ∷ 0 ∷ 7 ∷ 0x2a ∷ 0xa7 ∷ 0 ∷ 4 ∷ 0x2c ∷ 0xb0 ∷ []

-- String.toUpperCase()Ljava/lang/String;: 0 aload_0, 1 invokevirtual toCharArray, 4 astore_1, 5 iconst_0, 6 istore_2, 7
-- iload_2, 8 aload_1, 9 arraylength, 10 if_icmpge 43, 13 aload_1, 14 iload_2, 15 caload, 16 istore_3, 17 iload_3, 18
-- bipush 97, 20 if_icmplt 37, 23 iload_3, 24 bipush 122, 26 if_icmpgt 37, 29 aload_1, 30 iload_2, 31 iload_3, 32 bipush
-- 32, 34 isub, 35 i2c, 36 castore, 37 iinc 2 1, 40 goto 7, 43 new String, 46 dup, 47 aload_1, 48 iconst_0, 49 aload_1,
-- 50 arraylength, 51 invokespecial <init>, 54 astore_2, 55 aload_0, 56 aload_2, 57 invokevirtual equals, 60 ifeq 67, 63
-- aload_0, 64 goto 68, 67 aload_2, 68 areturn
abbrev pub string_to_upper_case_code : List ℕ
string_to_upper_case_code =
    0x2a ∷ 0xb6 ∷ 0 ∷ 80 ∷ 0x4c ∷ 0x03 ∷ 0x3d ∷ 0x1c ∷ 0x2b ∷ 0xbe ∷ 0xa2 ∷ 0 ∷ 33 ∷ 0x2b ∷ 0x1c ∷ 0x34 ∷ 0x3e ∷ 0x1d
    ∷ 0x10 ∷ 97 ∷ 0xa1 ∷ 0 ∷ 17 ∷ 0x1d ∷ 0x10 ∷ 122 ∷ 0xa3 ∷ 0 ∷ 11 ∷ 0x2b ∷ 0x1c ∷ 0x1d ∷ 0x10 ∷ 32 ∷ 0x64 ∷ 0x92
    ∷ 0x55 ∷ 0x84 ∷ 2 ∷ 1 ∷ 0xa7 ∷ 255 ∷ 223 ∷ 0xbb ∷ 0 ∷ 2 ∷ 0x59 ∷ 0x2b ∷ 0x03 ∷ 0x2b ∷ 0xbe ∷ 0xb7 ∷ 0 ∷ 18 ∷ 0x4d
    ∷ 0x2a ∷ 0x2c ∷ 0xb6 ∷ 0 ∷ 72 ∷ 0x99 ∷ 0 ∷ 7 ∷ 0x2a ∷ 0xa7 ∷ 0 ∷ 4 ∷ 0x2c ∷ 0xb0 ∷ []

-- String.equalsIgnoreCase(Ljava/lang/String;)Z: 0 aload_1, 1 ifnull 27, 4 aload_0, 5 invokevirtual length, 8 aload_1, 9
-- invokevirtual length, 12 if_icmpne 27, 15 aload_0, 16 aload_1, 17 invokevirtual compareToIgnoreCase, 20 ifne 27, 23
-- iconst_1, 24 goto 28, 27 iconst_0, 28 ireturn
abbrev pub string_equals_ignore_case_code : List ℕ
string_equals_ignore_case_code =
    0x2b ∷ 0xc6 ∷ 0 ∷ 26 ∷ 0x2a ∷ 0xb6 ∷ 0 ∷ 40 ∷ 0x2b ∷ 0xb6 ∷ 0 ∷ 40 ∷ 0xa0 ∷ 0 ∷ 15 ∷ 0x2a ∷ 0x2b ∷ 0xb6 ∷ 0 ∷ 91
    ∷ 0x9a ∷ 0 ∷ 7 ∷ 0x04 ∷ 0xa7 ∷ 0 ∷ 4 ∷ 0x03 ∷ 0xac ∷ []

-- String.compareToIgnoreCase(Ljava/lang/String;)I: 0 aload_0, 1 invokevirtual length, 4 aload_1, 5 invokevirtual
-- length, 8 if_icmpge 18, 11 aload_0, 12 invokevirtual length, 15 goto 22, 18 aload_1, 19 invokevirtual length, 22
-- istore_2, 23 iconst_0, 24 istore_3, 25 iload_3, 26 iload_2, 27 if_icmpge 63, 30 aload_0, 31 iload_3, 32 invokevirtual
-- charAt, 35 invokestatic lower, 38 aload_1, 39 iload_3, 40 invokevirtual charAt, 43 invokestatic lower, 46 isub, 47
-- istore 4, 49 iload 4, 51 ifeq 57, 54 iload 4, 56 ireturn, 57 iinc 3 1, 60 goto 25, 63 aload_0, 64 invokevirtual
-- length, 67 aload_1, 68 invokevirtual length, 71 isub, 72 ireturn
abbrev pub string_compare_to_ignore_case_code : List ℕ
string_compare_to_ignore_case_code =
    0x2a ∷ 0xb6 ∷ 0 ∷ 40 ∷ 0x2b ∷ 0xb6 ∷ 0 ∷ 40 ∷ 0xa2 ∷ 0 ∷ 10 ∷ 0x2a ∷ 0xb6 ∷ 0 ∷ 40 ∷ 0xa7 ∷ 0 ∷ 7 ∷ 0x2b ∷ 0xb6 ∷ 0
    ∷ 40 ∷ 0x3d ∷ 0x03 ∷ 0x3e ∷ 0x1d ∷ 0x1c ∷ 0xa2 ∷ 0 ∷ 36 ∷ 0x2a ∷ 0x1d ∷ 0xb6 ∷ 0 ∷ 66 ∷ 0xb8 ∷ 0 ∷ 88 ∷ 0x2b ∷ 0x1d
    ∷ 0xb6 ∷ 0 ∷ 66 ∷ 0xb8 ∷ 0 ∷ 88 ∷ 0x64 ∷ 0x36 ∷ 4 ∷ 0x15 ∷ 4 ∷ 0x99 ∷ 0 ∷ 6 ∷ 0x15 ∷ 4 ∷ 0xac ∷ 0x84 ∷ 3 ∷ 1 ∷ 0xa7
    ∷ 255 ∷ 221 ∷ 0x2a ∷ 0xb6 ∷ 0 ∷ 40 ∷ 0x2b ∷ 0xb6 ∷ 0 ∷ 40 ∷ 0x64 ∷ 0xac ∷ []

-- String.lower(C)C: 0 iload_0, 1 bipush 65, 3 if_icmplt 20, 6 iload_0, 7 bipush 90, 9 if_icmpgt 20, 12 iload_0, 13
-- bipush 32, 15 iadd, 16 i2c, 17 goto 21, 20 iload_0, 21 ireturn
abbrev pub string_lower_code : List ℕ
string_lower_code =
    0x1a ∷ 0x10 ∷ 65 ∷ 0xa1 ∷ 0 ∷ 17 ∷ 0x1a ∷ 0x10 ∷ 90 ∷ 0xa3 ∷ 0 ∷ 11 ∷ 0x1a ∷ 0x10 ∷ 32 ∷ 0x60 ∷ 0x92 ∷ 0xa7 ∷ 0 ∷ 4
    ∷ 0x1a ∷ 0xac ∷ []

abbrev pub string_coded : List Coded
string_coded =
    coded 0x0001 15 92 4 2 string_init_code
    ∷ coded 0x0009 93 94 1 1 string_value_of_code
    ∷ coded 0x0009 93 95 1 1 string_value_of_2_code
    ∷ coded 0x0009 93 96 5 1 string_value_of_3_code
    ∷ coded 0x0009 93 97 5 3 string_value_of_4_code
    ∷ coded 0x0009 98 96 5 1 string_copy_value_of_code
    ∷ coded 0x0009 98 97 5 3 string_copy_value_of_2_code
    ∷ coded 0x0009 99 100 3 5 string_join_code
    ∷ coded 0x0001 81 82 1 1 string_is_empty_code
    ∷ coded 0x0001 19 20 1 1 string_to_string_code
    ∷ coded 0x0001 41 101 3 2 string_substring_code
    ∷ coded 0x0001 102 103 3 3 string_sub_sequence_code
    ∷ coded 0x0001 45 104 2 2 string_compare_to_code
    ∷ coded 0x0001 49 105 3 2 string_index_of_code
    ∷ coded 0x0001 49 46 3 2 string_index_of_2_code
    ∷ coded 0x0001 49 53 5 6 string_index_of_3_code
    ∷ coded 0x0001 60 105 4 2 string_last_index_of_code
    ∷ coded 0x0001 60 50 2 5 string_last_index_of_2_code
    ∷ coded 0x0001 60 46 3 2 string_last_index_of_3_code
    ∷ coded 0x0001 60 53 5 6 string_last_index_of_4_code
    ∷ coded 0x0001 106 107 5 2 string_starts_with_code
    ∷ coded 0x0001 106 108 5 3 string_starts_with_2_code
    ∷ coded 0x0001 109 107 5 2 string_ends_with_code
    ∷ coded 0x0001 110 111 3 2 string_contains_code
    ∷ coded 0x0001 112 111 2 2 string_content_equals_code
    ∷ coded 0x0001 113 20 3 3 string_trim_code
    ∷ coded 0x0001 77 78 5 2 string_to_char_array_code
    ∷ coded 0x0001 114 115 5 5 string_replace_code
    ∷ coded 0x0001 114 116 4 9 string_replace_2_code
    ∷ coded 0x0001 117 20 5 3 string_to_lower_case_code
    ∷ coded 0x0001 118 20 5 4 string_to_upper_case_code
    ∷ coded 0x0001 119 107 2 2 string_equals_ignore_case_code
    ∷ coded 0x0001 89 46 3 5 string_compare_to_ignore_case_code
    ∷ coded 0x000a 85 86 2 1 string_lower_code
    ∷ []

abbrev pub string_methods : List Declared
string_methods =
    constructor
    ∷ with_message
    ∷ declared native_method (codes "<init>") (codes "([CII)V")
    ∷ declared native_method (codes "length") (codes "()I")
    ∷ declared native_method (codes "charAt") (codes "(I)C")
    ∷ declared native_method (codes "equals") (codes "(Ljava/lang/Object;)Z")
    ∷ declared native_method (codes "hashCode") (codes "()I")
    ∷ declared native_method (codes "compareTo") (codes "(Ljava/lang/String;)I")
    ∷ declared native_method (codes "concat") (codes "(Ljava/lang/String;)Ljava/lang/String;")
    ∷ declared native_method (codes "substring") (codes "(II)Ljava/lang/String;")
    ∷ declared native_method (codes "indexOf") (codes "(II)I")
    ∷ declared native_method (codes "regionMatches") (codes "(ILjava/lang/String;II)Z")
    ∷ declared native_method (codes "getChars") (codes "(II[CI)V")
    ∷ declared native_method (codes "intern") (codes "()Ljava/lang/String;")
    ∷ declared static_native_method (codes "valueOf") (codes "(I)Ljava/lang/String;")
    ∷ declared static_native_method (codes "valueOf") (codes "(C)Ljava/lang/String;")
    ∷ declared hidden_native_method (codes "described") (codes "(Ljava/lang/Object;I)Ljava/lang/String;")
    ∷ []

abbrev pub string_operands : List Entry
string_operands =
    Utf8 (codes "null") ∷ String 9 ∷ Utf8 (codes "true") ∷ String 11 ∷ Utf8 (codes "false") ∷ String 13
    ∷ Utf8 (codes "<init>") ∷ Utf8 (codes "([CII)V") ∷ NameAndType 15 16 ∷ Method 2 17 ∷ Utf8 (codes "toString")
    ∷ Utf8 (codes "()Ljava/lang/String;") ∷ NameAndType 19 20 ∷ Method 4 21 ∷ InterfaceMethod 8 21
    ∷ Utf8 (codes "java/lang/StringBuilder") ∷ Class 24 ∷ Utf8 (codes "()V") ∷ NameAndType 15 26 ∷ Method 25 27
    ∷ Utf8 (codes "append") ∷ Utf8 (codes "(Ljava/lang/String;)Ljava/lang/StringBuilder;") ∷ NameAndType 29 30
    ∷ Method 25 31 ∷ Utf8 (codes "(Ljava/lang/CharSequence;)Ljava/lang/StringBuilder;") ∷ NameAndType 29 33
    ∷ Method 25 34 ∷ Method 25 21 ∷ Utf8 (codes "length") ∷ Utf8 (codes "()I") ∷ NameAndType 37 38 ∷ Method 2 39
    ∷ Utf8 (codes "substring") ∷ Utf8 (codes "(II)Ljava/lang/String;") ∷ NameAndType 41 42 ∷ Method 2 43
    ∷ Utf8 (codes "compareTo") ∷ Utf8 (codes "(Ljava/lang/String;)I") ∷ NameAndType 45 46 ∷ Method 2 47
    ∷ Utf8 (codes "indexOf") ∷ Utf8 (codes "(II)I") ∷ NameAndType 49 50 ∷ Method 2 51
    ∷ Utf8 (codes "(Ljava/lang/String;I)I") ∷ NameAndType 49 53 ∷ Method 2 54 ∷ Utf8 (codes "regionMatches")
    ∷ Utf8 (codes "(ILjava/lang/String;II)Z") ∷ NameAndType 56 57 ∷ Method 2 58 ∷ Utf8 (codes "lastIndexOf")
    ∷ NameAndType 60 50 ∷ Method 2 61 ∷ Utf8 (codes "charAt") ∷ Utf8 (codes "(I)C") ∷ NameAndType 63 64 ∷ Method 2 65
    ∷ NameAndType 60 53 ∷ Method 2 67 ∷ Utf8 (codes "equals") ∷ Utf8 (codes "(Ljava/lang/Object;)Z") ∷ NameAndType 69 70
    ∷ Method 2 71 ∷ Utf8 (codes "getChars") ∷ Utf8 (codes "(II[CI)V") ∷ NameAndType 73 74 ∷ Method 2 75
    ∷ Utf8 (codes "toCharArray") ∷ Utf8 (codes "()[C") ∷ NameAndType 77 78 ∷ Method 2 79 ∷ Utf8 (codes "isEmpty")
    ∷ Utf8 (codes "()Z") ∷ NameAndType 81 82 ∷ Method 2 83 ∷ Utf8 (codes "lower") ∷ Utf8 (codes "(C)C")
    ∷ NameAndType 85 86 ∷ Method 2 87 ∷ Utf8 (codes "compareToIgnoreCase") ∷ NameAndType 89 46 ∷ Method 2 90
    ∷ Utf8 (codes "([C)V") ∷ Utf8 (codes "valueOf") ∷ Utf8 (codes "(Ljava/lang/Object;)Ljava/lang/String;")
    ∷ Utf8 (codes "(Z)Ljava/lang/String;") ∷ Utf8 (codes "([C)Ljava/lang/String;")
    ∷ Utf8 (codes "([CII)Ljava/lang/String;") ∷ Utf8 (codes "copyValueOf") ∷ Utf8 (codes "join")
    ∷ Utf8 (codes "(Ljava/lang/CharSequence;[Ljava/lang/CharSequence;)Ljava/lang/String;")
    ∷ Utf8 (codes "(I)Ljava/lang/String;") ∷ Utf8 (codes "subSequence") ∷ Utf8 (codes "(II)Ljava/lang/CharSequence;")
    ∷ Utf8 (codes "(Ljava/lang/Object;)I") ∷ Utf8 (codes "(I)I") ∷ Utf8 (codes "startsWith")
    ∷ Utf8 (codes "(Ljava/lang/String;)Z") ∷ Utf8 (codes "(Ljava/lang/String;I)Z") ∷ Utf8 (codes "endsWith")
    ∷ Utf8 (codes "contains") ∷ Utf8 (codes "(Ljava/lang/CharSequence;)Z") ∷ Utf8 (codes "contentEquals")
    ∷ Utf8 (codes "trim") ∷ Utf8 (codes "replace") ∷ Utf8 (codes "(CC)Ljava/lang/String;")
    ∷ Utf8 (codes "(Ljava/lang/CharSequence;Ljava/lang/CharSequence;)Ljava/lang/String;") ∷ Utf8 (codes "toLowerCase")
    ∷ Utf8 (codes "toUpperCase") ∷ Utf8 (codes "equalsIgnoreCase") ∷ Utf8 (codes "Code") ∷ []

abbrev pub string_class : FileTree
string_class =
    tree_of (record {
      flags = final_class;
      name = codes "java/lang/String";
      superclass = Some (codes "java/lang/Object");
      interfaces = codes "java/lang/Comparable" ∷ codes "java/lang/CharSequence" ∷ [];
      operands = string_operands;
      fields = [];
      coded = string_coded;
      natives = string_methods;
    })
