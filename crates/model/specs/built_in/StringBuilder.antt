-- The class java/lang/StringBuilder (own).
-- Made by `tools/build-built-in` of the class files of builtin/classes. Not to be edited.
use Rattle.std.specs.Prelude.{ℕ, List, [], ◌∷◌, Some, codes}
use Rattle.model.specs.Tree.{Entry, Utf8, Integer, Class, String, Field, Method, InterfaceMethod, NameAndType, FileTree}
use Rattle.model.specs.BuiltInForm.{Declared, declared, field, Coded, coded, tree_of, final_class, native_method, constructor, with_message}

-- StringBuilder.<init>(I)V: 0 aload_0, 1 invokespecial <init>, 4 iload_1, 5 ifge 16, 8 new NegativeArraySizeException,
-- 11 dup, 12 invokespecial NegativeArraySizeException.<init>, 15 athrow, 16 return
abbrev pub string_builder_init_code : List ℕ
string_builder_init_code =
    0x2a ∷ 0xb7 ∷ 0 ∷ 17 ∷ 0x1b ∷ 0x9c ∷ 0 ∷ 11 ∷ 0xbb ∷ 0 ∷ 19 ∷ 0x59 ∷ 0xb7 ∷ 0 ∷ 20 ∷ 0xbf ∷ 0xb1 ∷ []

-- StringBuilder.<init>(Ljava/lang/CharSequence;)V: 0 aload_0, 1 aload_1, 2 invokeinterface CharSequence.toString, 7
-- invokespecial <init>, 10 return
abbrev pub string_builder_init_2_code : List ℕ
string_builder_init_2_code =
    0x2a ∷ 0x2b ∷ 0xb9 ∷ 0 ∷ 24 ∷ 1 ∷ 0 ∷ 0xb7 ∷ 0 ∷ 27 ∷ 0xb1 ∷ []

-- StringBuilder.append(Ljava/lang/Object;)Ljava/lang/StringBuilder;: 0 aload_0, 1 aload_1, 2 invokestatic
-- String.valueOf, 5 invokevirtual append, 8 areturn
abbrev pub string_builder_append_code : List ℕ
string_builder_append_code =
    0x2a ∷ 0x2b ∷ 0xb8 ∷ 0 ∷ 33 ∷ 0xb6 ∷ 0 ∷ 37 ∷ 0xb0 ∷ []

-- StringBuilder.append(Z)Ljava/lang/StringBuilder;: 0 aload_0, 1 iload_1, 2 invokestatic String.valueOf, 5
-- invokevirtual append, 8 areturn
abbrev pub string_builder_append_2_code : List ℕ
string_builder_append_2_code =
    0x2a ∷ 0x1b ∷ 0xb8 ∷ 0 ∷ 40 ∷ 0xb6 ∷ 0 ∷ 37 ∷ 0xb0 ∷ []

-- StringBuilder.append([C)Ljava/lang/StringBuilder;: 0 aload_0, 1 aload_1, 2 invokestatic String.valueOf, 5
-- invokevirtual append, 8 areturn
abbrev pub string_builder_append_3_code : List ℕ
string_builder_append_3_code =
    0x2a ∷ 0x2b ∷ 0xb8 ∷ 0 ∷ 43 ∷ 0xb6 ∷ 0 ∷ 37 ∷ 0xb0 ∷ []

-- StringBuilder.append([CII)Ljava/lang/StringBuilder;: 0 aload_0, 1 aload_1, 2 iload_2, 3 iload_3, 4 invokestatic
-- String.valueOf, 7 invokevirtual append, 10 areturn
abbrev pub string_builder_append_4_code : List ℕ
string_builder_append_4_code =
    0x2a ∷ 0x2b ∷ 0x1c ∷ 0x1d ∷ 0xb8 ∷ 0 ∷ 46 ∷ 0xb6 ∷ 0 ∷ 37 ∷ 0xb0 ∷ []

-- StringBuilder.append(Ljava/lang/CharSequence;)Ljava/lang/StringBuilder;: 0 aload_0, 1 aload_1, 2 ifnonnull 10, 5 ldc
-- #8, 7 goto 16, 10 aload_1, 11 invokeinterface CharSequence.toString, 16 invokevirtual append, 19 areturn
abbrev pub string_builder_append_5_code : List ℕ
string_builder_append_5_code =
    0x2a ∷ 0x2b ∷ 0xc7 ∷ 0 ∷ 8 ∷ 0x12 ∷ 8 ∷ 0xa7 ∷ 0 ∷ 9 ∷ 0x2b ∷ 0xb9 ∷ 0 ∷ 24 ∷ 1 ∷ 0 ∷ 0xb6 ∷ 0 ∷ 37 ∷ 0xb0 ∷ []

-- StringBuilder.append(Ljava/lang/CharSequence;II)Ljava/lang/StringBuilder;: 0 aload_1, 1 ifnonnull 9, 4 ldc #8, 6 goto
-- 15, 9 aload_1, 10 invokeinterface CharSequence.toString, 15 astore 4, 17 iload_2, 18 iflt 35, 21 iload_2, 22 iload_3,
-- 23 if_icmpgt 35, 26 iload_3, 27 aload 4, 29 invokevirtual String.length, 32 if_icmple 43, 35 new
-- IndexOutOfBoundsException, 38 dup, 39 invokespecial IndexOutOfBoundsException.<init>, 42 athrow, 43 aload_0, 44 aload
-- 4, 46 iload_2, 47 iload_3, 48 invokevirtual String.substring, 51 invokevirtual append, 54 areturn
abbrev pub string_builder_append_6_code : List ℕ
string_builder_append_6_code =
    0x2b ∷ 0xc7 ∷ 0 ∷ 8 ∷ 0x12 ∷ 8 ∷ 0xa7 ∷ 0 ∷ 9 ∷ 0x2b ∷ 0xb9 ∷ 0 ∷ 24 ∷ 1 ∷ 0 ∷ 0x3a ∷ 4 ∷ 0x1c ∷ 0x9b ∷ 0 ∷ 17
    ∷ 0x1c ∷ 0x1d ∷ 0xa3 ∷ 0 ∷ 12 ∷ 0x1d ∷ 0x19 ∷ 4 ∷ 0xb6 ∷ 0 ∷ 50 ∷ 0xa4 ∷ 0 ∷ 11 ∷ 0xbb ∷ 0 ∷ 52 ∷ 0x59 ∷ 0xb7 ∷ 0
    ∷ 53 ∷ 0xbf ∷ 0x2a ∷ 0x19 ∷ 4 ∷ 0x1c ∷ 0x1d ∷ 0xb6 ∷ 0 ∷ 57 ∷ 0xb6 ∷ 0 ∷ 37 ∷ 0xb0 ∷ []

-- StringBuilder.length()I: 0 aload_0, 1 getfield text, 4 invokevirtual String.length, 7 ireturn
abbrev pub string_builder_length_code : List ℕ
string_builder_length_code =
    0x2a ∷ 0xb4 ∷ 0 ∷ 61 ∷ 0xb6 ∷ 0 ∷ 50 ∷ 0xac ∷ []

-- StringBuilder.charAt(I)C: 0 aload_0, 1 getfield text, 4 iload_1, 5 invokevirtual String.charAt, 8 ireturn
abbrev pub string_builder_char_at_code : List ℕ
string_builder_char_at_code =
    0x2a ∷ 0xb4 ∷ 0 ∷ 61 ∷ 0x1b ∷ 0xb6 ∷ 0 ∷ 65 ∷ 0xac ∷ []

-- StringBuilder.capacity()I: 0 aload_0, 1 getfield text, 4 invokevirtual String.length, 7 bipush 16, 9 iadd, 10 ireturn
abbrev pub string_builder_capacity_code : List ℕ
string_builder_capacity_code =
    0x2a ∷ 0xb4 ∷ 0 ∷ 61 ∷ 0xb6 ∷ 0 ∷ 50 ∷ 0x10 ∷ 16 ∷ 0x60 ∷ 0xac ∷ []

-- StringBuilder.ensureCapacity(I)V: 0 return
abbrev pub string_builder_ensure_capacity_code : List ℕ
string_builder_ensure_capacity_code =
    0xb1 ∷ []

-- StringBuilder.trimToSize()V: 0 return
abbrev pub string_builder_trim_to_size_code : List ℕ
string_builder_trim_to_size_code =
    0xb1 ∷ []

-- StringBuilder.setLength(I)V: 0 iload_1, 1 ifge 12, 4 new StringIndexOutOfBoundsException, 7 dup, 8 invokespecial
-- StringIndexOutOfBoundsException.<init>, 11 athrow, 12 iload_1, 13 aload_0, 14 getfield text, 17 invokevirtual
-- String.length, 20 if_icmpge 36, 23 aload_0, 24 aload_0, 25 getfield text, 28 iconst_0, 29 iload_1, 30 invokevirtual
-- String.substring, 33 putfield text, 36 aload_0, 37 getfield text, 40 invokevirtual String.length, 43 iload_1, 44
-- if_icmpge 56, 47 aload_0, 48 iconst_0, 49 invokevirtual append, 52 pop, 53 goto 36, 56 return
abbrev pub string_builder_set_length_code : List ℕ
string_builder_set_length_code =
    0x1b ∷ 0x9c ∷ 0 ∷ 11 ∷ 0xbb ∷ 0 ∷ 67 ∷ 0x59 ∷ 0xb7 ∷ 0 ∷ 68 ∷ 0xbf ∷ 0x1b ∷ 0x2a ∷ 0xb4 ∷ 0 ∷ 61 ∷ 0xb6 ∷ 0 ∷ 50
    ∷ 0xa2 ∷ 0 ∷ 16 ∷ 0x2a ∷ 0x2a ∷ 0xb4 ∷ 0 ∷ 61 ∷ 0x03 ∷ 0x1b ∷ 0xb6 ∷ 0 ∷ 57 ∷ 0xb5 ∷ 0 ∷ 61 ∷ 0x2a ∷ 0xb4 ∷ 0 ∷ 61
    ∷ 0xb6 ∷ 0 ∷ 50 ∷ 0x1b ∷ 0xa2 ∷ 0 ∷ 12 ∷ 0x2a ∷ 0x03 ∷ 0xb6 ∷ 0 ∷ 71 ∷ 0x57 ∷ 0xa7 ∷ 255 ∷ 239 ∷ 0xb1 ∷ []

-- StringBuilder.getChars(II[CI)V: 0 aload_0, 1 getfield text, 4 iload_1, 5 iload_2, 6 aload_3, 7 iload 4, 9
-- invokevirtual String.getChars, 12 return
abbrev pub string_builder_get_chars_code : List ℕ
string_builder_get_chars_code =
    0x2a ∷ 0xb4 ∷ 0 ∷ 61 ∷ 0x1b ∷ 0x1c ∷ 0x2d ∷ 0x15 ∷ 4 ∷ 0xb6 ∷ 0 ∷ 75 ∷ 0xb1 ∷ []

-- StringBuilder.setCharAt(IC)V: 0 iload_1, 1 iflt 15, 4 iload_1, 5 aload_0, 6 getfield text, 9 invokevirtual
-- String.length, 12 if_icmplt 23, 15 new StringIndexOutOfBoundsException, 18 dup, 19 invokespecial
-- StringIndexOutOfBoundsException.<init>, 22 athrow, 23 aload_0, 24 iload_1, 25 iload_1, 26 iconst_1, 27 iadd, 28
-- iload_2, 29 invokestatic String.valueOf, 32 invokevirtual replace, 35 pop, 36 return
abbrev pub string_builder_set_char_at_code : List ℕ
string_builder_set_char_at_code =
    0x1b ∷ 0x9b ∷ 0 ∷ 14 ∷ 0x1b ∷ 0x2a ∷ 0xb4 ∷ 0 ∷ 61 ∷ 0xb6 ∷ 0 ∷ 50 ∷ 0xa1 ∷ 0 ∷ 11 ∷ 0xbb ∷ 0 ∷ 67 ∷ 0x59 ∷ 0xb7 ∷ 0
    ∷ 68 ∷ 0xbf ∷ 0x2a ∷ 0x1b ∷ 0x1b ∷ 0x04 ∷ 0x60 ∷ 0x1c ∷ 0xb8 ∷ 0 ∷ 78 ∷ 0xb6 ∷ 0 ∷ 82 ∷ 0x57 ∷ 0xb1 ∷ []

-- StringBuilder.deleteCharAt(I)Ljava/lang/StringBuilder;: 0 iload_1, 1 iflt 15, 4 iload_1, 5 aload_0, 6 getfield text,
-- 9 invokevirtual String.length, 12 if_icmplt 23, 15 new StringIndexOutOfBoundsException, 18 dup, 19 invokespecial
-- StringIndexOutOfBoundsException.<init>, 22 athrow, 23 aload_0, 24 iload_1, 25 iload_1, 26 iconst_1, 27 iadd, 28 ldc
-- #10, 30 invokevirtual replace, 33 areturn
abbrev pub string_builder_delete_char_at_code : List ℕ
string_builder_delete_char_at_code =
    0x1b ∷ 0x9b ∷ 0 ∷ 14 ∷ 0x1b ∷ 0x2a ∷ 0xb4 ∷ 0 ∷ 61 ∷ 0xb6 ∷ 0 ∷ 50 ∷ 0xa1 ∷ 0 ∷ 11 ∷ 0xbb ∷ 0 ∷ 67 ∷ 0x59 ∷ 0xb7 ∷ 0
    ∷ 68 ∷ 0xbf ∷ 0x2a ∷ 0x1b ∷ 0x1b ∷ 0x04 ∷ 0x60 ∷ 0x12 ∷ 10 ∷ 0xb6 ∷ 0 ∷ 82 ∷ 0xb0 ∷ []

-- StringBuilder.delete(II)Ljava/lang/StringBuilder;: 0 aload_0, 1 iload_1, 2 iload_2, 3 ldc #10, 5 invokevirtual
-- replace, 8 areturn
abbrev pub string_builder_delete_code : List ℕ
string_builder_delete_code =
    0x2a ∷ 0x1b ∷ 0x1c ∷ 0x12 ∷ 10 ∷ 0xb6 ∷ 0 ∷ 82 ∷ 0xb0 ∷ []

-- StringBuilder.replace(IILjava/lang/String;)Ljava/lang/StringBuilder;: 0 iload_2, 1 aload_0, 2 getfield text, 5
-- invokevirtual String.length, 8 if_icmpge 15, 11 iload_2, 12 goto 22, 15 aload_0, 16 getfield text, 19 invokevirtual
-- String.length, 22 istore 4, 24 iload_1, 25 iflt 45, 28 iload_1, 29 aload_0, 30 getfield text, 33 invokevirtual
-- String.length, 36 if_icmpgt 45, 39 iload_1, 40 iload 4, 42 if_icmple 53, 45 new StringIndexOutOfBoundsException, 48
-- dup, 49 invokespecial StringIndexOutOfBoundsException.<init>, 52 athrow, 53 aload_0, 54 aload_0, 55 getfield text, 58
-- iconst_0, 59 iload_1, 60 invokevirtual String.substring, 63 aload_3, 64 invokevirtual String.concat, 67 aload_0, 68
-- getfield text, 71 iload 4, 73 invokevirtual String.substring, 76 invokevirtual String.concat, 79 putfield text, 82
-- aload_0, 83 areturn
abbrev pub string_builder_replace_code : List ℕ
string_builder_replace_code =
    0x1c ∷ 0x2a ∷ 0xb4 ∷ 0 ∷ 61 ∷ 0xb6 ∷ 0 ∷ 50 ∷ 0xa2 ∷ 0 ∷ 7 ∷ 0x1c ∷ 0xa7 ∷ 0 ∷ 10 ∷ 0x2a ∷ 0xb4 ∷ 0 ∷ 61 ∷ 0xb6 ∷ 0
    ∷ 50 ∷ 0x36 ∷ 4 ∷ 0x1b ∷ 0x9b ∷ 0 ∷ 20 ∷ 0x1b ∷ 0x2a ∷ 0xb4 ∷ 0 ∷ 61 ∷ 0xb6 ∷ 0 ∷ 50 ∷ 0xa3 ∷ 0 ∷ 9 ∷ 0x1b ∷ 0x15
    ∷ 4 ∷ 0xa4 ∷ 0 ∷ 11 ∷ 0xbb ∷ 0 ∷ 67 ∷ 0x59 ∷ 0xb7 ∷ 0 ∷ 68 ∷ 0xbf ∷ 0x2a ∷ 0x2a ∷ 0xb4 ∷ 0 ∷ 61 ∷ 0x03 ∷ 0x1b ∷ 0xb6
    ∷ 0 ∷ 57 ∷ 0x2d ∷ 0xb6 ∷ 0 ∷ 86 ∷ 0x2a ∷ 0xb4 ∷ 0 ∷ 61 ∷ 0x15 ∷ 4 ∷ 0xb6 ∷ 0 ∷ 89 ∷ 0xb6 ∷ 0 ∷ 86 ∷ 0xb5 ∷ 0 ∷ 61
    ∷ 0x2a ∷ 0xb0 ∷ []

-- StringBuilder.insert(ILjava/lang/String;)Ljava/lang/StringBuilder;: 0 aload_0, 1 iload_1, 2 iload_1, 3 aload_2, 4
-- ifnonnull 12, 7 ldc #8, 9 goto 13, 12 aload_2, 13 invokevirtual replace, 16 areturn
abbrev pub string_builder_insert_code : List ℕ
string_builder_insert_code =
    0x2a ∷ 0x1b ∷ 0x1b ∷ 0x2c ∷ 0xc7 ∷ 0 ∷ 8 ∷ 0x12 ∷ 8 ∷ 0xa7 ∷ 0 ∷ 4 ∷ 0x2c ∷ 0xb6 ∷ 0 ∷ 82 ∷ 0xb0 ∷ []

-- StringBuilder.insert(ILjava/lang/Object;)Ljava/lang/StringBuilder;: 0 aload_0, 1 iload_1, 2 aload_2, 3 invokestatic
-- String.valueOf, 6 invokevirtual insert, 9 areturn
abbrev pub string_builder_insert_2_code : List ℕ
string_builder_insert_2_code =
    0x2a ∷ 0x1b ∷ 0x2c ∷ 0xb8 ∷ 0 ∷ 33 ∷ 0xb6 ∷ 0 ∷ 93 ∷ 0xb0 ∷ []

-- StringBuilder.insert(I[C)Ljava/lang/StringBuilder;: 0 aload_0, 1 iload_1, 2 iload_1, 3 aload_2, 4 invokestatic
-- String.valueOf, 7 invokevirtual replace, 10 areturn
abbrev pub string_builder_insert_3_code : List ℕ
string_builder_insert_3_code =
    0x2a ∷ 0x1b ∷ 0x1b ∷ 0x2c ∷ 0xb8 ∷ 0 ∷ 43 ∷ 0xb6 ∷ 0 ∷ 82 ∷ 0xb0 ∷ []

-- StringBuilder.insert(I[CII)Ljava/lang/StringBuilder;: 0 aload_0, 1 iload_1, 2 iload_1, 3 aload_2, 4 iload_3, 5 iload
-- 4, 7 invokestatic String.valueOf, 10 invokevirtual replace, 13 areturn
abbrev pub string_builder_insert_4_code : List ℕ
string_builder_insert_4_code =
    0x2a ∷ 0x1b ∷ 0x1b ∷ 0x2c ∷ 0x1d ∷ 0x15 ∷ 4 ∷ 0xb8 ∷ 0 ∷ 46 ∷ 0xb6 ∷ 0 ∷ 82 ∷ 0xb0 ∷ []

-- StringBuilder.insert(ILjava/lang/CharSequence;)Ljava/lang/StringBuilder;: 0 aload_0, 1 iload_1, 2 iload_1, 3 aload_2,
-- 4 ifnonnull 12, 7 ldc #8, 9 goto 18, 12 aload_2, 13 invokeinterface CharSequence.toString, 18 invokevirtual replace,
-- 21 areturn
abbrev pub string_builder_insert_5_code : List ℕ
string_builder_insert_5_code =
    0x2a ∷ 0x1b ∷ 0x1b ∷ 0x2c ∷ 0xc7 ∷ 0 ∷ 8 ∷ 0x12 ∷ 8 ∷ 0xa7 ∷ 0 ∷ 9 ∷ 0x2c ∷ 0xb9 ∷ 0 ∷ 24 ∷ 1 ∷ 0 ∷ 0xb6 ∷ 0 ∷ 82
    ∷ 0xb0 ∷ []

-- StringBuilder.insert(ILjava/lang/CharSequence;II)Ljava/lang/StringBuilder;: 0 aload_2, 1 ifnonnull 9, 4 ldc #8, 6
-- goto 15, 9 aload_2, 10 invokeinterface CharSequence.toString, 15 astore 5, 17 iload_1, 18 iflt 52, 21 iload_1, 22
-- aload_0, 23 getfield text, 26 invokevirtual String.length, 29 if_icmpgt 52, 32 iload_3, 33 iflt 52, 36 iload_3, 37
-- iload 4, 39 if_icmpgt 52, 42 iload 4, 44 aload 5, 46 invokevirtual String.length, 49 if_icmple 60, 52 new
-- IndexOutOfBoundsException, 55 dup, 56 invokespecial IndexOutOfBoundsException.<init>, 59 athrow, 60 aload_0, 61
-- iload_1, 62 iload_1, 63 aload 5, 65 iload_3, 66 iload 4, 68 invokevirtual String.substring, 71 invokevirtual replace,
-- 74 areturn
abbrev pub string_builder_insert_6_code : List ℕ
string_builder_insert_6_code =
    0x2c ∷ 0xc7 ∷ 0 ∷ 8 ∷ 0x12 ∷ 8 ∷ 0xa7 ∷ 0 ∷ 9 ∷ 0x2c ∷ 0xb9 ∷ 0 ∷ 24 ∷ 1 ∷ 0 ∷ 0x3a ∷ 5 ∷ 0x1b ∷ 0x9b ∷ 0 ∷ 34
    ∷ 0x1b ∷ 0x2a ∷ 0xb4 ∷ 0 ∷ 61 ∷ 0xb6 ∷ 0 ∷ 50 ∷ 0xa3 ∷ 0 ∷ 23 ∷ 0x1d ∷ 0x9b ∷ 0 ∷ 19 ∷ 0x1d ∷ 0x15 ∷ 4 ∷ 0xa3 ∷ 0
    ∷ 13 ∷ 0x15 ∷ 4 ∷ 0x19 ∷ 5 ∷ 0xb6 ∷ 0 ∷ 50 ∷ 0xa4 ∷ 0 ∷ 11 ∷ 0xbb ∷ 0 ∷ 52 ∷ 0x59 ∷ 0xb7 ∷ 0 ∷ 53 ∷ 0xbf ∷ 0x2a
    ∷ 0x1b ∷ 0x1b ∷ 0x19 ∷ 5 ∷ 0x1d ∷ 0x15 ∷ 4 ∷ 0xb6 ∷ 0 ∷ 57 ∷ 0xb6 ∷ 0 ∷ 82 ∷ 0xb0 ∷ []

-- StringBuilder.insert(IC)Ljava/lang/StringBuilder;: 0 aload_0, 1 iload_1, 2 iload_1, 3 iload_2, 4 invokestatic
-- String.valueOf, 7 invokevirtual replace, 10 areturn
abbrev pub string_builder_insert_7_code : List ℕ
string_builder_insert_7_code =
    0x2a ∷ 0x1b ∷ 0x1b ∷ 0x1c ∷ 0xb8 ∷ 0 ∷ 78 ∷ 0xb6 ∷ 0 ∷ 82 ∷ 0xb0 ∷ []

-- StringBuilder.insert(II)Ljava/lang/StringBuilder;: 0 aload_0, 1 iload_1, 2 iload_1, 3 iload_2, 4 invokestatic
-- String.valueOf, 7 invokevirtual replace, 10 areturn
abbrev pub string_builder_insert_8_code : List ℕ
string_builder_insert_8_code =
    0x2a ∷ 0x1b ∷ 0x1b ∷ 0x1c ∷ 0xb8 ∷ 0 ∷ 95 ∷ 0xb6 ∷ 0 ∷ 82 ∷ 0xb0 ∷ []

-- StringBuilder.insert(IZ)Ljava/lang/StringBuilder;: 0 aload_0, 1 iload_1, 2 iload_1, 3 iload_2, 4 invokestatic
-- String.valueOf, 7 invokevirtual replace, 10 areturn
abbrev pub string_builder_insert_9_code : List ℕ
string_builder_insert_9_code =
    0x2a ∷ 0x1b ∷ 0x1b ∷ 0x1c ∷ 0xb8 ∷ 0 ∷ 40 ∷ 0xb6 ∷ 0 ∷ 82 ∷ 0xb0 ∷ []

-- StringBuilder.indexOf(Ljava/lang/String;)I: 0 aload_0, 1 getfield text, 4 aload_1, 5 invokevirtual String.indexOf, 8
-- ireturn
abbrev pub string_builder_index_of_code : List ℕ
string_builder_index_of_code =
    0x2a ∷ 0xb4 ∷ 0 ∷ 61 ∷ 0x2b ∷ 0xb6 ∷ 0 ∷ 99 ∷ 0xac ∷ []

-- StringBuilder.indexOf(Ljava/lang/String;I)I: 0 aload_0, 1 getfield text, 4 aload_1, 5 iload_2, 6 invokevirtual
-- String.indexOf, 9 ireturn
abbrev pub string_builder_index_of_2_code : List ℕ
string_builder_index_of_2_code =
    0x2a ∷ 0xb4 ∷ 0 ∷ 61 ∷ 0x2b ∷ 0x1c ∷ 0xb6 ∷ 0 ∷ 102 ∷ 0xac ∷ []

-- StringBuilder.lastIndexOf(Ljava/lang/String;)I: 0 aload_0, 1 getfield text, 4 aload_1, 5 invokevirtual
-- String.lastIndexOf, 8 ireturn
abbrev pub string_builder_last_index_of_code : List ℕ
string_builder_last_index_of_code =
    0x2a ∷ 0xb4 ∷ 0 ∷ 61 ∷ 0x2b ∷ 0xb6 ∷ 0 ∷ 105 ∷ 0xac ∷ []

-- StringBuilder.lastIndexOf(Ljava/lang/String;I)I: 0 aload_0, 1 getfield text, 4 aload_1, 5 iload_2, 6 invokevirtual
-- String.lastIndexOf, 9 ireturn
abbrev pub string_builder_last_index_of_2_code : List ℕ
string_builder_last_index_of_2_code =
    0x2a ∷ 0xb4 ∷ 0 ∷ 61 ∷ 0x2b ∷ 0x1c ∷ 0xb6 ∷ 0 ∷ 107 ∷ 0xac ∷ []

-- StringBuilder.reverse()Ljava/lang/StringBuilder;: 0 new StringBuilder, 3 dup, 4 invokespecial <init>, 7 astore_1, 8
-- aload_0, 9 getfield text, 12 invokevirtual String.length, 15 iconst_1, 16 isub, 17 istore_2, 18 iload_2, 19 iflt 95,
-- 22 aload_0, 23 getfield text, 26 iload_2, 27 invokevirtual String.charAt, 30 istore_3, 31 iload_3, 32 ldc 56320, 34
-- if_icmplt 83, 37 iload_3, 38 ldc 57344, 40 if_icmpge 83, 43 iload_2, 44 ifle 83, 47 aload_0, 48 getfield text, 51
-- iload_2, 52 iconst_1, 53 isub, 54 invokevirtual String.charAt, 57 istore 4, 59 iload 4, 61 ldc 55296, 63 if_icmplt
-- 83, 66 iload 4, 68 ldc 56320, 70 if_icmpge 83, 73 aload_1, 74 iload 4, 76 invokevirtual append, 79 pop, 80 iinc 2 -1,
-- 83 aload_1, 84 iload_3, 85 invokevirtual append, 88 pop, 89 iinc 2 -1, 92 goto 18, 95 aload_0, 96 aload_1, 97
-- getfield text, 100 putfield text, 103 aload_0, 104 areturn
abbrev pub string_builder_reverse_code : List ℕ
string_builder_reverse_code =
    0xbb ∷ 0 ∷ 2 ∷ 0x59 ∷ 0xb7 ∷ 0 ∷ 17 ∷ 0x4c ∷ 0x2a ∷ 0xb4 ∷ 0 ∷ 61 ∷ 0xb6 ∷ 0 ∷ 50 ∷ 0x04 ∷ 0x64 ∷ 0x3d ∷ 0x1c ∷ 0x9b
    ∷ 0 ∷ 76 ∷ 0x2a ∷ 0xb4 ∷ 0 ∷ 61 ∷ 0x1c ∷ 0xb6 ∷ 0 ∷ 65 ∷ 0x3e ∷ 0x1d ∷ 0x12 ∷ 11 ∷ 0xa1 ∷ 0 ∷ 49 ∷ 0x1d ∷ 0x12 ∷ 12
    ∷ 0xa2 ∷ 0 ∷ 43 ∷ 0x1c ∷ 0x9e ∷ 0 ∷ 39 ∷ 0x2a ∷ 0xb4 ∷ 0 ∷ 61 ∷ 0x1c ∷ 0x04 ∷ 0x64 ∷ 0xb6 ∷ 0 ∷ 65 ∷ 0x36 ∷ 4 ∷ 0x15
    ∷ 4 ∷ 0x12 ∷ 13 ∷ 0xa1 ∷ 0 ∷ 20 ∷ 0x15 ∷ 4 ∷ 0x12 ∷ 11 ∷ 0xa2 ∷ 0 ∷ 13 ∷ 0x2b ∷ 0x15 ∷ 4 ∷ 0xb6 ∷ 0 ∷ 71 ∷ 0x57
    ∷ 0x84 ∷ 2 ∷ 255 ∷ 0x2b ∷ 0x1d ∷ 0xb6 ∷ 0 ∷ 71 ∷ 0x57 ∷ 0x84 ∷ 2 ∷ 255 ∷ 0xa7 ∷ 255 ∷ 182 ∷ 0x2a ∷ 0x2b ∷ 0xb4 ∷ 0
    ∷ 61 ∷ 0xb5 ∷ 0 ∷ 61 ∷ 0x2a ∷ 0xb0 ∷ []

-- StringBuilder.substring(I)Ljava/lang/String;: 0 aload_0, 1 getfield text, 4 iload_1, 5 invokevirtual
-- String.substring, 8 areturn
abbrev pub string_builder_substring_code : List ℕ
string_builder_substring_code =
    0x2a ∷ 0xb4 ∷ 0 ∷ 61 ∷ 0x1b ∷ 0xb6 ∷ 0 ∷ 89 ∷ 0xb0 ∷ []

-- StringBuilder.substring(II)Ljava/lang/String;: 0 aload_0, 1 getfield text, 4 iload_1, 5 iload_2, 6 invokevirtual
-- String.substring, 9 areturn
abbrev pub string_builder_substring_2_code : List ℕ
string_builder_substring_2_code =
    0x2a ∷ 0xb4 ∷ 0 ∷ 61 ∷ 0x1b ∷ 0x1c ∷ 0xb6 ∷ 0 ∷ 57 ∷ 0xb0 ∷ []

-- StringBuilder.subSequence(II)Ljava/lang/CharSequence;: 0 aload_0, 1 getfield text, 4 iload_1, 5 iload_2, 6
-- invokevirtual String.substring, 9 areturn
abbrev pub string_builder_sub_sequence_code : List ℕ
string_builder_sub_sequence_code =
    0x2a ∷ 0xb4 ∷ 0 ∷ 61 ∷ 0x1b ∷ 0x1c ∷ 0xb6 ∷ 0 ∷ 57 ∷ 0xb0 ∷ []

abbrev pub string_builder_coded : List Coded
string_builder_coded =
    coded 0x0001 14 108 2 2 string_builder_init_code
    ∷ coded 0x0001 14 109 2 2 string_builder_init_2_code
    ∷ coded 0x0001 34 110 2 2 string_builder_append_code
    ∷ coded 0x0001 34 111 2 2 string_builder_append_2_code
    ∷ coded 0x0001 34 112 2 2 string_builder_append_3_code
    ∷ coded 0x0001 34 113 4 4 string_builder_append_4_code
    ∷ coded 0x0001 34 114 2 2 string_builder_append_5_code
    ∷ coded 0x0001 34 115 4 5 string_builder_append_6_code
    ∷ coded 0x0001 47 48 1 1 string_builder_length_code
    ∷ coded 0x0001 62 63 2 2 string_builder_char_at_code
    ∷ coded 0x0001 116 48 2 1 string_builder_capacity_code
    ∷ coded 0x0001 117 108 0 2 string_builder_ensure_capacity_code
    ∷ coded 0x0001 118 15 0 1 string_builder_trim_to_size_code
    ∷ coded 0x0001 119 108 4 2 string_builder_set_length_code
    ∷ coded 0x0001 72 73 5 5 string_builder_get_chars_code
    ∷ coded 0x0001 120 121 4 3 string_builder_set_char_at_code
    ∷ coded 0x0001 122 123 4 2 string_builder_delete_char_at_code
    ∷ coded 0x0001 124 125 4 3 string_builder_delete_code
    ∷ coded 0x0001 79 80 4 5 string_builder_replace_code
    ∷ coded 0x0001 90 91 4 3 string_builder_insert_code
    ∷ coded 0x0001 90 126 3 3 string_builder_insert_2_code
    ∷ coded 0x0001 90 127 4 3 string_builder_insert_3_code
    ∷ coded 0x0001 90 128 6 5 string_builder_insert_4_code
    ∷ coded 0x0001 90 129 4 3 string_builder_insert_5_code
    ∷ coded 0x0001 90 130 6 6 string_builder_insert_6_code
    ∷ coded 0x0001 90 131 4 3 string_builder_insert_7_code
    ∷ coded 0x0001 90 125 4 3 string_builder_insert_8_code
    ∷ coded 0x0001 90 132 4 3 string_builder_insert_9_code
    ∷ coded 0x0001 96 97 2 2 string_builder_index_of_code
    ∷ coded 0x0001 96 100 3 3 string_builder_index_of_2_code
    ∷ coded 0x0001 103 97 2 2 string_builder_last_index_of_code
    ∷ coded 0x0001 103 100 3 3 string_builder_last_index_of_2_code
    ∷ coded 0x0001 133 134 3 5 string_builder_reverse_code
    ∷ coded 0x0001 54 87 2 2 string_builder_substring_code
    ∷ coded 0x0001 54 55 3 3 string_builder_substring_2_code
    ∷ coded 0x0001 135 136 3 3 string_builder_sub_sequence_code
    ∷ []

abbrev pub string_builder_methods : List Declared
string_builder_methods =
    constructor
    ∷ with_message
    ∷ declared native_method (codes "append") (codes "(Ljava/lang/String;)Ljava/lang/StringBuilder;")
    ∷ declared native_method (codes "append") (codes "(I)Ljava/lang/StringBuilder;")
    ∷ declared native_method (codes "append") (codes "(C)Ljava/lang/StringBuilder;")
    ∷ declared native_method (codes "append") (codes "(Ljava/lang/StringBuilder;)Ljava/lang/StringBuilder;")
    ∷ declared native_method (codes "toString") (codes "()Ljava/lang/String;")
    ∷ []

abbrev pub string_builder_operands : List Entry
string_builder_operands =
    Utf8 (codes "null") ∷ String 7 ∷ Utf8 (codes "") ∷ String 9 ∷ Integer 56320 ∷ Integer 57344 ∷ Integer 55296
    ∷ Utf8 (codes "<init>") ∷ Utf8 (codes "()V") ∷ NameAndType 14 15 ∷ Method 2 16
    ∷ Utf8 (codes "java/lang/NegativeArraySizeException") ∷ Class 18 ∷ Method 19 16 ∷ Utf8 (codes "toString")
    ∷ Utf8 (codes "()Ljava/lang/String;") ∷ NameAndType 21 22 ∷ InterfaceMethod 6 23
    ∷ Utf8 (codes "(Ljava/lang/String;)V") ∷ NameAndType 14 25 ∷ Method 2 26 ∷ Utf8 (codes "java/lang/String")
    ∷ Class 28 ∷ Utf8 (codes "valueOf") ∷ Utf8 (codes "(Ljava/lang/Object;)Ljava/lang/String;") ∷ NameAndType 30 31
    ∷ Method 29 32 ∷ Utf8 (codes "append") ∷ Utf8 (codes "(Ljava/lang/String;)Ljava/lang/StringBuilder;")
    ∷ NameAndType 34 35 ∷ Method 2 36 ∷ Utf8 (codes "(Z)Ljava/lang/String;") ∷ NameAndType 30 38 ∷ Method 29 39
    ∷ Utf8 (codes "([C)Ljava/lang/String;") ∷ NameAndType 30 41 ∷ Method 29 42 ∷ Utf8 (codes "([CII)Ljava/lang/String;")
    ∷ NameAndType 30 44 ∷ Method 29 45 ∷ Utf8 (codes "length") ∷ Utf8 (codes "()I") ∷ NameAndType 47 48 ∷ Method 29 49
    ∷ Utf8 (codes "java/lang/IndexOutOfBoundsException") ∷ Class 51 ∷ Method 52 16 ∷ Utf8 (codes "substring")
    ∷ Utf8 (codes "(II)Ljava/lang/String;") ∷ NameAndType 54 55 ∷ Method 29 56 ∷ Utf8 (codes "text")
    ∷ Utf8 (codes "Ljava/lang/String;") ∷ NameAndType 58 59 ∷ Field 2 60 ∷ Utf8 (codes "charAt") ∷ Utf8 (codes "(I)C")
    ∷ NameAndType 62 63 ∷ Method 29 64 ∷ Utf8 (codes "java/lang/StringIndexOutOfBoundsException") ∷ Class 66
    ∷ Method 67 16 ∷ Utf8 (codes "(C)Ljava/lang/StringBuilder;") ∷ NameAndType 34 69 ∷ Method 2 70
    ∷ Utf8 (codes "getChars") ∷ Utf8 (codes "(II[CI)V") ∷ NameAndType 72 73 ∷ Method 29 74
    ∷ Utf8 (codes "(C)Ljava/lang/String;") ∷ NameAndType 30 76 ∷ Method 29 77 ∷ Utf8 (codes "replace")
    ∷ Utf8 (codes "(IILjava/lang/String;)Ljava/lang/StringBuilder;") ∷ NameAndType 79 80 ∷ Method 2 81
    ∷ Utf8 (codes "concat") ∷ Utf8 (codes "(Ljava/lang/String;)Ljava/lang/String;") ∷ NameAndType 83 84 ∷ Method 29 85
    ∷ Utf8 (codes "(I)Ljava/lang/String;") ∷ NameAndType 54 87 ∷ Method 29 88 ∷ Utf8 (codes "insert")
    ∷ Utf8 (codes "(ILjava/lang/String;)Ljava/lang/StringBuilder;") ∷ NameAndType 90 91 ∷ Method 2 92
    ∷ NameAndType 30 87 ∷ Method 29 94 ∷ Utf8 (codes "indexOf") ∷ Utf8 (codes "(Ljava/lang/String;)I")
    ∷ NameAndType 96 97 ∷ Method 29 98 ∷ Utf8 (codes "(Ljava/lang/String;I)I") ∷ NameAndType 96 100 ∷ Method 29 101
    ∷ Utf8 (codes "lastIndexOf") ∷ NameAndType 103 97 ∷ Method 29 104 ∷ NameAndType 103 100 ∷ Method 29 106
    ∷ Utf8 (codes "(I)V") ∷ Utf8 (codes "(Ljava/lang/CharSequence;)V")
    ∷ Utf8 (codes "(Ljava/lang/Object;)Ljava/lang/StringBuilder;") ∷ Utf8 (codes "(Z)Ljava/lang/StringBuilder;")
    ∷ Utf8 (codes "([C)Ljava/lang/StringBuilder;") ∷ Utf8 (codes "([CII)Ljava/lang/StringBuilder;")
    ∷ Utf8 (codes "(Ljava/lang/CharSequence;)Ljava/lang/StringBuilder;")
    ∷ Utf8 (codes "(Ljava/lang/CharSequence;II)Ljava/lang/StringBuilder;") ∷ Utf8 (codes "capacity")
    ∷ Utf8 (codes "ensureCapacity") ∷ Utf8 (codes "trimToSize") ∷ Utf8 (codes "setLength") ∷ Utf8 (codes "setCharAt")
    ∷ Utf8 (codes "(IC)V") ∷ Utf8 (codes "deleteCharAt") ∷ Utf8 (codes "(I)Ljava/lang/StringBuilder;")
    ∷ Utf8 (codes "delete") ∷ Utf8 (codes "(II)Ljava/lang/StringBuilder;")
    ∷ Utf8 (codes "(ILjava/lang/Object;)Ljava/lang/StringBuilder;") ∷ Utf8 (codes "(I[C)Ljava/lang/StringBuilder;")
    ∷ Utf8 (codes "(I[CII)Ljava/lang/StringBuilder;")
    ∷ Utf8 (codes "(ILjava/lang/CharSequence;)Ljava/lang/StringBuilder;")
    ∷ Utf8 (codes "(ILjava/lang/CharSequence;II)Ljava/lang/StringBuilder;")
    ∷ Utf8 (codes "(IC)Ljava/lang/StringBuilder;") ∷ Utf8 (codes "(IZ)Ljava/lang/StringBuilder;")
    ∷ Utf8 (codes "reverse") ∷ Utf8 (codes "()Ljava/lang/StringBuilder;") ∷ Utf8 (codes "subSequence")
    ∷ Utf8 (codes "(II)Ljava/lang/CharSequence;") ∷ Utf8 (codes "Code") ∷ []

abbrev pub string_builder_class : FileTree
string_builder_class =
    tree_of (record {
      flags = final_class;
      name = codes "java/lang/StringBuilder";
      superclass = Some (codes "java/lang/Object");
      interfaces = codes "java/lang/CharSequence" ∷ [];
      operands = string_builder_operands;
      fields = field 0x0002 58 59 ∷ [];
      coded = string_builder_coded;
      natives = string_builder_methods;
    })
