-- The class java/lang/Throwable (own).
-- Made by `tools/build-built-in` of the class files of builtin/classes. Not to be edited.
use Rattle.std.specs.Prelude.{ℕ, List, [], ◌∷◌, Some, codes}
use Rattle.model.specs.Tree.{Entry, Utf8, Class, String, Field, Method, NameAndType, FileTree}
use Rattle.model.specs.BuiltInForm.{field, Coded, coded, tree_of, public_class, constructor, with_message, with_cause}

-- Throwable.<init>(Ljava/lang/Throwable;)V: 0 aload_0, 1 aload_1, 2 ifnonnull 9, 5 aconst_null, 6 goto 13, 9 aload_1,
-- 10 invokevirtual toString, 13 aload_1, 14 invokespecial <init>, 17 return
abbrev pub throwable_init_code : List ℕ
throwable_init_code =
    0x2a ∷ 0x2b ∷ 0xc7 ∷ 0 ∷ 7 ∷ 0x01 ∷ 0xa7 ∷ 0 ∷ 7 ∷ 0x2b ∷ 0xb6 ∷ 0 ∷ 22 ∷ 0x2b ∷ 0xb7 ∷ 0 ∷ 26 ∷ 0xb1 ∷ []

-- Throwable.getMessage()Ljava/lang/String;: 0 aload_0, 1 getfield message, 4 areturn
abbrev pub throwable_get_message_code : List ℕ
throwable_get_message_code =
    0x2a ∷ 0xb4 ∷ 0 ∷ 30 ∷ 0xb0 ∷ []

-- Throwable.getLocalizedMessage()Ljava/lang/String;: 0 aload_0, 1 invokevirtual getMessage, 4 areturn
abbrev pub throwable_get_localized_message_code : List ℕ
throwable_get_localized_message_code =
    0x2a ∷ 0xb6 ∷ 0 ∷ 33 ∷ 0xb0 ∷ []

-- Throwable.getCause()Ljava/lang/Throwable;: 0 aload_0, 1 getfield cause, 4 areturn
abbrev pub throwable_get_cause_code : List ℕ
throwable_get_cause_code =
    0x2a ∷ 0xb4 ∷ 0 ∷ 37 ∷ 0xb0 ∷ []

-- Throwable.initCause(Ljava/lang/Throwable;)Ljava/lang/Throwable;: 0 aload_0, 1 getfield cause, 4 ifnull 36, 7 aload_1,
-- 8 ifnonnull 16, 11 ldc #6, 13 goto 20, 16 aload_1, 17 invokevirtual toString, 20 astore_2, 21 new
-- IllegalStateException, 24 dup, 25 ldc #8, 27 aload_2, 28 invokevirtual String.concat, 31 aload_0, 32 invokespecial
-- IllegalStateException.<init>, 35 athrow, 36 aload_1, 37 aload_0, 38 if_acmpne 52, 41 new IllegalArgumentException, 44
-- dup, 45 ldc #10, 47 aload_0, 48 invokespecial IllegalArgumentException.<init>, 51 athrow, 52 aload_0, 53 aload_1, 54
-- putfield cause, 57 aload_0, 58 areturn
abbrev pub throwable_init_cause_code : List ℕ
throwable_init_cause_code =
    0x2a ∷ 0xb4 ∷ 0 ∷ 37 ∷ 0xc6 ∷ 0 ∷ 32 ∷ 0x2b ∷ 0xc7 ∷ 0 ∷ 8 ∷ 0x12 ∷ 6 ∷ 0xa7 ∷ 0 ∷ 7 ∷ 0x2b ∷ 0xb6 ∷ 0 ∷ 22 ∷ 0x4d
    ∷ 0xbb ∷ 0 ∷ 39 ∷ 0x59 ∷ 0x12 ∷ 8 ∷ 0x2c ∷ 0xb6 ∷ 0 ∷ 45 ∷ 0x2a ∷ 0xb7 ∷ 0 ∷ 46 ∷ 0xbf ∷ 0x2b ∷ 0x2a ∷ 0xa6 ∷ 0 ∷ 14
    ∷ 0xbb ∷ 0 ∷ 48 ∷ 0x59 ∷ 0x12 ∷ 10 ∷ 0x2a ∷ 0xb7 ∷ 0 ∷ 49 ∷ 0xbf ∷ 0x2a ∷ 0x2b ∷ 0xb5 ∷ 0 ∷ 37 ∷ 0x2a ∷ 0xb0 ∷ []

-- Throwable.toString()Ljava/lang/String;: 0 aload_0, 1 invokevirtual Object.getClass, 4 invokevirtual Class.getName, 7
-- astore_1, 8 aload_0, 9 invokevirtual getLocalizedMessage, 12 astore_2, 13 aload_2, 14 ifnonnull 21, 17 aload_1, 18
-- goto 31, 21 aload_1, 22 ldc #12, 24 invokevirtual String.concat, 27 aload_2, 28 invokevirtual String.concat, 31
-- areturn
abbrev pub throwable_to_string_code : List ℕ
throwable_to_string_code =
    0x2a ∷ 0xb6 ∷ 0 ∷ 53 ∷ 0xb6 ∷ 0 ∷ 58 ∷ 0x4c ∷ 0x2a ∷ 0xb6 ∷ 0 ∷ 61 ∷ 0x4d ∷ 0x2c ∷ 0xc7 ∷ 0 ∷ 7 ∷ 0x2b ∷ 0xa7 ∷ 0
    ∷ 13 ∷ 0x2b ∷ 0x12 ∷ 12 ∷ 0xb6 ∷ 0 ∷ 45 ∷ 0x2c ∷ 0xb6 ∷ 0 ∷ 45 ∷ 0xb0 ∷ []

-- Throwable.printStackTrace()V: 0 aload_0, 1 getstatic System.err, 4 invokevirtual printStackTrace, 7 return
abbrev pub throwable_print_stack_trace_code : List ℕ
throwable_print_stack_trace_code =
    0x2a ∷ 0xb2 ∷ 0 ∷ 67 ∷ 0xb6 ∷ 0 ∷ 71 ∷ 0xb1 ∷ []

-- Throwable.printStackTrace(Ljava/io/PrintStream;)V: 0 aload_1, 1 aload_0, 2 invokevirtual PrintStream.println, 5
-- iconst_0, 6 istore_2, 7 aload_0, 8 invokevirtual getCause, 11 astore_3, 12 aload_3, 13 ifnull 77, 16 aload_0, 17
-- astore 4, 19 iconst_0, 20 istore 5, 22 iload 5, 24 iload_2, 25 if_icmpgt 53, 28 aload 4, 30 ifnull 53, 33 aload 4, 35
-- aload_3, 36 if_acmpne 40, 39 return, 40 aload 4, 42 invokevirtual getCause, 45 astore 4, 47 iinc 5 1, 50 goto 22, 53
-- aload_1, 54 ldc #14, 56 aload_3, 57 invokevirtual toString, 60 invokevirtual String.concat, 63 invokevirtual
-- PrintStream.println, 66 iinc 2 1, 69 aload_3, 70 invokevirtual getCause, 73 astore_3, 74 goto 12, 77 return
abbrev pub throwable_print_stack_trace_2_code : List ℕ
throwable_print_stack_trace_2_code =
    0x2b ∷ 0x2a ∷ 0xb6 ∷ 0 ∷ 77 ∷ 0x03 ∷ 0x3d ∷ 0x2a ∷ 0xb6 ∷ 0 ∷ 81 ∷ 0x4e ∷ 0x2d ∷ 0xc6 ∷ 0 ∷ 64 ∷ 0x2a ∷ 0x3a ∷ 4
    ∷ 0x03 ∷ 0x36 ∷ 5 ∷ 0x15 ∷ 5 ∷ 0x1c ∷ 0xa3 ∷ 0 ∷ 28 ∷ 0x19 ∷ 4 ∷ 0xc6 ∷ 0 ∷ 23 ∷ 0x19 ∷ 4 ∷ 0x2d ∷ 0xa6 ∷ 0 ∷ 4
    ∷ 0xb1 ∷ 0x19 ∷ 4 ∷ 0xb6 ∷ 0 ∷ 81 ∷ 0x3a ∷ 4 ∷ 0x84 ∷ 5 ∷ 1 ∷ 0xa7 ∷ 255 ∷ 228 ∷ 0x2b ∷ 0x12 ∷ 14 ∷ 0x2d ∷ 0xb6 ∷ 0
    ∷ 22 ∷ 0xb6 ∷ 0 ∷ 45 ∷ 0xb6 ∷ 0 ∷ 84 ∷ 0x84 ∷ 2 ∷ 1 ∷ 0x2d ∷ 0xb6 ∷ 0 ∷ 81 ∷ 0x4e ∷ 0xa7 ∷ 255 ∷ 194 ∷ 0xb1 ∷ []

-- Throwable.fillInStackTrace()Ljava/lang/Throwable;: 0 aload_0, 1 areturn
abbrev pub throwable_fill_in_stack_trace_code : List ℕ
throwable_fill_in_stack_trace_code =
    0x2a ∷ 0xb0 ∷ []

-- Throwable.addSuppressed(Ljava/lang/Throwable;)V: 0 aload_1, 1 aload_0, 2 if_acmpne 16, 5 new
-- IllegalArgumentException, 8 dup, 9 ldc #16, 11 aload_1, 12 invokespecial IllegalArgumentException.<init>, 15 athrow,
-- 16 aload_1, 17 ifnonnull 30, 20 new NullPointerException, 23 dup, 24 ldc #18, 26 invokespecial
-- NullPointerException.<init>, 29 athrow, 30 aload_0, 31 getfield suppressed, 34 ifnonnull 41, 37 iconst_0, 38 goto 46,
-- 41 aload_0, 42 getfield suppressed, 45 arraylength, 46 istore_2, 47 iload_2, 48 iconst_1, 49 iadd, 50 anewarray
-- Throwable, 53 astore_3, 54 iconst_0, 55 istore 4, 57 iload 4, 59 iload_2, 60 if_icmpge 80, 63 aload_3, 64 iload 4, 66
-- aload_0, 67 getfield suppressed, 70 iload 4, 72 aaload, 73 aastore, 74 iinc 4 1, 77 goto 57, 80 aload_3, 81 iload_2,
-- 82 aload_1, 83 aastore, 84 aload_0, 85 aload_3, 86 putfield suppressed, 89 return
abbrev pub throwable_add_suppressed_code : List ℕ
throwable_add_suppressed_code =
    0x2b ∷ 0x2a ∷ 0xa6 ∷ 0 ∷ 14 ∷ 0xbb ∷ 0 ∷ 48 ∷ 0x59 ∷ 0x12 ∷ 16 ∷ 0x2b ∷ 0xb7 ∷ 0 ∷ 49 ∷ 0xbf ∷ 0x2b ∷ 0xc7 ∷ 0 ∷ 13
    ∷ 0xbb ∷ 0 ∷ 86 ∷ 0x59 ∷ 0x12 ∷ 18 ∷ 0xb7 ∷ 0 ∷ 88 ∷ 0xbf ∷ 0x2a ∷ 0xb4 ∷ 0 ∷ 92 ∷ 0xc7 ∷ 0 ∷ 7 ∷ 0x03 ∷ 0xa7 ∷ 0
    ∷ 8 ∷ 0x2a ∷ 0xb4 ∷ 0 ∷ 92 ∷ 0xbe ∷ 0x3d ∷ 0x1c ∷ 0x04 ∷ 0x60 ∷ 0xbd ∷ 0 ∷ 2 ∷ 0x4e ∷ 0x03 ∷ 0x36 ∷ 4 ∷ 0x15 ∷ 4
    ∷ 0x1c ∷ 0xa2 ∷ 0 ∷ 20 ∷ 0x2d ∷ 0x15 ∷ 4 ∷ 0x2a ∷ 0xb4 ∷ 0 ∷ 92 ∷ 0x15 ∷ 4 ∷ 0x32 ∷ 0x53 ∷ 0x84 ∷ 4 ∷ 1 ∷ 0xa7 ∷ 255
    ∷ 236 ∷ 0x2d ∷ 0x1c ∷ 0x2b ∷ 0x53 ∷ 0x2a ∷ 0x2d ∷ 0xb5 ∷ 0 ∷ 92 ∷ 0xb1 ∷ []

-- Throwable.getSuppressed()[Ljava/lang/Throwable;: 0 aload_0, 1 getfield suppressed, 4 ifnonnull 11, 7 iconst_0, 8 goto
-- 16, 11 aload_0, 12 getfield suppressed, 15 arraylength, 16 istore_1, 17 iload_1, 18 anewarray Throwable, 21 astore_2,
-- 22 iconst_0, 23 istore_3, 24 iload_3, 25 iload_1, 26 if_icmpge 44, 29 aload_2, 30 iload_3, 31 aload_0, 32 getfield
-- suppressed, 35 iload_3, 36 aaload, 37 aastore, 38 iinc 3 1, 41 goto 24, 44 aload_2, 45 areturn
abbrev pub throwable_get_suppressed_code : List ℕ
throwable_get_suppressed_code =
    0x2a ∷ 0xb4 ∷ 0 ∷ 92 ∷ 0xc7 ∷ 0 ∷ 7 ∷ 0x03 ∷ 0xa7 ∷ 0 ∷ 8 ∷ 0x2a ∷ 0xb4 ∷ 0 ∷ 92 ∷ 0xbe ∷ 0x3c ∷ 0x1b ∷ 0xbd ∷ 0 ∷ 2
    ∷ 0x4d ∷ 0x03 ∷ 0x3e ∷ 0x1d ∷ 0x1b ∷ 0xa2 ∷ 0 ∷ 18 ∷ 0x2c ∷ 0x1d ∷ 0x2a ∷ 0xb4 ∷ 0 ∷ 92 ∷ 0x1d ∷ 0x32 ∷ 0x53 ∷ 0x84
    ∷ 3 ∷ 1 ∷ 0xa7 ∷ 255 ∷ 239 ∷ 0x2c ∷ 0xb0 ∷ []

abbrev pub throwable_coded : List Coded
throwable_coded =
    coded 0x0001 23 93 3 2 throwable_init_code
    ∷ coded 0x0001 31 20 1 1 throwable_get_message_code
    ∷ coded 0x0001 59 20 1 1 throwable_get_localized_message_code
    ∷ coded 0x0001 78 79 1 1 throwable_get_cause_code
    ∷ coded 0x0021 94 95 4 3 throwable_init_cause_code
    ∷ coded 0x0001 19 20 2 3 throwable_to_string_code
    ∷ coded 0x0001 68 96 2 1 throwable_print_stack_trace_code
    ∷ coded 0x0001 68 69 3 6 throwable_print_stack_trace_2_code
    ∷ coded 0x0001 97 79 1 1 throwable_fill_in_stack_trace_code
    ∷ coded 0x0031 98 93 4 5 throwable_add_suppressed_code
    ∷ coded 0x0031 99 100 4 4 throwable_get_suppressed_code
    ∷ []

abbrev pub throwable_operands : List Entry
throwable_operands =
    Utf8 (codes "a null") ∷ String 5 ∷ Utf8 (codes "Can't overwrite cause with ") ∷ String 7
    ∷ Utf8 (codes "Self-causation not permitted") ∷ String 9 ∷ Utf8 (codes ": ") ∷ String 11
    ∷ Utf8 (codes "Caused by: ") ∷ String 13 ∷ Utf8 (codes "Self-suppression not permitted") ∷ String 15
    ∷ Utf8 (codes "Cannot suppress a null exception.") ∷ String 17 ∷ Utf8 (codes "toString")
    ∷ Utf8 (codes "()Ljava/lang/String;") ∷ NameAndType 19 20 ∷ Method 2 21 ∷ Utf8 (codes "<init>")
    ∷ Utf8 (codes "(Ljava/lang/String;Ljava/lang/Throwable;)V") ∷ NameAndType 23 24 ∷ Method 2 25
    ∷ Utf8 (codes "message") ∷ Utf8 (codes "Ljava/lang/String;") ∷ NameAndType 27 28 ∷ Field 2 29
    ∷ Utf8 (codes "getMessage") ∷ NameAndType 31 20 ∷ Method 2 32 ∷ Utf8 (codes "cause")
    ∷ Utf8 (codes "Ljava/lang/Throwable;") ∷ NameAndType 34 35 ∷ Field 2 36
    ∷ Utf8 (codes "java/lang/IllegalStateException") ∷ Class 38 ∷ Utf8 (codes "java/lang/String") ∷ Class 40
    ∷ Utf8 (codes "concat") ∷ Utf8 (codes "(Ljava/lang/String;)Ljava/lang/String;") ∷ NameAndType 42 43 ∷ Method 41 44
    ∷ Method 39 25 ∷ Utf8 (codes "java/lang/IllegalArgumentException") ∷ Class 47 ∷ Method 48 25
    ∷ Utf8 (codes "getClass") ∷ Utf8 (codes "()Ljava/lang/Class;") ∷ NameAndType 50 51 ∷ Method 4 52
    ∷ Utf8 (codes "java/lang/Class") ∷ Class 54 ∷ Utf8 (codes "getName") ∷ NameAndType 56 20 ∷ Method 55 57
    ∷ Utf8 (codes "getLocalizedMessage") ∷ NameAndType 59 20 ∷ Method 2 60 ∷ Utf8 (codes "java/lang/System") ∷ Class 62
    ∷ Utf8 (codes "err") ∷ Utf8 (codes "Ljava/io/PrintStream;") ∷ NameAndType 64 65 ∷ Field 63 66
    ∷ Utf8 (codes "printStackTrace") ∷ Utf8 (codes "(Ljava/io/PrintStream;)V") ∷ NameAndType 68 69 ∷ Method 2 70
    ∷ Utf8 (codes "java/io/PrintStream") ∷ Class 72 ∷ Utf8 (codes "println") ∷ Utf8 (codes "(Ljava/lang/Object;)V")
    ∷ NameAndType 74 75 ∷ Method 73 76 ∷ Utf8 (codes "getCause") ∷ Utf8 (codes "()Ljava/lang/Throwable;")
    ∷ NameAndType 78 79 ∷ Method 2 80 ∷ Utf8 (codes "(Ljava/lang/String;)V") ∷ NameAndType 74 82 ∷ Method 73 83
    ∷ Utf8 (codes "java/lang/NullPointerException") ∷ Class 85 ∷ NameAndType 23 82 ∷ Method 86 87
    ∷ Utf8 (codes "suppressed") ∷ Utf8 (codes "[Ljava/lang/Throwable;") ∷ NameAndType 89 90 ∷ Field 2 91
    ∷ Utf8 (codes "(Ljava/lang/Throwable;)V") ∷ Utf8 (codes "initCause")
    ∷ Utf8 (codes "(Ljava/lang/Throwable;)Ljava/lang/Throwable;") ∷ Utf8 (codes "()V") ∷ Utf8 (codes "fillInStackTrace")
    ∷ Utf8 (codes "addSuppressed") ∷ Utf8 (codes "getSuppressed") ∷ Utf8 (codes "()[Ljava/lang/Throwable;")
    ∷ Utf8 (codes "Code") ∷ []

abbrev pub throwable_class : FileTree
throwable_class =
    tree_of (record {
      flags = public_class;
      name = codes "java/lang/Throwable";
      superclass = Some (codes "java/lang/Object");
      interfaces = [];
      operands = throwable_operands;
      fields = field 0x0002 27 28 ∷ field 0x0002 34 35 ∷ field 0x0002 89 90 ∷ [];
      coded = throwable_coded;
      natives = constructor ∷ with_message ∷ with_cause ∷ [];
    })
