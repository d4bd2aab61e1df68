-- The class java/lang/Thread (own).
-- Made by `tools/build-built-in` of the class files of builtin/classes. Not to be edited.
use Rattle.std.specs.Prelude.{ℕ, List, [], ◌∷◌, Some, codes}
use Rattle.model.specs.Tree.{Entry, Utf8, Class, String, Field, Method, InterfaceMethod, NameAndType, FileTree}
use Rattle.model.specs.BuiltInForm.{Declared, declared, field, Coded, coded, tree_of, public_class, native_method, final_native_method, static_native_method, constructor, with_message}

-- Thread.run()V: 0 aload_0, 1 getfield target, 4 ifnull 16, 7 aload_0, 8 getfield target, 11 invokeinterface
-- Runnable.run, 16 return
abbrev pub thread_run_code : List ℕ
thread_run_code =
    0x2a ∷ 0xb4 ∷ 0 ∷ 16 ∷ 0xc6 ∷ 0 ∷ 12 ∷ 0x2a ∷ 0xb4 ∷ 0 ∷ 16 ∷ 0xb9 ∷ 0 ∷ 20 ∷ 1 ∷ 0 ∷ 0xb1 ∷ []

-- Thread.getPriority()I: 0 aload_0, 1 getfield priority, 4 ifne 11, 7 iconst_5, 8 goto 15, 11 aload_0, 12 getfield
-- priority, 15 ireturn
abbrev pub thread_get_priority_code : List ℕ
thread_get_priority_code =
    0x2a ∷ 0xb4 ∷ 0 ∷ 24 ∷ 0x9a ∷ 0 ∷ 7 ∷ 0x08 ∷ 0xa7 ∷ 0 ∷ 7 ∷ 0x2a ∷ 0xb4 ∷ 0 ∷ 24 ∷ 0xac ∷ []

-- Thread.setPriority(I)V: 0 iload_1, 1 iconst_1, 2 if_icmplt 11, 5 iload_1, 6 bipush 10, 8 if_icmple 19, 11 new
-- IllegalArgumentException, 14 dup, 15 invokespecial IllegalArgumentException.<init>, 18 athrow, 19 aload_0, 20
-- iload_1, 21 putfield priority, 24 return
abbrev pub thread_set_priority_code : List ℕ
thread_set_priority_code =
    0x1b ∷ 0x04 ∷ 0xa1 ∷ 0 ∷ 9 ∷ 0x1b ∷ 0x10 ∷ 10 ∷ 0xa4 ∷ 0 ∷ 11 ∷ 0xbb ∷ 0 ∷ 26 ∷ 0x59 ∷ 0xb7 ∷ 0 ∷ 29 ∷ 0xbf ∷ 0x2a
    ∷ 0x1b ∷ 0xb5 ∷ 0 ∷ 24 ∷ 0xb1 ∷ []

-- Thread.toString()Ljava/lang/String;: 0 ldc #8, 2 aload_0, 3 invokevirtual getName, 6 invokevirtual String.concat, 9
-- ldc #10, 11 invokevirtual String.concat, 14 astore_1, 15 aload_1, 16 aload_0, 17 invokevirtual getPriority, 20
-- invokestatic String.valueOf, 23 invokevirtual String.concat, 26 ldc #12, 28 invokevirtual String.concat, 31 areturn
abbrev pub thread_to_string_code : List ℕ
thread_to_string_code =
    0x12 ∷ 8 ∷ 0x2a ∷ 0xb6 ∷ 0 ∷ 33 ∷ 0xb6 ∷ 0 ∷ 39 ∷ 0x12 ∷ 10 ∷ 0xb6 ∷ 0 ∷ 39 ∷ 0x4c ∷ 0x2b ∷ 0x2a ∷ 0xb6 ∷ 0 ∷ 43
    ∷ 0xb8 ∷ 0 ∷ 47 ∷ 0xb6 ∷ 0 ∷ 39 ∷ 0x12 ∷ 12 ∷ 0xb6 ∷ 0 ∷ 39 ∷ 0xb0 ∷ []

abbrev pub thread_coded : List Coded
thread_coded =
    coded 0x0001 17 18 1 1 thread_run_code
    ∷ coded 0x0011 40 41 1 1 thread_get_priority_code
    ∷ coded 0x0011 51 52 2 2 thread_set_priority_code
    ∷ coded 0x0001 53 31 2 2 thread_to_string_code
    ∷ []

abbrev pub thread_methods : List Declared
thread_methods =
    constructor
    ∷ declared native_method (codes "<init>") (codes "(Ljava/lang/Runnable;)V")
    ∷ with_message
    ∷ declared native_method (codes "<init>") (codes "(Ljava/lang/Runnable;Ljava/lang/String;)V")
    ∷ declared final_native_method (codes "getName") (codes "()Ljava/lang/String;")
    ∷ declared final_native_method (codes "setName") (codes "(Ljava/lang/String;)V")
    ∷ declared native_method (codes "start") (codes "()V")
    ∷ declared native_method (codes "interrupt") (codes "()V")
    ∷ declared native_method (codes "isInterrupted") (codes "()Z")
    ∷ declared static_native_method (codes "interrupted") (codes "()Z")
    ∷ declared static_native_method (codes "yield") (codes "()V")
    ∷ declared static_native_method (codes "currentThread") (codes "()Ljava/lang/Thread;")
    ∷ declared final_native_method (codes "join") (codes "()V")
    ∷ declared final_native_method (codes "isAlive") (codes "()Z")
    ∷ []

abbrev pub thread_operands : List Entry
thread_operands =
    Utf8 (codes "Thread[") ∷ String 7 ∷ Utf8 (codes ",") ∷ String 9 ∷ Utf8 (codes ",main]") ∷ String 11
    ∷ Utf8 (codes "target") ∷ Utf8 (codes "Ljava/lang/Runnable;") ∷ NameAndType 13 14 ∷ Field 2 15 ∷ Utf8 (codes "run")
    ∷ Utf8 (codes "()V") ∷ NameAndType 17 18 ∷ InterfaceMethod 6 19 ∷ Utf8 (codes "priority") ∷ Utf8 (codes "I")
    ∷ NameAndType 21 22 ∷ Field 2 23 ∷ Utf8 (codes "java/lang/IllegalArgumentException") ∷ Class 25
    ∷ Utf8 (codes "<init>") ∷ NameAndType 27 18 ∷ Method 26 28 ∷ Utf8 (codes "getName")
    ∷ Utf8 (codes "()Ljava/lang/String;") ∷ NameAndType 30 31 ∷ Method 2 32 ∷ Utf8 (codes "java/lang/String") ∷ Class 34
    ∷ Utf8 (codes "concat") ∷ Utf8 (codes "(Ljava/lang/String;)Ljava/lang/String;") ∷ NameAndType 36 37 ∷ Method 35 38
    ∷ Utf8 (codes "getPriority") ∷ Utf8 (codes "()I") ∷ NameAndType 40 41 ∷ Method 2 42 ∷ Utf8 (codes "valueOf")
    ∷ Utf8 (codes "(I)Ljava/lang/String;") ∷ NameAndType 44 45 ∷ Method 35 46 ∷ Utf8 (codes "name")
    ∷ Utf8 (codes "Ljava/lang/String;") ∷ Utf8 (codes "number") ∷ Utf8 (codes "setPriority") ∷ Utf8 (codes "(I)V")
    ∷ Utf8 (codes "toString") ∷ Utf8 (codes "Code") ∷ []

abbrev pub thread_class : FileTree
thread_class =
    tree_of (record {
      flags = public_class;
      name = codes "java/lang/Thread";
      superclass = Some (codes "java/lang/Object");
      interfaces = codes "java/lang/Runnable" ∷ [];
      operands = thread_operands;
      fields = field 0x0002 13 14 ∷ field 0x0002 48 49 ∷ field 0x0002 50 22 ∷ field 0x0002 21 22 ∷ [];
      coded = thread_coded;
      natives = thread_methods;
    })
