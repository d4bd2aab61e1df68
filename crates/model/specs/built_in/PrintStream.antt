-- The class java/io/PrintStream (own).
-- Made by `tools/build-built-in` of the class files of builtin/classes. Not to be edited.
use Rattle.std.specs.Prelude.{ℕ, List, [], ◌∷◌, Some, codes}
use Rattle.model.specs.Tree.{Entry, Utf8, Class, Method, NameAndType, FileTree}
use Rattle.model.specs.BuiltInForm.{Declared, declared, Coded, coded, tree_of, public_class, native_method}

-- PrintStream.println(Z)V: 0 aload_0, 1 iload_1, 2 invokestatic String.valueOf, 5 invokevirtual println, 8 return
abbrev pub print_stream_println_code : List ℕ
print_stream_println_code =
    0x2a ∷ 0x1b ∷ 0xb8 ∷ 0 ∷ 10 ∷ 0xb6 ∷ 0 ∷ 14 ∷ 0xb1 ∷ []

-- PrintStream.println([C)V: 0 aload_0, 1 aload_1, 2 invokestatic String.valueOf, 5 invokevirtual println, 8 return
abbrev pub print_stream_println_2_code : List ℕ
print_stream_println_2_code =
    0x2a ∷ 0x2b ∷ 0xb8 ∷ 0 ∷ 17 ∷ 0xb6 ∷ 0 ∷ 14 ∷ 0xb1 ∷ []

-- PrintStream.println(Ljava/lang/Object;)V: 0 aload_0, 1 aload_1, 2 invokestatic String.valueOf, 5 invokevirtual
-- println, 8 return
abbrev pub print_stream_println_3_code : List ℕ
print_stream_println_3_code =
    0x2a ∷ 0x2b ∷ 0xb8 ∷ 0 ∷ 20 ∷ 0xb6 ∷ 0 ∷ 14 ∷ 0xb1 ∷ []

-- PrintStream.print(Z)V: 0 aload_0, 1 iload_1, 2 invokestatic String.valueOf, 5 invokevirtual print, 8 return
abbrev pub print_stream_print_code : List ℕ
print_stream_print_code =
    0x2a ∷ 0x1b ∷ 0xb8 ∷ 0 ∷ 10 ∷ 0xb6 ∷ 0 ∷ 23 ∷ 0xb1 ∷ []

-- PrintStream.print([C)V: 0 aload_0, 1 aload_1, 2 invokestatic String.valueOf, 5 invokevirtual print, 8 return
abbrev pub print_stream_print_2_code : List ℕ
print_stream_print_2_code =
    0x2a ∷ 0x2b ∷ 0xb8 ∷ 0 ∷ 17 ∷ 0xb6 ∷ 0 ∷ 23 ∷ 0xb1 ∷ []

-- PrintStream.print(Ljava/lang/Object;)V: 0 aload_0, 1 aload_1, 2 invokestatic String.valueOf, 5 invokevirtual print, 8
-- return
abbrev pub print_stream_print_3_code : List ℕ
print_stream_print_3_code =
    0x2a ∷ 0x2b ∷ 0xb8 ∷ 0 ∷ 20 ∷ 0xb6 ∷ 0 ∷ 23 ∷ 0xb1 ∷ []

-- PrintStream.flush()V: 0 return
abbrev pub print_stream_flush_code : List ℕ
print_stream_flush_code =
    0xb1 ∷ []

abbrev pub print_stream_coded : List Coded
print_stream_coded =
    coded 0x0001 11 24 2 2 print_stream_println_code
    ∷ coded 0x0001 11 25 2 2 print_stream_println_2_code
    ∷ coded 0x0001 11 26 2 2 print_stream_println_3_code
    ∷ coded 0x0001 21 24 2 2 print_stream_print_code
    ∷ coded 0x0001 21 25 2 2 print_stream_print_2_code
    ∷ coded 0x0001 21 26 2 2 print_stream_print_3_code
    ∷ coded 0x0001 27 28 0 1 print_stream_flush_code
    ∷ []

abbrev pub print_stream_methods : List Declared
print_stream_methods =
    declared native_method (codes "println") (codes "()V")
    ∷ declared native_method (codes "println") (codes "(C)V")
    ∷ declared native_method (codes "println") (codes "(I)V")
    ∷ declared native_method (codes "println") (codes "(Ljava/lang/String;)V")
    ∷ declared native_method (codes "print") (codes "(C)V")
    ∷ declared native_method (codes "print") (codes "(I)V")
    ∷ declared native_method (codes "print") (codes "(Ljava/lang/String;)V")
    ∷ []

abbrev pub print_stream_operands : List Entry
print_stream_operands =
    Utf8 (codes "java/lang/String") ∷ Class 5 ∷ Utf8 (codes "valueOf") ∷ Utf8 (codes "(Z)Ljava/lang/String;")
    ∷ NameAndType 7 8 ∷ Method 6 9 ∷ Utf8 (codes "println") ∷ Utf8 (codes "(Ljava/lang/String;)V") ∷ NameAndType 11 12
    ∷ Method 2 13 ∷ Utf8 (codes "([C)Ljava/lang/String;") ∷ NameAndType 7 15 ∷ Method 6 16
    ∷ Utf8 (codes "(Ljava/lang/Object;)Ljava/lang/String;") ∷ NameAndType 7 18 ∷ Method 6 19 ∷ Utf8 (codes "print")
    ∷ NameAndType 21 12 ∷ Method 2 22 ∷ Utf8 (codes "(Z)V") ∷ Utf8 (codes "([C)V")
    ∷ Utf8 (codes "(Ljava/lang/Object;)V") ∷ Utf8 (codes "flush") ∷ Utf8 (codes "()V") ∷ Utf8 (codes "Code") ∷ []

abbrev pub print_stream_class : FileTree
print_stream_class =
    tree_of (record {
      flags = public_class;
      name = codes "java/io/PrintStream";
      superclass = Some (codes "java/lang/Object");
      interfaces = [];
      operands = print_stream_operands;
      fields = [];
      coded = print_stream_coded;
      natives = print_stream_methods;
    })
