-- The classes of the program of AcceptedThreads, as javac 17 wrote them (with `--release 8 -g:none`, and the version then set to
-- 49.0), and their bytes.
use Rattle.std.specs.Prelude.{ℕ, List, [], ◌∷◌, ◌++◌, codes}
use Rattle.model.specs.Tree.{Entry, Utf8, Class, Field, Method, NameAndType, CodeTree, CodeOf, FileTree}
use Rattle.run_laws.specs.examples.Bytes.{hex}
use Rattle.run_laws.specs.examples.ClassFiles.{field, method, handler, file_with}

abbrev pub class_a_pool : List Entry
class_a_pool =
    Method 2 3 ∷ Class 4 ∷ NameAndType 5 6 ∷ Utf8 (codes "java/lang/Object") ∷ Utf8 (codes "<init>") ∷ Utf8 (codes "()V")
    ∷ Class 8 ∷ Utf8 (codes "T") ∷ Method 7 10 ∷ NameAndType 5 11 ∷ Utf8 (codes "(I)V") ∷ Method 7 13 ∷ NameAndType 14 6
    ∷ Utf8 (codes "start") ∷ Field 16 17 ∷ Class 18 ∷ NameAndType 19 20 ∷ Utf8 (codes "java/lang/System") ∷ Utf8 (codes "out")
    ∷ Utf8 (codes "Ljava/io/PrintStream;") ∷ Method 22 23 ∷ Class 24 ∷ NameAndType 25 11 ∷ Utf8 (codes "java/io/PrintStream")
    ∷ Utf8 (codes "println") ∷ Class 27 ∷ Utf8 (codes "java/lang/ArithmeticException") ∷ Class 29 ∷ Utf8 (codes "A")
    ∷ Utf8 (codes "Code") ∷ Utf8 (codes "main") ∷ Utf8 (codes "([Ljava/lang/String;)V") ∷ Utf8 (codes "StackMapTable")
    ∷ Class 35 ∷ Utf8 (codes "[Ljava/lang/String;") ∷ []

-- 0 new T, 3 dup, 4 bipush 7, 6 invokespecial T.<init>, 9 astore_1, 10 aload_1, 11 invokevirtual T.start,
-- 14 getstatic System.out, 17 iconst_1, 18 iconst_0, 19 idiv, 20 invokevirtual PrintStream.println, 23 goto 35, 26 astore_2,
-- 27 getstatic System.out, 30 bipush 8, 32 invokevirtual PrintStream.println, 35 return. An ArithmeticException from 14 on and
-- before 23 goes to 26.
abbrev pub main_code : CodeTree
main_code =
    record {
      max_stack = 3;
      max_locals = 3;
      code = hex (codes "bb0007 59 1007 b70009 4c 2b b6000c b2000f 04 03 6c b60015 a7000c 4d b2000f 1008 b60015 b1");
      exceptions = handler 14 23 26 26 ∷ [];
      attributes = record { name = 33; bytes = hex (codes "0002ff001a0002070022070007000107001a08") } ∷ [];
    }

abbrev pub class_a : FileTree
class_a =
    file_with 0x0020 class_a_pool 28 2 [] []
    (
    -- <init>()V: 0 aload_0, 1 invokespecial Object.<init>, 4 return
    method 0x0000 5 6 30 1 1
    (hex (codes "2ab70001b1"))
    []
    ∷ record { flags = 0x0009; name = 31; descriptor = 32; parts = CodeOf 30 main_code ∷ [] }
    ∷ []
    )

abbrev pub class_a_bytes : List ℕ
class_a_bytes =
    hex (codes "cafebabe000000310024 0a00020003 070004 0c00050006 0100106a6176612f6c616e672f4f626a656374")
    ++ hex (codes "0100063c696e69743e 010003282956 070008 01000154 0a0007000a 0c0005000b 01000428492956 0a0007000d")
    ++ hex (codes "0c000e0006 0100057374617274 0900100011 070012 0c00130014 0100106a6176612f6c616e672f53797374656d")
    ++ hex (codes "0100036f7574 0100154c6a6176612f696f2f5072696e7453747265616d3b 0a00160017 070018 0c0019000b")
    ++ hex (codes "0100136a6176612f696f2f5072696e7453747265616d 0100077072696e746c6e 07001b")
    ++ hex (codes "01001d6a6176612f6c616e672f41726974686d65746963457863657074696f6e 07001d 01000141 010004436f6465")
    ++ hex (codes "0100046d61696e 010016285b4c6a6176612f6c616e672f537472696e673b2956 01000d537461636b4d61705461626c65")
    ++ hex (codes "070023 0100135b4c6a6176612f6c616e672f537472696e673b")
    ++ hex (codes "0020001c0002000000000002 0000000500060001001e0000001100010001000000052ab70001b100000000")
    ++ hex (codes "0009001f00200001001e000000510003000300000024bb0007591007b700094c2bb6000cb2000f04036cb60015a7000c4db2000f")
    ++ hex (codes "1008b60015b10001000e0017001a001a00010021000000130002ff001a0002070022070007000107001a08 0000")

abbrev pub class_t_pool : List Entry
class_t_pool =
    Method 2 3 ∷ Class 4 ∷ NameAndType 5 6 ∷ Utf8 (codes "java/lang/Thread") ∷ Utf8 (codes "<init>") ∷ Utf8 (codes "()V")
    ∷ Field 8 9 ∷ Class 10 ∷ NameAndType 11 12 ∷ Utf8 (codes "T") ∷ Utf8 (codes "n") ∷ Utf8 (codes "I") ∷ Field 14 15 ∷ Class 16
    ∷ NameAndType 17 18 ∷ Utf8 (codes "java/lang/System") ∷ Utf8 (codes "out") ∷ Utf8 (codes "Ljava/io/PrintStream;")
    ∷ Method 20 21 ∷ Class 22 ∷ NameAndType 23 24 ∷ Utf8 (codes "java/io/PrintStream") ∷ Utf8 (codes "println")
    ∷ Utf8 (codes "(I)V") ∷ Utf8 (codes "Code") ∷ Utf8 (codes "run") ∷ []

abbrev pub class_t : FileTree
class_t =
    file_with 0x0020 class_t_pool 8 2 [] (field 0x0000 11 12 [] ∷ [])
    (
    -- <init>(I)V: 0 aload_0, 1 invokespecial Thread.<init>, 4 aload_0, 5 iload_1, 6 putfield T.n, 9 return
    method 0x0000 5 24 25 2 2
    (hex (codes "2ab700012a1bb50007b1"))
    []
    -- run()V: 0 getstatic System.out, 3 aload_0, 4 getfield T.n, 7 invokevirtual PrintStream.println, 10 return
    ∷ method 0x0001 26 6 25 2 1
    (hex (codes "b2000d2ab40007b60013b1"))
    []
    ∷ []
    )

abbrev pub class_t_bytes : List ℕ
class_t_bytes =
    hex (codes "cafebabe00000031001b 0a00020003 070004 0c00050006 0100106a6176612f6c616e672f546872656164")
    ++ hex (codes "0100063c696e69743e 010003282956 0900080009 07000a 0c000b000c 01000154 0100016e 01000149 09000e000f")
    ++ hex (codes "070010 0c00110012 0100106a6176612f6c616e672f53797374656d 0100036f7574")
    ++ hex (codes "0100154c6a6176612f696f2f5072696e7453747265616d3b 0a00140015 070016 0c00170018")
    ++ hex (codes "0100136a6176612f696f2f5072696e7453747265616d 0100077072696e746c6e 01000428492956 010004436f6465")
    ++ hex (codes "01000372756e")
    ++ hex (codes "002000080002000000010000000b000c00000002")
    ++ hex (codes "0000000500180001001900000016000200020000000a2ab700012a1bb50007b100000000")
    ++ hex (codes "0001001a00060001001900000017000200010000000bb2000d2ab40007b60013b100000000 0000")
