-- Class C below B: a static call initialises B before C, and then runs.
use Rattle.std.specs.Prelude.{ℕ, List, [], ◌∷◌, ◌++◌, None, codes}
use Rattle.model.specs.declared.end.End.TheVariants as ends
use Rattle.model.specs.Tree.{Entry, Utf8, Class, Field, Method, NameAndType, FileTree}
use Rattle.model.specs.Classes.{Program}
use Rattle.run_laws.specs.examples.Bytes.{hex}
use Rattle.run_laws.specs.examples.ClassFiles.{method, class_with, AreLaidOut}
use Rattle.run_laws.specs.examples.Reports.{times, usual, Reports}

abbrev pub class_a_pool : List Entry
class_a_pool =
    Utf8 (codes "C") ∷ Class 1 ∷ Utf8 (codes "g") ∷ Utf8 (codes "()V") ∷ NameAndType 3 4 ∷ Method 2 5 ∷ Utf8 (codes "A") ∷ Class 7
    ∷ Utf8 (codes "java/lang/Object") ∷ Class 9 ∷ Utf8 (codes "main") ∷ Utf8 (codes "([Ljava/lang/String;)V") ∷ Utf8 (codes "Code") ∷ []

-- class A extends java/lang/Object
abbrev pub class_a : FileTree
class_a =
    class_with class_a_pool 8 10 []
    (
    -- static main([Ljava/lang/String;)V: 0 invokestatic C.g, 3 return
    method 0x0009 11 12 13 0 1
    (hex (codes "b80006b1"))
    []
    ∷ []
    )

abbrev pub class_a_bytes : List ℕ
class_a_bytes =
    hex (codes "cafebabe00000031000e01000143070001010001670100032829560c000300040a00020005010001410700070100106a6176612f6c616e67")
    ++ hex (codes "2f4f626a6563740700090100046d61696e010016285b4c6a6176612f6c616e672f537472696e673b2956010004436f646500210008000a00")
    ++ hex (codes "00000000010009000b000c0001000d000000100000000100000004b80006b1000000000000")

abbrev pub class_b_pool : List Entry
class_b_pool =
    Utf8 (codes "java/lang/System") ∷ Class 1 ∷ Utf8 (codes "out") ∷ Utf8 (codes "Ljava/io/PrintStream;") ∷ NameAndType 3 4 ∷ Field 2 5
    ∷ Utf8 (codes "java/io/PrintStream") ∷ Class 7 ∷ Utf8 (codes "println") ∷ Utf8 (codes "(I)V") ∷ NameAndType 9 10 ∷ Method 8 11
    ∷ Utf8 (codes "B") ∷ Class 13 ∷ Utf8 (codes "java/lang/Object") ∷ Class 15 ∷ Utf8 (codes "<clinit>") ∷ Utf8 (codes "()V")
    ∷ Utf8 (codes "Code") ∷ []

-- class B extends java/lang/Object
abbrev pub class_b : FileTree
class_b =
    class_with class_b_pool 14 16 []
    (
    -- static <clinit>()V: 0 getstatic System.out, 3 iconst_1, 4 invokevirtual PrintStream.println, 7 return
    method 0x0008 17 18 19 2 0
    (hex (codes "b2000604b6000cb1"))
    []
    ∷ []
    )

abbrev pub class_b_bytes : List ℕ
class_b_bytes =
    hex (codes "cafebabe0000003100140100106a6176612f6c616e672f53797374656d0700010100036f75740100154c6a6176612f696f2f5072696e7453")
    ++ hex (codes "747265616d3b0c0003000409000200050100136a6176612f696f2f5072696e7453747265616d0700070100077072696e746c6e0100042849")
    ++ hex (codes "29560c0009000a0a0008000b0100014207000d0100106a6176612f6c616e672f4f626a65637407000f0100083c636c696e69743e01000328")
    ++ hex (codes "2956010004436f64650021000e001000000000000100080011001200010013000000140002000000000008b2000604b6000cb10000000000")
    ++ hex (codes "00")

abbrev pub class_c_pool : List Entry
class_c_pool =
    Utf8 (codes "java/lang/System") ∷ Class 1 ∷ Utf8 (codes "out") ∷ Utf8 (codes "Ljava/io/PrintStream;") ∷ NameAndType 3 4 ∷ Field 2 5
    ∷ Utf8 (codes "java/io/PrintStream") ∷ Class 7 ∷ Utf8 (codes "println") ∷ Utf8 (codes "(I)V") ∷ NameAndType 9 10 ∷ Method 8 11
    ∷ Utf8 (codes "C") ∷ Class 13 ∷ Utf8 (codes "B") ∷ Class 15 ∷ Utf8 (codes "<clinit>") ∷ Utf8 (codes "()V") ∷ Utf8 (codes "Code")
    ∷ Utf8 (codes "g") ∷ []

-- class C extends B
abbrev pub class_c : FileTree
class_c =
    class_with class_c_pool 14 16 []
    (
    -- static <clinit>()V: 0 getstatic System.out, 3 iconst_2, 4 invokevirtual PrintStream.println, 7 return
    method 0x0008 17 18 19 2 0
    (hex (codes "b2000605b6000cb1"))
    []
    -- static g()V: 0 return
    ∷ method 0x0008 20 18 19 0 0
    (hex (codes "b1"))
    []
    ∷ []
    )

abbrev pub class_c_bytes : List ℕ
class_c_bytes =
    hex (codes "cafebabe0000003100150100106a6176612f6c616e672f53797374656d0700010100036f75740100154c6a6176612f696f2f5072696e7453")
    ++ hex (codes "747265616d3b0c0003000409000200050100136a6176612f696f2f5072696e7453747265616d0700070100077072696e746c6e0100042849")
    ++ hex (codes "29560c0009000a0a0008000b0100014307000d0100014207000f0100083c636c696e69743e010003282956010004436f6465010001670021")
    ++ hex (codes "000e001000000000000200080011001200010013000000140002000000000008b2000605b6000cb100000000000800140012000100130000")
    ++ hex (codes "000d0000000000000001b1000000000000")

abbrev pub files : Program
files = class_a ∷ class_b ∷ class_c ∷ []

pub record InitialisersInOrder : Type 0 where
  pub layouts : AreLaidOut (class_a_bytes ∷ class_b_bytes ∷ class_c_bytes ∷ []) files
  -- each initialiser prints
  pub prints_both : Reports files usual (times 21 0) None ends.Quiet (codes "1\n2\nthread 0 ended\nevents 21\nend quiet\n")
