-- A constant of C, which is below B (JVMS 5.5, step 6).
use Rattle.std.specs.Prelude.{ℕ, List, [], ◌∷◌, ◌++◌, None, codes}
use Rattle.model.specs.declared.end.End.TheVariants as ends
use Rattle.model.specs.Tree.{Entry, Utf8, Integer, Class, Field, Method, NameAndType, ConstantOf, FileTree}
use Rattle.model.specs.Classes.{Program}
use Rattle.run_laws.specs.examples.Bytes.{hex}
use Rattle.run_laws.specs.examples.ClassFiles.{field, method, class_with, AreLaidOut}
use Rattle.run_laws.specs.examples.Reports.{times, usual, Reports}

abbrev pub class_a_pool : List Entry
class_a_pool =
    Utf8 (codes "java/lang/System") ∷ Class 1 ∷ Utf8 (codes "out") ∷ Utf8 (codes "Ljava/io/PrintStream;") ∷ NameAndType 3 4 ∷ Field 2 5
    ∷ Utf8 (codes "C") ∷ Class 7 ∷ Utf8 (codes "k") ∷ Utf8 (codes "I") ∷ NameAndType 9 10 ∷ Field 8 11 ∷ Utf8 (codes "java/io/PrintStream")
    ∷ Class 13 ∷ Utf8 (codes "println") ∷ Utf8 (codes "(I)V") ∷ NameAndType 15 16 ∷ Method 14 17 ∷ Utf8 (codes "A") ∷ Class 19
    ∷ Utf8 (codes "java/lang/Object") ∷ Class 21 ∷ Utf8 (codes "main") ∷ Utf8 (codes "([Ljava/lang/String;)V") ∷ Utf8 (codes "Code") ∷ []

-- class A extends java/lang/Object
abbrev pub class_a : FileTree
class_a =
    class_with class_a_pool 20 22 []
    (
    -- static main([Ljava/lang/String;)V: 0 getstatic System.out, 3 getstatic C.k,
    -- 6 invokevirtual PrintStream.println, 9 return
    method 0x0009 23 24 25 2 1
    (hex (codes "b20006b2000cb60012b1"))
    []
    ∷ []
    )

abbrev pub class_a_bytes : List ℕ
class_a_bytes =
    hex (codes "cafebabe00000031001a0100106a6176612f6c616e672f53797374656d0700010100036f75740100154c6a6176612f696f2f5072696e7453")
    ++ hex (codes "747265616d3b0c000300040900020005010001430700070100016b010001490c0009000a090008000b0100136a6176612f696f2f5072696e")
    ++ hex (codes "7453747265616d07000d0100077072696e746c6e010004284929560c000f00100a000e0011010001410700130100106a6176612f6c616e67")
    ++ hex (codes "2f4f626a6563740700150100046d61696e010016285b4c6a6176612f6c616e672f537472696e673b2956010004436f646500210014001600")
    ++ hex (codes "00000000010009001700180001001900000016000200010000000ab20006b2000cb60012b1000000000000")

abbrev pub class_b_pool : List Entry
class_b_pool =
    Utf8 (codes "B") ∷ Class 1 ∷ Utf8 (codes "java/lang/Object") ∷ Class 3 ∷ []

-- class B extends java/lang/Object
abbrev pub class_b : FileTree
class_b =
    class_with class_b_pool 2 4 [] []

abbrev pub class_b_bytes : List ℕ
class_b_bytes =
    hex (codes "cafebabe000000310005010001420700010100106a6176612f6c616e672f4f626a6563740700030021000200040000000000000000")

abbrev pub class_c_pool : List Entry
class_c_pool =
    Integer 7 ∷ Utf8 (codes "C") ∷ Class 2 ∷ Utf8 (codes "B") ∷ Class 4 ∷ Utf8 (codes "k") ∷ Utf8 (codes "I")
    ∷ Utf8 (codes "ConstantValue") ∷ []

-- class C extends B, with static k:I
abbrev pub class_c : FileTree
class_c =
    class_with class_c_pool 3 5 (field 0x0008 6 7 (ConstantOf 8 1 ∷ []) ∷ []) []

abbrev pub class_c_bytes : List ℕ
class_c_bytes =
    hex (codes "cafebabe000000310009030000000701000143070002010001420700040100016b0100014901000d436f6e7374616e7456616c7565002100")
    ++ hex (codes "030005000000010008000600070001000800000002000100000000")

abbrev pub files : Program
files = class_a ∷ class_b ∷ class_c ∷ []

pub record SuperclassConstant : Type 0 where
  pub layouts : AreLaidOut (class_a_bytes ∷ class_b_bytes ∷ class_c_bytes ∷ []) files
  -- it is there, and the superclass was initialised
  pub printed : Reports files usual (times 14 0) None ends.Quiet (codes "7\nthread 0 ended\nevents 14\nend quiet\n")
  -- three events less
  pub on_the_way : Reports files usual (times 11 0) None ends.Schedule (codes "thread 0 runnable\nevents 11\nend schedule\n")
