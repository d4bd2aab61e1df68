-- The initialiser of F divides by zero (JVMS 5.5): an ExceptionInInitializerError, then a NoClassDefFoundError.
use Rattle.std.specs.Prelude.{ℕ, List, [], ◌∷◌, ◌++◌, None, codes}
use Rattle.model.specs.declared.end.End.TheVariants as ends
use Rattle.model.specs.Tree.{Entry, Utf8, Class, Field, Method, NameAndType, FileTree}
use Rattle.model.specs.Classes.{Program}
use Rattle.run_laws.specs.examples.Bytes.{hex}
use Rattle.run_laws.specs.examples.ClassFiles.{method, handler, class_with, AreLaidOut}
use Rattle.run_laws.specs.examples.Reports.{times, usual, Reports}

abbrev pub class_e_pool : List Entry
class_e_pool =
    Utf8 (codes "F") ∷ Class 1 ∷ Utf8 (codes "g") ∷ Utf8 (codes "()V") ∷ NameAndType 3 4 ∷ Method 2 5 ∷ Utf8 (codes "java/lang/System")
    ∷ Class 7 ∷ Utf8 (codes "out") ∷ Utf8 (codes "Ljava/io/PrintStream;") ∷ NameAndType 9 10 ∷ Field 8 11
    ∷ Utf8 (codes "java/io/PrintStream") ∷ Class 13 ∷ Utf8 (codes "println") ∷ Utf8 (codes "(I)V") ∷ NameAndType 15 16 ∷ Method 14 17
    ∷ Utf8 (codes "java/lang/ExceptionInInitializerError") ∷ Class 19 ∷ Utf8 (codes "E") ∷ Class 21 ∷ Utf8 (codes "java/lang/Object")
    ∷ Class 23 ∷ Utf8 (codes "main") ∷ Utf8 (codes "([Ljava/lang/String;)V") ∷ Utf8 (codes "Code") ∷ []

-- class E extends java/lang/Object
abbrev pub class_e : FileTree
class_e =
    class_with class_e_pool 22 24 []
    (
    -- static main([Ljava/lang/String;)V: 0 invokestatic F.g, 3 return, 4 pop, 5 getstatic System.out, 8 iconst_1,
    -- 9 invokevirtual PrintStream.println, 12 invokestatic F.g, 15 return
    method 0x0009 25 26 27 2 1
    (hex (codes "b80006b157b2000c04b60012b80006b1"))
    (handler 0 3 4 20 ∷ [])
    ∷ []
    )

abbrev pub class_e_bytes : List ℕ
class_e_bytes =
    hex (codes "cafebabe00000031001c01000146070001010001670100032829560c000300040a000200050100106a6176612f6c616e672f53797374656d")
    ++ hex (codes "0700070100036f75740100154c6a6176612f696f2f5072696e7453747265616d3b0c0009000a090008000b0100136a6176612f696f2f5072")
    ++ hex (codes "696e7453747265616d07000d0100077072696e746c6e010004284929560c000f00100a000e00110100256a6176612f6c616e672f45786365")
    ++ hex (codes "7074696f6e496e496e697469616c697a65724572726f72070013010001450700150100106a6176612f6c616e672f4f626a65637407001701")
    ++ hex (codes "00046d61696e010016285b4c6a6176612f6c616e672f537472696e673b2956010004436f646500210016001800000000000100090019001a")
    ++ hex (codes "0001001b000000240002000100000010b80006b157b2000c04b60012b80006b10001000000030004001400000000")

abbrev pub class_f_pool : List Entry
class_f_pool =
    Utf8 (codes "F") ∷ Class 1 ∷ Utf8 (codes "java/lang/Object") ∷ Class 3 ∷ Utf8 (codes "<clinit>") ∷ Utf8 (codes "()V")
    ∷ Utf8 (codes "Code") ∷ Utf8 (codes "g") ∷ []

-- class F extends java/lang/Object
abbrev pub class_f : FileTree
class_f =
    class_with class_f_pool 2 4 []
    (
    -- static <clinit>()V: 0 iconst_1, 1 iconst_0, 2 idiv, 3 pop, 4 return
    method 0x0008 5 6 7 2 0
    (hex (codes "04036c57b1"))
    []
    -- static g()V: 0 return
    ∷ method 0x0008 8 6 7 0 0
    (hex (codes "b1"))
    []
    ∷ []
    )

abbrev pub class_f_bytes : List ℕ
class_f_bytes =
    hex (codes "cafebabe000000310009010001460700010100106a6176612f6c616e672f4f626a6563740700030100083c636c696e69743e010003282956")
    ++ hex (codes "010004436f6465010001670021000200040000000000020008000500060001000700000011000200000000000504036c57b1000000000008")
    ++ hex (codes "00080006000100070000000d0000000000000001b1000000000000")

abbrev pub files : Program
files = class_e ∷ class_f ∷ []

pub record FailingInitialiser : Type 0 where
  pub layouts : AreLaidOut (class_e_bytes ∷ class_f_bytes ∷ []) files
  -- E asks for F, catches, and asks again
  pub twice : Reports files usual (times 18 0) None
      ends.Quiet (codes "1\nthread 0 threw java/lang/NoClassDefFoundError\nevents 18\nend quiet\n")
  -- with one frame allowed, the initialiser has none
  pub no_frame_left : Reports files (record usual { frames = 1 }) (times 8 0) None
      ends.Quiet (codes "thread 0 threw java/lang/StackOverflowError\nevents 8\nend quiet\n")
