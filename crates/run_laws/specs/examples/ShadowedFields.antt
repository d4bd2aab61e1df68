-- P and Q below it each declare a field x (JVMS 5.4.3.2): a Q has both.
use Rattle.std.specs.Prelude.{ℕ, List, [], ◌∷◌, ◌++◌, Some, None, codes}
use Rattle.model.specs.declared.end.End.TheVariants as ends
use Rattle.model.specs.declared.end.RunCause.TheVariants as causes
use Rattle.model.specs.Tree.{Entry, Utf8, Class, Field, Method, NameAndType, FileTree}
use Rattle.model.specs.Classes.{Program}
use Rattle.run_laws.specs.examples.Bytes.{hex}
use Rattle.run_laws.specs.examples.ClassFiles.{field, method, class_with, AreLaidOut}
use Rattle.run_laws.specs.examples.Reports.{times, picks, usual, Reports}

abbrev pub class_a_pool : List Entry
class_a_pool =
    Utf8 (codes "Q") ∷ Class 1 ∷ Utf8 (codes "<init>") ∷ Utf8 (codes "()V") ∷ NameAndType 3 4 ∷ Method 2 5 ∷ Utf8 (codes "P") ∷ Class 7
    ∷ Utf8 (codes "x") ∷ Utf8 (codes "I") ∷ NameAndType 9 10 ∷ Field 8 11 ∷ Field 2 11 ∷ Utf8 (codes "java/lang/System") ∷ Class 14
    ∷ Utf8 (codes "out") ∷ Utf8 (codes "Ljava/io/PrintStream;") ∷ NameAndType 16 17 ∷ Field 15 18 ∷ Utf8 (codes "java/io/PrintStream")
    ∷ Class 20 ∷ Utf8 (codes "println") ∷ Utf8 (codes "(I)V") ∷ NameAndType 22 23 ∷ Method 21 24 ∷ Utf8 (codes "A") ∷ Class 26
    ∷ Utf8 (codes "java/lang/Object") ∷ Class 28 ∷ Utf8 (codes "main") ∷ Utf8 (codes "([Ljava/lang/String;)V") ∷ Utf8 (codes "Code") ∷ []

-- class A extends java/lang/Object
abbrev pub class_a : FileTree
class_a =
    class_with class_a_pool 27 29 []
    (
    -- static main([Ljava/lang/String;)V: 0 new Q, 3 dup, 4 invokespecial Q.<init>, 7 astore_1, 8 aload_1,
    -- 9 iconst_1, 10 putfield P.x, 13 aload_1, 14 iconst_2, 15 putfield Q.x, 18 getstatic System.out, 21 aload_1,
    -- 22 getfield P.x, 25 invokevirtual PrintStream.println, 28 getstatic System.out, 31 aload_1, 32 getfield Q.x,
    -- 35 invokevirtual PrintStream.println, 38 return
    method 0x0009 30 31 32 2 2
    (hex (codes "bb000259b700064c2b04b5000c2b05b5000db200132bb4000cb60019b200132bb4000db60019b1"))
    []
    ∷ []
    )

abbrev pub class_a_bytes : List ℕ
class_a_bytes =
    hex (codes "cafebabe000000310021010001510700010100063c696e69743e0100032829560c000300040a000200050100015007000701000178010001")
    ++ hex (codes "490c0009000a090008000b090002000b0100106a6176612f6c616e672f53797374656d07000e0100036f75740100154c6a6176612f696f2f")
    ++ hex (codes "5072696e7453747265616d3b0c0010001109000f00120100136a6176612f696f2f5072696e7453747265616d0700140100077072696e746c")
    ++ hex (codes "6e010004284929560c001600170a001500180100014107001a0100106a6176612f6c616e672f4f626a65637407001c0100046d61696e0100")
    ++ hex (codes "16285b4c6a6176612f6c616e672f537472696e673b2956010004436f64650021001b001d0000000000010009001e001f0001002000000033")
    ++ hex (codes "0002000200000027bb000259b700064c2b04b5000c2b05b5000db200132bb4000cb60019b200132bb4000db60019b1000000000000")

abbrev pub class_p_pool : List Entry
class_p_pool =
    Utf8 (codes "java/lang/Object") ∷ Class 1 ∷ Utf8 (codes "<init>") ∷ Utf8 (codes "()V") ∷ NameAndType 3 4 ∷ Method 2 5
    ∷ Utf8 (codes "P") ∷ Class 7 ∷ Utf8 (codes "x") ∷ Utf8 (codes "I") ∷ NameAndType 9 10 ∷ Field 8 11 ∷ Utf8 (codes "Code")
    ∷ Utf8 (codes "f") ∷ Utf8 (codes "()I") ∷ []

-- class P extends java/lang/Object, with x:I
abbrev pub class_p : FileTree
class_p =
    class_with class_p_pool 8 2 (field 0x0000 9 10 [] ∷ [])
    (
    -- <init>()V: 0 aload_0, 1 invokespecial Object.<init>, 4 return
    method 0x0001 3 4 13 1 1
    (hex (codes "2ab70006b1"))
    []
    -- f()I: 0 aload_0, 1 getfield P.x, 4 ireturn
    ∷ method 0x0000 14 15 13 1 1
    (hex (codes "2ab4000cac"))
    []
    ∷ []
    )

abbrev pub class_p_bytes : List ℕ
class_p_bytes =
    hex (codes "cafebabe0000003100100100106a6176612f6c616e672f4f626a6563740700010100063c696e69743e0100032829560c000300040a000200")
    ++ hex (codes "050100015007000701000178010001490c0009000a090008000b010004436f64650100016601000328294900210008000200000001000000")
    ++ hex (codes "09000a000000020001000300040001000d0000001100010001000000052ab70006b1000000000000000e000f0001000d0000001100010001")
    ++ hex (codes "000000052ab4000cac000000000000")

abbrev pub class_q_pool : List Entry
class_q_pool =
    Utf8 (codes "P") ∷ Class 1 ∷ Utf8 (codes "<init>") ∷ Utf8 (codes "()V") ∷ NameAndType 3 4 ∷ Method 2 5 ∷ Utf8 (codes "f")
    ∷ Utf8 (codes "()I") ∷ NameAndType 7 8 ∷ Method 2 9 ∷ Utf8 (codes "Q") ∷ Class 11 ∷ Utf8 (codes "x") ∷ Utf8 (codes "I")
    ∷ Utf8 (codes "Code") ∷ []

-- class Q extends P, with x:I
abbrev pub class_q : FileTree
class_q =
    class_with class_q_pool 12 2 (field 0x0000 13 14 [] ∷ [])
    (
    -- <init>()V: 0 aload_0, 1 invokespecial P.<init>, 4 return
    method 0x0001 3 4 15 1 1
    (hex (codes "2ab70006b1"))
    []
    -- f()I: 0 aload_0, 1 invokespecial P.f, 4 iconst_1, 5 iadd, 6 ireturn
    ∷ method 0x0000 7 8 15 2 1
    (hex (codes "2ab7000a0460ac"))
    []
    ∷ []
    )

abbrev pub class_q_bytes : List ℕ
class_q_bytes =
    hex (codes "cafebabe000000310010010001500700010100063c696e69743e0100032829560c000300040a00020005010001660100032829490c000700")
    ++ hex (codes "080a000200090100015107000b0100017801000149010004436f64650021000c0002000000010000000d000e000000020001000300040001")
    ++ hex (codes "000f0000001100010001000000052ab70006b1000000000000000700080001000f0000001300020001000000072ab7000a0460ac00000000")
    ++ hex (codes "0000")

abbrev pub files : Program
files = class_a ∷ class_p ∷ class_q ∷ []

pub record ShadowedFields : Type 0 where
  pub layouts : AreLaidOut (class_a_bytes ∷ class_p_bytes ∷ class_q_bytes ∷ []) files
  -- each keeps its own value
  pub two_fields : Reports files usual (times 35 0) None ends.Quiet (codes "1\n2\nthread 0 ended\nevents 35\nend quiet\n")
  -- with one cell allowed
  pub one_cell : Reports files (record usual { cells = 1 }) (times 10 0) (Some (picks 0 0)) (ends.Refused 10 causes.Cells)
      (codes "thread 0 runnable\nevents 10\nend refused 10 cells\n")
