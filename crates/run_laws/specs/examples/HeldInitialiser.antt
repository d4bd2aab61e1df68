-- A class that one thread initialises, while another asks for it.
use Rattle.std.specs.Prelude.{ℕ, List, [], ◌∷◌, ◌++◌, None, codes}
use Rattle.model.specs.declared.end.End.TheVariants as ends
use Rattle.model.specs.Tree.{Entry, Utf8, Class, Method, NameAndType, FileTree}
use Rattle.model.specs.Classes.{Program}
use Rattle.run_laws.specs.examples.Bytes.{hex}
use Rattle.run_laws.specs.examples.ClassFiles.{method, class_with, AreLaidOut}
use Rattle.run_laws.specs.examples.Reports.{times, usual, Reports}

abbrev pub class_e_pool : List Entry
class_e_pool =
    Utf8 (codes "java/lang/Thread") ∷ Class 1 ∷ Utf8 (codes "<init>") ∷ Utf8 (codes "()V") ∷ NameAndType 3 4 ∷ Method 2 5
    ∷ Utf8 (codes "F") ∷ Class 7 ∷ Utf8 (codes "g") ∷ NameAndType 9 4 ∷ Method 8 10 ∷ Utf8 (codes "E") ∷ Class 12 ∷ Method 13 5
    ∷ Utf8 (codes "start") ∷ NameAndType 15 4 ∷ Method 13 16 ∷ Utf8 (codes "Code") ∷ Utf8 (codes "run") ∷ Utf8 (codes "main")
    ∷ Utf8 (codes "([Ljava/lang/String;)V") ∷ []

-- class E extends java/lang/Thread
abbrev pub class_e : FileTree
class_e =
    class_with class_e_pool 13 2 []
    (
    -- <init>()V: 0 aload_0, 1 invokespecial Thread.<init>, 4 return
    method 0x0001 3 4 18 1 1
    (hex (codes "2ab70006b1"))
    []
    -- run()V: 0 invokestatic F.g, 3 return
    ∷ method 0x0001 19 4 18 0 1
    (hex (codes "b8000bb1"))
    []
    -- static main([Ljava/lang/String;)V: 0 new E, 3 dup, 4 invokespecial E.<init>, 7 astore_1, 8 aload_1,
    -- 9 invokevirtual E.start, 12 invokestatic F.g, 15 return
    ∷ method 0x0009 20 21 18 2 2
    (hex (codes "bb000d59b7000e4c2bb60011b8000bb1"))
    []
    ∷ []
    )

abbrev pub class_e_bytes : List ℕ
class_e_bytes =
    hex (codes "cafebabe0000003100160100106a6176612f6c616e672f5468726561640700010100063c696e69743e0100032829560c000300040a000200")
    ++ hex (codes "0501000146070007010001670c000900040a0008000a0100014507000c0a000d000501000573746172740c000f00040a000d001001000443")
    ++ hex (codes "6f646501000372756e0100046d61696e010016285b4c6a6176612f6c616e672f537472696e673b29560021000d0002000000000003000100")
    ++ hex (codes "030004000100120000001100010001000000052ab70006b10000000000010013000400010012000000100000000100000004b8000bb10000")
    ++ hex (codes "0000000900140015000100120000001c0002000200000010bb000d59b7000e4c2bb60011b8000bb1000000000000")

abbrev pub class_f_pool : List Entry
class_f_pool =
    Utf8 (codes "F") ∷ Class 1 ∷ Utf8 (codes "java/lang/Object") ∷ Class 3 ∷ Utf8 (codes "<clinit>") ∷ Utf8 (codes "()V")
    ∷ Utf8 (codes "Code") ∷ Utf8 (codes "g") ∷ []

-- class F extends java/lang/Object
abbrev pub class_f : FileTree
class_f =
    class_with class_f_pool 2 4 []
    (
    -- static <clinit>()V: 0 iconst_1, 1 iconst_0, 2 idiv, 3 pop, 4 return
    method 0x0008 5 6 7 2 0
    (hex (codes "04036c57b1"))
    []
    -- static g()V: 0 return
    ∷ method 0x0008 8 6 7 0 0
    (hex (codes "b1"))
    []
    ∷ []
    )

abbrev pub class_f_bytes : List ℕ
class_f_bytes =
    hex (codes "cafebabe000000310009010001460700010100106a6176612f6c616e672f4f626a6563740700030100083c636c696e69743e010003282956")
    ++ hex (codes "010004436f6465010001670021000200040000000000020008000500060001000700000011000200000000000504036c57b1000000000008")
    ++ hex (codes "00080006000100070000000d0000000000000001b1000000000000")

abbrev pub files : Program
files = class_e ∷ class_f ∷ []

pub record HeldInitialiser : Type 0 where
  pub layouts : AreLaidOut (class_e_bytes ∷ class_f_bytes ∷ []) files
  -- the second may not go on
  pub held : Reports files usual (times 14 0
      ++ times 1 1) None ends.Schedule (codes "thread 0 runnable\nthread 1 initialising\nevents 15\nend schedule\n")
