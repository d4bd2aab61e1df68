-- main waits on the object of a thread, which ends.
use Rattle.std.specs.Prelude.{ℕ, List, [], ◌∷◌, ◌++◌, None, codes}
use Rattle.model.specs.declared.end.End.TheVariants as ends
use Rattle.model.specs.Tree.{Entry, Utf8, Class, Method, NameAndType, FileTree}
use Rattle.model.specs.Classes.{Program}
use Rattle.run_laws.specs.examples.Bytes.{hex}
use Rattle.run_laws.specs.examples.ClassFiles.{method, class_with, AreLaidOut}
use Rattle.run_laws.specs.examples.Reports.{times, usual, Reports}

abbrev pub class_z_pool : List Entry
class_z_pool =
    Utf8 (codes "java/lang/Thread") ∷ Class 1 ∷ Utf8 (codes "<init>") ∷ Utf8 (codes "()V") ∷ NameAndType 3 4 ∷ Method 2 5
    ∷ Utf8 (codes "Z") ∷ Class 7 ∷ Method 8 5 ∷ Utf8 (codes "start") ∷ NameAndType 10 4 ∷ Method 8 11 ∷ Utf8 (codes "java/lang/Object")
    ∷ Class 13 ∷ Utf8 (codes "wait") ∷ NameAndType 15 4 ∷ Method 14 16 ∷ Utf8 (codes "Code") ∷ Utf8 (codes "run") ∷ Utf8 (codes "main")
    ∷ Utf8 (codes "([Ljava/lang/String;)V") ∷ []

-- class Z extends java/lang/Thread
abbrev pub class_z : FileTree
class_z =
    class_with class_z_pool 8 2 []
    (
    -- <init>()V: 0 aload_0, 1 invokespecial Thread.<init>, 4 return
    method 0x0001 3 4 18 1 1
    (hex (codes "2ab70006b1"))
    []
    -- run()V: 0 return
    ∷ method 0x0001 19 4 18 0 1
    (hex (codes "b1"))
    []
    -- static main([Ljava/lang/String;)V: 0 new Z, 3 dup, 4 invokespecial Z.<init>, 7 astore_1, 8 aload_1,
    -- 9 invokevirtual Z.start, 12 aload_1, 13 monitorenter, 14 aload_1, 15 invokevirtual Object.wait, 18 aload_1,
    -- 19 monitorexit, 20 return
    ∷ method 0x0009 20 21 18 2 2
    (hex (codes "bb000859b700094c2bb6000c2bc22bb600112bc3b1"))
    []
    ∷ []
    )

abbrev pub class_z_bytes : List ℕ
class_z_bytes =
    hex (codes "cafebabe0000003100160100106a6176612f6c616e672f5468726561640700010100063c696e69743e0100032829560c000300040a000200")
    ++ hex (codes "050100015a0700070a0008000501000573746172740c000a00040a0008000b0100106a6176612f6c616e672f4f626a65637407000d010004")
    ++ hex (codes "776169740c000f00040a000e0010010004436f646501000372756e0100046d61696e010016285b4c6a6176612f6c616e672f537472696e67")
    ++ hex (codes "3b2956002100080002000000000003000100030004000100120000001100010001000000052ab70006b10000000000010013000400010012")
    ++ hex (codes "0000000d0000000100000001b10000000000090014001500010012000000210002000200000015bb000859b700094c2bb6000c2bc22bb600")
    ++ hex (codes "112bc3b1000000000000")

abbrev pub files : Program
files = class_z ∷ []

pub record WaiterOfAThread : Type 0 where
  pub layouts : AreLaidOut (class_z_bytes ∷ []) files
  -- the end wakes main
  pub woken : Reports files usual (times 17 0
      ++ (times 2 1 ++ times 4 0)) None ends.Quiet (codes "thread 0 ended\nthread 1 ended\nevents 23\nend quiet\n")
