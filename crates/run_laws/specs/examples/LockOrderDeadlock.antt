-- Two threads enter two monitors in opposite orders.
use Rattle.std.specs.Prelude.{ℕ, List, [], ◌∷◌, ◌++◌, Some, None, codes}
use Rattle.model.specs.declared.end.End.TheVariants as ends
use Rattle.model.specs.declared.end.RunCause.TheVariants as causes
use Rattle.model.specs.Tree.{Entry, Utf8, Class, Method, NameAndType, FileTree}
use Rattle.model.specs.Classes.{Program}
use Rattle.run_laws.specs.examples.Bytes.{hex}
use Rattle.run_laws.specs.examples.ClassFiles.{method, class_with, AreLaidOut}
use Rattle.run_laws.specs.examples.Reports.{times, picks, usual, Reports}

abbrev pub class_d_pool : List Entry
class_d_pool =
    Utf8 (codes "java/lang/Thread") ∷ Class 1 ∷ Utf8 (codes "<init>") ∷ Utf8 (codes "()V") ∷ NameAndType 3 4 ∷ Method 2 5
    ∷ Utf8 (codes "D") ∷ Class 7 ∷ Utf8 (codes "java/lang/Object") ∷ Class 9 ∷ Method 8 5 ∷ Utf8 (codes "start") ∷ NameAndType 12 4
    ∷ Method 8 13 ∷ Utf8 (codes "Code") ∷ Utf8 (codes "run") ∷ Utf8 (codes "main") ∷ Utf8 (codes "([Ljava/lang/String;)V") ∷ []

-- class D extends java/lang/Thread
abbrev pub class_d : FileTree
class_d =
    class_with class_d_pool 8 2 []
    (
    -- <init>()V: 0 aload_0, 1 invokespecial Thread.<init>, 4 return
    method 0x0001 3 4 15 1 1
    (hex (codes "2ab70006b1"))
    []
    -- run()V: 0 ldc D, 2 monitorenter, 3 ldc Object, 5 monitorenter, 6 return
    ∷ method 0x0001 16 4 15 1 1
    (hex (codes "1208c2120ac2b1"))
    []
    -- static main([Ljava/lang/String;)V: 0 new D, 3 dup, 4 invokespecial D.<init>, 7 astore_1, 8 aload_1,
    -- 9 invokevirtual D.start, 12 ldc Object, 14 monitorenter, 15 ldc D, 17 monitorenter, 18 return
    ∷ method 0x0009 17 18 15 2 2
    (hex (codes "bb000859b7000b4c2bb6000e120ac21208c2b1"))
    []
    ∷ []
    )

abbrev pub class_d_bytes : List ℕ
class_d_bytes =
    hex (codes "cafebabe0000003100130100106a6176612f6c616e672f5468726561640700010100063c696e69743e0100032829560c000300040a000200")
    ++ hex (codes "05010001440700070100106a6176612f6c616e672f4f626a6563740700090a0008000501000573746172740c000c00040a0008000d010004")
    ++ hex (codes "436f646501000372756e0100046d61696e010016285b4c6a6176612f6c616e672f537472696e673b29560021000800020000000000030001")
    ++ hex (codes "000300040001000f0000001100010001000000052ab70006b1000000000001001000040001000f0000001300010001000000071208c2120a")
    ++ hex (codes "c2b1000000000009001100120001000f0000001f0002000200000013bb000859b7000b4c2bb6000e120ac21208c2b1000000000000")

abbrev pub files : Program
files = class_d ∷ []

pub record LockOrderDeadlock : Type 0 where
  pub layouts : AreLaidOut (class_d_bytes ∷ []) files
  -- neither may go on
  pub deadlock : Reports files usual (times 15 0
      ++ (times 4 1 ++ times 1 0)) None ends.Quiet (codes "thread 0 blocked\nthread 1 blocked\nevents 20\nend quiet\n")
  -- with one thread allowed
  pub one_thread : Reports files (record usual { threads = 1 }) (times 12 0) (Some (picks 0 0)) (ends.Refused 12 causes.Threads)
      (codes "thread 0 runnable\nevents 12\nend refused 12 threads\n")
