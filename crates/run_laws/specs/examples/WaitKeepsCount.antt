-- A thread that entered a monitor three times waits, and owns it three times again (JLS 17.2.1). Of two waiting threads
-- one is notified and the other is not.
use Rattle.std.specs.Prelude.{ℕ, List, [], ◌∷◌, ◌++◌, Some, None, codes}
use Rattle.model.specs.declared.end.End.TheVariants as ends
use Rattle.model.specs.declared.end.RunCause.TheVariants as causes
use Rattle.model.specs.Tree.{Entry, Utf8, Class, Field, Method, NameAndType, FileTree}
use Rattle.model.specs.Classes.{Program}
use Rattle.run_laws.specs.examples.Bytes.{hex}
use Rattle.run_laws.specs.examples.ClassFiles.{method, class_with, AreLaidOut}
use Rattle.run_laws.specs.examples.Reports.{times, picks, usual, Reports}

abbrev pub class_n_pool : List Entry
class_n_pool =
    Utf8 (codes "java/lang/Thread") ∷ Class 1 ∷ Utf8 (codes "<init>") ∷ Utf8 (codes "()V") ∷ NameAndType 3 4 ∷ Method 2 5
    ∷ Utf8 (codes "N") ∷ Class 7 ∷ Utf8 (codes "java/lang/Object") ∷ Class 9 ∷ Utf8 (codes "wait") ∷ NameAndType 11 4 ∷ Method 10 12
    ∷ Utf8 (codes "java/lang/System") ∷ Class 14 ∷ Utf8 (codes "out") ∷ Utf8 (codes "Ljava/io/PrintStream;") ∷ NameAndType 16 17
    ∷ Field 15 18 ∷ Utf8 (codes "isInterrupted") ∷ Utf8 (codes "()Z") ∷ NameAndType 20 21 ∷ Method 8 22
    ∷ Utf8 (codes "java/io/PrintStream") ∷ Class 24 ∷ Utf8 (codes "println") ∷ Utf8 (codes "(I)V") ∷ NameAndType 26 27 ∷ Method 25 28
    ∷ Method 8 5 ∷ Utf8 (codes "start") ∷ NameAndType 31 4 ∷ Method 8 32 ∷ Utf8 (codes "notify") ∷ NameAndType 34 4 ∷ Method 10 35
    ∷ Utf8 (codes "interrupt") ∷ NameAndType 37 4 ∷ Method 8 38 ∷ Utf8 (codes "Code") ∷ Utf8 (codes "run") ∷ Utf8 (codes "main")
    ∷ Utf8 (codes "([Ljava/lang/String;)V") ∷ []

-- class N extends java/lang/Thread
abbrev pub class_n : FileTree
class_n =
    class_with class_n_pool 8 2 []
    (
    -- <init>()V: 0 aload_0, 1 invokespecial Thread.<init>, 4 return
    method 0x0001 3 4 40 1 1
    (hex (codes "2ab70006b1"))
    []
    -- run()V: 0 ldc N, 2 monitorenter, 3 ldc N, 5 monitorenter, 6 ldc N, 8 monitorenter, 9 ldc N,
    -- 11 invokevirtual Object.wait, 14 getstatic System.out, 17 aload_0, 18 invokevirtual N.isInterrupted,
    -- 21 invokevirtual PrintStream.println, 24 ldc N, 26 monitorexit, 27 ldc N, 29 monitorexit, 30 ldc N,
    -- 32 monitorexit, 33 ldc N, 35 monitorexit, 36 return
    ∷ method 0x0001 41 4 40 2 1
    (hex (codes "1208c21208c21208c21208b6000db200132ab60017b6001d1208c31208c31208c31208c3b1"))
    []
    -- static main([Ljava/lang/String;)V: 0 new N, 3 dup, 4 invokespecial N.<init>, 7 astore_1, 8 new N, 11 dup,
    -- 12 invokespecial N.<init>, 15 astore_2, 16 aload_1, 17 invokevirtual N.start, 20 aload_2,
    -- 21 invokevirtual N.start, 24 ldc N, 26 monitorenter, 27 ldc N, 29 invokevirtual Object.notify, 32 aload_2,
    -- 33 invokevirtual N.interrupt, 36 ldc N, 38 monitorexit, 39 return
    ∷ method 0x0009 42 43 40 2 3
    (hex (codes "bb000859b7001e4cbb000859b7001e4d2bb600212cb600211208c21208b600242cb600271208c3b1"))
    []
    ∷ []
    )

abbrev pub class_n_bytes : List ℕ
class_n_bytes =
    hex (codes "cafebabe00000031002c0100106a6176612f6c616e672f5468726561640700010100063c696e69743e0100032829560c000300040a000200")
    ++ hex (codes "050100014e0700070100106a6176612f6c616e672f4f626a656374070009010004776169740c000b00040a000a000c0100106a6176612f6c")
    ++ hex (codes "616e672f53797374656d07000e0100036f75740100154c6a6176612f696f2f5072696e7453747265616d3b0c0010001109000f001201000d")
    ++ hex (codes "6973496e74657272757074656401000328295a0c001400150a000800160100136a6176612f696f2f5072696e7453747265616d0700180100")
    ++ hex (codes "077072696e746c6e010004284929560c001a001b0a0019001c0a0008000501000573746172740c001f00040a000800200100066e6f746966")
    ++ hex (codes "790c002200040a000a0023010009696e746572727570740c002500040a00080026010004436f646501000372756e0100046d61696e010016")
    ++ hex (codes "285b4c6a6176612f6c616e672f537472696e673b295600210008000200000000000300010003000400010028000000110001000100000005")
    ++ hex (codes "2ab70006b100000000000100290004000100280000003100020001000000251208c21208c21208c21208b6000db200132ab60017b6001d12")
    ++ hex (codes "08c31208c31208c31208c3b1000000000009002a002b00010028000000340002000300000028bb000859b7001e4cbb000859b7001e4d2bb6")
    ++ hex (codes "00212cb600211208c21208b600242cb600271208c3b1000000000000")

abbrev pub files : Program
files = class_n ∷ []

pub record WaitKeepsCount : Type 0 where
  pub layouts : AreLaidOut (class_n_bytes ∷ []) files
  -- the second member is picked; it was interrupted after that, and wait returns
  pub second_notified : Reports files usual (times 22 0 ++ (times 9 1 ++ (times 9 2 ++ (times 3 0 ++ ((picks 0 1 ∷ []) ++ (times 5 0 ++ times 14 2)))))) None ends.Quiet (codes "1\nthread 0 ended\nthread 1 waiting\nthread 2 threw java/lang/IllegalMonitorStateException\nevents 63\nend quiet\n")
  -- there is no third member
  pub no_third : Reports files usual (times 22 0
      ++ (times 9 1 ++ (times 9 2 ++ times 3 0))) (Some (picks 0 2)) (ends.NotEnabled 43)
      (codes "thread 0 runnable\nthread 1 waiting\nthread 2 waiting\nevents 43\nend not enabled 43\n")
  -- the limits are met and not passed
  pub exact : Reports files (record usual { objects = 3; cells = 2; monitors = 1 }) (times 22 0 ++ (times 9 1 ++ (times 9 2 ++ (times 3 0 ++ ((picks 0 1 ∷ []) ++ (times 5 0 ++ times 14 2)))))) None ends.Quiet (codes "1\nthread 0 ended\nthread 1 waiting\nthread 2 threw java/lang/IllegalMonitorStateException\nevents 63\nend quiet\n")
  -- with no monitor allowed to be inflated
  pub no_monitors : Reports files (record usual { monitors = 0 }) (times 22 0
      ++ times 8 1) (Some (picks 1 0)) (ends.Refused 30 causes.Monitors)
      (codes "thread 0 runnable\nthread 1 runnable\nthread 2 runnable\nevents 30\nend refused 30 monitors\n")
  -- the exception of the last monitorexit is one object too many
  pub two_objects : Reports files (record usual { objects = 2 }) (times 22 0
      ++ (times 9 1 ++ (times 9 2 ++ (times 3 0
      ++ ((picks 0 1 ∷ []) ++ (times 5 0 ++ times 12 2)))))) (Some (picks 2 0)) (ends.Refused 61 causes.Objects)
      (codes "1\nthread 0 ended\nthread 1 waiting\nthread 2 runnable\nevents 61\nend refused 61 objects\n")
