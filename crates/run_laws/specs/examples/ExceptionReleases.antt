-- An exception that leaves a synchronized static method releases its monitor (JVMS 2.11.10).
use Rattle.std.specs.Prelude.{ℕ, List, [], ◌∷◌, ◌++◌, Some, None, codes}
use Rattle.model.specs.declared.end.End.TheVariants as ends
use Rattle.model.specs.Tree.{Entry, Utf8, Class, Field, Method, NameAndType, FileTree}
use Rattle.model.specs.Classes.{Program}
use Rattle.run_laws.specs.examples.Bytes.{hex}
use Rattle.run_laws.specs.examples.ClassFiles.{method, handler, class_with, AreLaidOut}
use Rattle.run_laws.specs.examples.Reports.{times, picks, usual, Reports}

abbrev pub class_v_pool : List Entry
class_v_pool =
    Utf8 (codes "java/lang/Thread") ∷ Class 1 ∷ Utf8 (codes "<init>") ∷ Utf8 (codes "()V") ∷ NameAndType 3 4 ∷ Method 2 5
    ∷ Utf8 (codes "V") ∷ Class 7 ∷ Utf8 (codes "f") ∷ NameAndType 9 4 ∷ Method 8 10 ∷ Utf8 (codes "java/lang/System") ∷ Class 12
    ∷ Utf8 (codes "out") ∷ Utf8 (codes "Ljava/io/PrintStream;") ∷ NameAndType 14 15 ∷ Field 13 16 ∷ Utf8 (codes "java/io/PrintStream")
    ∷ Class 18 ∷ Utf8 (codes "println") ∷ Utf8 (codes "(I)V") ∷ NameAndType 20 21 ∷ Method 19 22
    ∷ Utf8 (codes "java/lang/ArithmeticException") ∷ Class 24 ∷ Method 8 5 ∷ Utf8 (codes "start") ∷ NameAndType 27 4 ∷ Method 8 28
    ∷ Utf8 (codes "run") ∷ NameAndType 30 4 ∷ Method 8 31 ∷ Utf8 (codes "Code") ∷ Utf8 (codes "main")
    ∷ Utf8 (codes "([Ljava/lang/String;)V") ∷ []

-- class V extends java/lang/Thread
abbrev pub class_v : FileTree
class_v =
    class_with class_v_pool 8 2 []
    (
    -- <init>()V: 0 aload_0, 1 invokespecial Thread.<init>, 4 return
    method 0x0001 3 4 33 1 1
    (hex (codes "2ab70006b1"))
    []
    -- static synchronized f()V: 0 iconst_1, 1 iconst_0, 2 idiv, 3 pop, 4 return
    ∷ method 0x0028 9 4 33 2 0
    (hex (codes "04036c57b1"))
    []
    -- run()V: 0 invokestatic V.f, 3 return, 4 pop, 5 getstatic System.out, 8 iconst_3,
    -- 9 invokevirtual PrintStream.println, 12 return
    ∷ method 0x0001 30 4 33 2 1
    (hex (codes "b8000bb157b2001106b60017b1"))
    (handler 0 3 4 25 ∷ [])
    -- static main([Ljava/lang/String;)V: 0 new V, 3 dup, 4 invokespecial V.<init>, 7 astore_1, 8 aload_1,
    -- 9 invokevirtual V.start, 12 aload_1, 13 invokevirtual V.run, 16 return
    ∷ method 0x0009 34 35 33 2 2
    (hex (codes "bb000859b7001a4c2bb6001d2bb60020b1"))
    []
    ∷ []
    )

abbrev pub class_v_bytes : List ℕ
class_v_bytes =
    hex (codes "cafebabe0000003100240100106a6176612f6c616e672f5468726561640700010100063c696e69743e0100032829560c000300040a000200")
    ++ hex (codes "0501000156070007010001660c000900040a0008000a0100106a6176612f6c616e672f53797374656d07000c0100036f75740100154c6a61")
    ++ hex (codes "76612f696f2f5072696e7453747265616d3b0c000e000f09000d00100100136a6176612f696f2f5072696e7453747265616d070012010007")
    ++ hex (codes "7072696e746c6e010004284929560c001400150a0013001601001d6a6176612f6c616e672f41726974686d65746963457863657074696f6e")
    ++ hex (codes "0700180a0008000501000573746172740c001b00040a0008001c01000372756e0c001e00040a0008001f010004436f64650100046d61696e")
    ++ hex (codes "010016285b4c6a6176612f6c616e672f537472696e673b295600210008000200000000000400010003000400010021000000110001000100")
    ++ hex (codes "0000052ab70006b1000000000028000900040001002100000011000200000000000504036c57b1000000000001001e000400010021000000")
    ++ hex (codes "21000200010000000db8000bb157b2001106b60017b1000100000003000400190000000900220023000100210000001d0002000200000011")
    ++ hex (codes "bb000859b7001a4c2bb6001d2bb60020b1000000000000")

abbrev pub files : Program
files = class_v ∷ []

pub record ExceptionReleases : Type 0 where
  pub layouts : AreLaidOut (class_v_bytes ∷ []) files
  -- both threads throw in it, and both catch
  pub released : Reports files usual (times 16 0
      ++ (times 1 1 ++ (times 4 0 ++ (times 11 1
      ++ times 7 0)))) None ends.Quiet (codes "3\n3\nthread 0 ended\nthread 1 ended\nevents 39\nend quiet\n")
  -- while the first is inside, the second may not call
  pub held : Reports files usual (times 16 0
      ++ times 1 1) (Some (picks 1 0)) (ends.NotEnabled 17) (codes "thread 0 runnable\nthread 1 blocked\nevents 17\nend not enabled 17\n")
