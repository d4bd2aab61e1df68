-- Two threads that count under the monitor of a Class object: while one is inside, the other may not enter.
use Rattle.std.specs.Prelude.{ℕ, List, [], ◌∷◌, ◌++◌, Some, codes}
use Rattle.model.specs.declared.end.End.TheVariants as ends
use Rattle.model.specs.Tree.{Entry, Utf8, Class, Field, Method, NameAndType, FileTree}
use Rattle.model.specs.Classes.{Program}
use Rattle.run_laws.specs.examples.Bytes.{hex}
use Rattle.run_laws.specs.examples.ClassFiles.{field, method, handler, class_with, AreLaidOut}
use Rattle.run_laws.specs.examples.Reports.{times, picks, usual, Reports}

abbrev pub class_t_pool : List Entry
class_t_pool =
    Utf8 (codes "java/lang/Thread") ∷ Class 1 ∷ Utf8 (codes "<init>") ∷ Utf8 (codes "()V") ∷ NameAndType 3 4 ∷ Method 2 5
    ∷ Utf8 (codes "T") ∷ Class 7 ∷ Utf8 (codes "n") ∷ Utf8 (codes "I") ∷ NameAndType 9 10 ∷ Field 8 11 ∷ Method 8 5 ∷ Utf8 (codes "start")
    ∷ NameAndType 14 4 ∷ Method 8 15 ∷ Utf8 (codes "join") ∷ NameAndType 17 4 ∷ Method 8 18 ∷ Utf8 (codes "java/lang/System") ∷ Class 20
    ∷ Utf8 (codes "out") ∷ Utf8 (codes "Ljava/io/PrintStream;") ∷ NameAndType 22 23 ∷ Field 21 24 ∷ Utf8 (codes "java/io/PrintStream")
    ∷ Class 26 ∷ Utf8 (codes "println") ∷ Utf8 (codes "(I)V") ∷ NameAndType 28 29 ∷ Method 27 30 ∷ Utf8 (codes "Code") ∷ Utf8 (codes "run")
    ∷ Utf8 (codes "main") ∷ Utf8 (codes "([Ljava/lang/String;)V") ∷ []

-- class T extends java/lang/Thread, with static n:I
abbrev pub class_t : FileTree
class_t =
    class_with class_t_pool 8 2 (field 0x0008 9 10 [] ∷ [])
    (
    -- <init>()V: 0 aload_0, 1 invokespecial Thread.<init>, 4 return
    method 0x0001 3 4 32 1 1
    (hex (codes "2ab70006b1"))
    []
    -- run()V: 0 iconst_0, 1 istore_1, 2 iload_1, 3 sipush 1000, 6 if_icmpge 38, 9 ldc T, 11 dup, 12 astore_2,
    -- 13 monitorenter, 14 getstatic T.n, 17 iconst_1, 18 iadd, 19 putstatic T.n, 22 aload_2, 23 monitorexit,
    -- 24 goto 32, 27 astore_3, 28 aload_2, 29 monitorexit, 30 aload_3, 31 athrow, 32 iinc 1 1, 35 goto 2,
    -- 38 return
    ∷ method 0x0001 33 4 32 2 4
    (hex (codes "033c1b1103e8a200201208594dc2b2000c0460b3000c2cc3a700084e2cc32dbf840101a7ffdfb1"))
    (handler 14 24 27 0 ∷ handler 27 30 27 0 ∷ [])
    -- static main([Ljava/lang/String;)V: 0 new T, 3 dup, 4 invokespecial T.<init>, 7 astore_1, 8 new T, 11 dup,
    -- 12 invokespecial T.<init>, 15 astore_2, 16 aload_1, 17 invokevirtual T.start, 20 aload_2,
    -- 21 invokevirtual T.start, 24 aload_1, 25 invokevirtual T.join, 28 aload_2, 29 invokevirtual T.join,
    -- 32 getstatic System.out, 35 getstatic T.n, 38 invokevirtual PrintStream.println, 41 return
    ∷ method 0x0009 34 35 32 2 3
    (hex (codes "bb000859b7000d4cbb000859b7000d4d2bb600102cb600102bb600132cb60013b20019b2000cb6001fb1"))
    []
    ∷ []
    )

abbrev pub class_t_bytes : List ℕ
class_t_bytes =
    hex (codes "cafebabe0000003100240100106a6176612f6c616e672f5468726561640700010100063c696e69743e0100032829560c000300040a000200")
    ++ hex (codes "05010001540700070100016e010001490c0009000a090008000b0a0008000501000573746172740c000e00040a0008000f0100046a6f696e")
    ++ hex (codes "0c001100040a000800120100106a6176612f6c616e672f53797374656d0700140100036f75740100154c6a6176612f696f2f5072696e7453")
    ++ hex (codes "747265616d3b0c0016001709001500180100136a6176612f696f2f5072696e7453747265616d07001a0100077072696e746c6e0100042849")
    ++ hex (codes "29560c001c001d0a001b001e010004436f646501000372756e0100046d61696e010016285b4c6a6176612f6c616e672f537472696e673b29")
    ++ hex (codes "560021000800020000000100080009000a00000003000100030004000100200000001100010001000000052ab70006b10000000000010021")
    ++ hex (codes "000400010020000000430002000400000027033c1b1103e8a200201208594dc2b2000c0460b3000c2cc3a700084e2cc32dbf840101a7ffdf")
    ++ hex (codes "b10002000e0018001b0000001b001e001b000000000009002200230001002000000036000200030000002abb000859b7000d4cbb000859b7")
    ++ hex (codes "000d4d2bb600102cb600102bb600132cb60013b20019b2000cb6001fb1000000000000")

abbrev pub files : Program
files = class_t ∷ []

pub record CounterUnderLock : Type 0 where
  pub layouts : AreLaidOut (class_t_bytes ∷ []) files
  -- the second thread comes to its monitorenter
  pub one_inside : Reports files usual (times 22 0
      ++ (times 10 1 ++ times 9 2)) (Some (picks 2 0)) (ends.NotEnabled 41)
      (codes "thread 0 runnable\nthread 1 runnable\nthread 2 blocked\nevents 41\nend not enabled 41\n")
