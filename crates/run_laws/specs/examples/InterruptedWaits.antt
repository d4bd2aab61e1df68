-- A thread is interrupted while it waits, and another time before it waits (JLS 17.2.1, 17.2.3).
use Rattle.std.specs.Prelude.{ℕ, List, [], ◌∷◌, ◌++◌, None, codes}
use Rattle.model.specs.declared.end.End.TheVariants as ends
use Rattle.model.specs.Tree.{Entry, Utf8, Class, Field, Method, NameAndType, FileTree}
use Rattle.model.specs.Classes.{Program}
use Rattle.run_laws.specs.examples.Bytes.{hex}
use Rattle.run_laws.specs.examples.ClassFiles.{method, handler, class_with, AreLaidOut}
use Rattle.run_laws.specs.examples.Reports.{times, usual, Reports}

abbrev pub class_q_pool : List Entry
class_q_pool =
    Utf8 (codes "java/lang/Thread") ∷ Class 1 ∷ Utf8 (codes "<init>") ∷ Utf8 (codes "()V") ∷ NameAndType 3 4 ∷ Method 2 5
    ∷ Utf8 (codes "Q") ∷ Class 7 ∷ Utf8 (codes "java/lang/Object") ∷ Class 9 ∷ Utf8 (codes "wait") ∷ NameAndType 11 4 ∷ Method 10 12
    ∷ Utf8 (codes "java/lang/System") ∷ Class 14 ∷ Utf8 (codes "out") ∷ Utf8 (codes "Ljava/io/PrintStream;") ∷ NameAndType 16 17
    ∷ Field 15 18 ∷ Utf8 (codes "isInterrupted") ∷ Utf8 (codes "()Z") ∷ NameAndType 20 21 ∷ Method 8 22
    ∷ Utf8 (codes "java/io/PrintStream") ∷ Class 24 ∷ Utf8 (codes "println") ∷ Utf8 (codes "(I)V") ∷ NameAndType 26 27 ∷ Method 25 28
    ∷ Utf8 (codes "java/lang/InterruptedException") ∷ Class 30 ∷ Method 8 5 ∷ Utf8 (codes "start") ∷ NameAndType 33 4 ∷ Method 8 34
    ∷ Utf8 (codes "interrupt") ∷ NameAndType 36 4 ∷ Method 8 37 ∷ Utf8 (codes "Code") ∷ Utf8 (codes "run") ∷ Utf8 (codes "main")
    ∷ Utf8 (codes "([Ljava/lang/String;)V") ∷ []

-- class Q extends java/lang/Thread
abbrev pub class_q : FileTree
class_q =
    class_with class_q_pool 8 2 []
    (
    -- <init>()V: 0 aload_0, 1 invokespecial Thread.<init>, 4 return
    method 0x0001 3 4 39 1 1
    (hex (codes "2ab70006b1"))
    []
    -- run()V: 0 ldc Q, 2 monitorenter, 3 ldc Q, 5 invokevirtual Object.wait, 8 return, 9 pop,
    -- 10 getstatic System.out, 13 aload_0, 14 invokevirtual Q.isInterrupted, 17 invokevirtual PrintStream.println,
    -- 20 ldc Q, 22 invokevirtual Object.wait, 25 return, 26 pop, 27 getstatic System.out, 30 aload_0,
    -- 31 invokevirtual Q.isInterrupted, 34 invokevirtual PrintStream.println, 37 ldc Q, 39 monitorexit, 40 return
    ∷ method 0x0001 40 4 39 2 1
    (hex (codes "1208c21208b6000db157b200132ab60017b6001d1208b6000db157b200132ab60017b6001d1208c3b1"))
    (handler 3 8 9 31 ∷ handler 20 25 26 31 ∷ [])
    -- static main([Ljava/lang/String;)V: 0 new Q, 3 dup, 4 invokespecial Q.<init>, 7 astore_1, 8 aload_1,
    -- 9 invokevirtual Q.start, 12 aload_1, 13 invokevirtual Q.interrupt, 16 aload_1, 17 invokevirtual Q.interrupt,
    -- 20 return
    ∷ method 0x0009 41 42 39 2 2
    (hex (codes "bb000859b700204c2bb600232bb600262bb60026b1"))
    []
    ∷ []
    )

abbrev pub class_q_bytes : List ℕ
class_q_bytes =
    hex (codes "cafebabe00000031002b0100106a6176612f6c616e672f5468726561640700010100063c696e69743e0100032829560c000300040a000200")
    ++ hex (codes "05010001510700070100106a6176612f6c616e672f4f626a656374070009010004776169740c000b00040a000a000c0100106a6176612f6c")
    ++ hex (codes "616e672f53797374656d07000e0100036f75740100154c6a6176612f696f2f5072696e7453747265616d3b0c0010001109000f001201000d")
    ++ hex (codes "6973496e74657272757074656401000328295a0c001400150a000800160100136a6176612f696f2f5072696e7453747265616d0700180100")
    ++ hex (codes "077072696e746c6e010004284929560c001a001b0a0019001c01001e6a6176612f6c616e672f496e74657272757074656445786365707469")
    ++ hex (codes "6f6e07001e0a0008000501000573746172740c002100040a00080022010009696e746572727570740c002400040a00080025010004436f64")
    ++ hex (codes "6501000372756e0100046d61696e010016285b4c6a6176612f6c616e672f537472696e673b29560021000800020000000000030001000300")
    ++ hex (codes "04000100270000001100010001000000052ab70006b100000000000100280004000100270000004500020001000000291208c21208b6000d")
    ++ hex (codes "b157b200132ab60017b6001d1208b6000db157b200132ab60017b6001d1208c3b10002000300080009001f00140019001a001f0000000900")
    ++ hex (codes "29002a00010027000000210002000200000015bb000859b700204c2bb600232bb600262bb60026b1000000000000")

abbrev pub files : Program
files = class_q ∷ []

pub record InterruptedWaits : Type 0 where
  pub layouts : AreLaidOut (class_q_bytes ∷ []) files
  -- twice an InterruptedException, twice with the status cleared
  pub both : Reports files usual (times 15 0
      ++ (times 13 1 ++ (times 3 0 ++ times 10 1))) None ends.Quiet (codes "0\n0\nthread 0 ended\nthread 1 ended\nevents 41\nend quiet\n")
