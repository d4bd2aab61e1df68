-- A monitor that is entered 257 times and left as often.
use Rattle.std.specs.Prelude.{ℕ, List, [], ◌∷◌, ◌++◌, Some, None, codes}
use Rattle.model.specs.declared.end.End.TheVariants as ends
use Rattle.model.specs.declared.end.RunCause.TheVariants as causes
use Rattle.model.specs.Tree.{Entry, Utf8, Class, Method, NameAndType, FileTree}
use Rattle.model.specs.Classes.{Program}
use Rattle.run_laws.specs.examples.Bytes.{hex}
use Rattle.run_laws.specs.examples.ClassFiles.{method, class_with, AreLaidOut}
use Rattle.run_laws.specs.examples.Reports.{times, picks, usual, Reports}

abbrev pub class_a_pool : List Entry
class_a_pool =
    Utf8 (codes "java/lang/Object") ∷ Class 1 ∷ Utf8 (codes "<init>") ∷ Utf8 (codes "()V") ∷ NameAndType 3 4 ∷ Method 2 5
    ∷ Utf8 (codes "A") ∷ Class 7 ∷ Utf8 (codes "main") ∷ Utf8 (codes "([Ljava/lang/String;)V") ∷ Utf8 (codes "Code") ∷ []

-- class A extends java/lang/Object
abbrev pub class_a : FileTree
class_a =
    class_with class_a_pool 8 2 []
    (
    -- static main([Ljava/lang/String;)V: 0 new Object, 3 dup, 4 invokespecial Object.<init>, 7 astore_1,
    -- 8 iconst_0, 9 istore_2, 10 iload_2, 11 sipush 257, 14 if_icmpge 25, 17 aload_1, 18 monitorenter,
    -- 19 iinc 2 1, 22 goto 10, 25 iload_2, 26 ifeq 37, 29 aload_1, 30 monitorexit, 31 iinc 2 -1, 34 goto 25,
    -- 37 return
    method 0x0009 9 10 11 2 3
    (hex (codes "bb000259b700064c033d1c110101a2000b2bc2840201a7fff41c99000b2bc38402ffa7fff7b1"))
    []
    ∷ []
    )

abbrev pub class_a_bytes : List ℕ
class_a_bytes =
    hex (codes "cafebabe00000031000c0100106a6176612f6c616e672f4f626a6563740700010100063c696e69743e0100032829560c000300040a000200")
    ++ hex (codes "05010001410700070100046d61696e010016285b4c6a6176612f6c616e672f537472696e673b2956010004436f6465002100080002000000")
    ++ hex (codes "00000100090009000a0001000b000000320002000300000026bb000259b700064c033d1c110101a2000b2bc2840201a7fff41c99000b2bc3")
    ++ hex (codes "8402ffa7fff7b1000000000000")

abbrev pub files : Program
files = class_a ∷ []

pub record Entry257 : Type 0 where
  pub layouts : AreLaidOut (class_a_bytes ∷ []) files
  -- with one monitor allowed to be inflated
  pub inflated : Reports files (record usual { monitors = 1 }) (times 3357 0) None
      ends.Quiet (codes "thread 0 ended\nevents 3357\nend quiet\n")
  -- with none
  pub no_monitors : Reports files (record usual { monitors = 0 }) (times 1806 0) (Some (picks 0 0)) (ends.Refused 1806 causes.Monitors)
      (codes "thread 0 runnable\nevents 1806\nend refused 1806 monitors\n")
