-- The initialiser of the initial class fails: main does not begin.
use Rattle.std.specs.Prelude.{ℕ, List, [], ◌∷◌, ◌++◌, None, codes}
use Rattle.model.specs.declared.end.End.TheVariants as ends
use Rattle.model.specs.Tree.{Entry, Utf8, Class, FileTree}
use Rattle.model.specs.Classes.{Program}
use Rattle.run_laws.specs.examples.Bytes.{hex}
use Rattle.run_laws.specs.examples.ClassFiles.{method, class_with, AreLaidOut}
use Rattle.run_laws.specs.examples.Reports.{times, usual, Reports}

abbrev pub class_e_pool : List Entry
class_e_pool =
    Utf8 (codes "E") ∷ Class 1 ∷ Utf8 (codes "java/lang/Object") ∷ Class 3 ∷ Utf8 (codes "<clinit>") ∷ Utf8 (codes "()V")
    ∷ Utf8 (codes "Code") ∷ Utf8 (codes "main") ∷ Utf8 (codes "([Ljava/lang/String;)V") ∷ []

-- class E extends java/lang/Object
abbrev pub class_e : FileTree
class_e =
    class_with class_e_pool 2 4 []
    (
    -- static <clinit>()V: 0 iconst_1, 1 iconst_0, 2 idiv, 3 pop, 4 return
    method 0x0008 5 6 7 2 0
    (hex (codes "04036c57b1"))
    []
    -- static main([Ljava/lang/String;)V: 0 return
    ∷ method 0x0009 8 9 7 0 1
    (hex (codes "b1"))
    []
    ∷ []
    )

abbrev pub class_e_bytes : List ℕ
class_e_bytes =
    hex (codes "cafebabe00000031000a010001450700010100106a6176612f6c616e672f4f626a6563740700030100083c636c696e69743e010003282956")
    ++ hex (codes "010004436f64650100046d61696e010016285b4c6a6176612f6c616e672f537472696e673b29560021000200040000000000020008000500")
    ++ hex (codes "060001000700000011000200000000000504036c57b100000000000900080009000100070000000d0000000100000001b1000000000000")

abbrev pub files : Program
files = class_e ∷ []

pub record FailingInitialClass : Type 0 where
  pub layouts : AreLaidOut (class_e_bytes ∷ []) files
  -- the thread ends with an ExceptionInInitializerError
  pub fails : Reports files usual (times 7 0) None
      ends.Quiet (codes "thread 0 threw java/lang/ExceptionInInitializerError\nevents 7\nend quiet\n")
