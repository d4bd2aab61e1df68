-- A synchronized method that releases its own monitor: its return finds that the thread does not own it.
use Rattle.std.specs.Prelude.{ℕ, List, [], ◌∷◌, ◌++◌, None, codes}
use Rattle.model.specs.declared.end.End.TheVariants as ends
use Rattle.model.specs.Tree.{Entry, Utf8, Class, Method, NameAndType, FileTree}
use Rattle.model.specs.Classes.{Program}
use Rattle.run_laws.specs.examples.Bytes.{hex}
use Rattle.run_laws.specs.examples.ClassFiles.{method, class_with, AreLaidOut}
use Rattle.run_laws.specs.examples.Reports.{times, usual, Reports}

abbrev pub class_w_pool : List Entry
class_w_pool =
    Utf8 (codes "W") ∷ Class 1 ∷ Utf8 (codes "g") ∷ Utf8 (codes "()V") ∷ NameAndType 3 4 ∷ Method 2 5 ∷ Utf8 (codes "java/lang/Object")
    ∷ Class 7 ∷ Utf8 (codes "Code") ∷ Utf8 (codes "main") ∷ Utf8 (codes "([Ljava/lang/String;)V") ∷ []

-- class W extends java/lang/Object
abbrev pub class_w : FileTree
class_w =
    class_with class_w_pool 2 8 []
    (
    -- static synchronized g()V: 0 ldc W, 2 monitorexit, 3 return
    method 0x0028 3 4 9 1 0
    (hex (codes "1202c3b1"))
    []
    -- static main([Ljava/lang/String;)V: 0 invokestatic W.g, 3 return
    ∷ method 0x0009 10 11 9 0 1
    (hex (codes "b80006b1"))
    []
    ∷ []
    )

abbrev pub class_w_bytes : List ℕ
class_w_bytes =
    hex (codes "cafebabe00000031000c01000157070001010001670100032829560c000300040a000200050100106a6176612f6c616e672f4f626a656374")
    ++ hex (codes "070007010004436f64650100046d61696e010016285b4c6a6176612f6c616e672f537472696e673b29560021000200080000000000020028")
    ++ hex (codes "00030004000100090000001000010000000000041202c3b1000000000009000a000b00010009000000100000000100000004b80006b10000")
    ++ hex (codes "00000000")

abbrev pub files : Program
files = class_w ∷ []

pub record ExitOfWhatIsNotOwned : Type 0 where
  pub layouts : AreLaidOut (class_w_bytes ∷ []) files
  -- the exception comes from the return
  pub throws : Reports files usual (times 10 0) None
      ends.Quiet (codes "thread 0 threw java/lang/IllegalMonitorStateException\nevents 10\nend quiet\n")
