-- A method that calls itself, with three frames allowed.
use Rattle.std.specs.Prelude.{ℕ, List, [], ◌∷◌, ◌++◌, None, codes}
use Rattle.model.specs.declared.end.End.TheVariants as ends
use Rattle.model.specs.Tree.{Entry, Utf8, Class, Method, NameAndType, FileTree}
use Rattle.model.specs.Classes.{Program}
use Rattle.run_laws.specs.examples.Bytes.{hex}
use Rattle.run_laws.specs.examples.ClassFiles.{method, class_with, AreLaidOut}
use Rattle.run_laws.specs.examples.Reports.{times, usual, Reports}

abbrev pub class_a_pool : List Entry
class_a_pool =
    Utf8 (codes "A") ∷ Class 1 ∷ Utf8 (codes "r") ∷ Utf8 (codes "()V") ∷ NameAndType 3 4 ∷ Method 2 5 ∷ Utf8 (codes "java/lang/Object")
    ∷ Class 7 ∷ Utf8 (codes "Code") ∷ Utf8 (codes "main") ∷ Utf8 (codes "([Ljava/lang/String;)V") ∷ []

-- class A extends java/lang/Object
abbrev pub class_a : FileTree
class_a =
    class_with class_a_pool 2 8 []
    (
    -- static r()V: 0 invokestatic A.r, 3 return
    method 0x0008 3 4 9 0 0
    (hex (codes "b80006b1"))
    []
    -- static main([Ljava/lang/String;)V: 0 invokestatic A.r, 3 return
    ∷ method 0x0009 10 11 9 0 1
    (hex (codes "b80006b1"))
    []
    ∷ []
    )

abbrev pub class_a_bytes : List ℕ
class_a_bytes =
    hex (codes "cafebabe00000031000c01000141070001010001720100032829560c000300040a000200050100106a6176612f6c616e672f4f626a656374")
    ++ hex (codes "070007010004436f64650100046d61696e010016285b4c6a6176612f6c616e672f537472696e673b29560021000200080000000000020008")
    ++ hex (codes "0003000400010009000000100000000000000004b80006b1000000000009000a000b00010009000000100000000100000004b80006b10000")
    ++ hex (codes "00000000")

abbrev pub files : Program
files = class_a ∷ []

pub record StackOverflow : Type 0 where
  pub layouts : AreLaidOut (class_a_bytes ∷ []) files
  -- a StackOverflowError in place of the fourth frame
  pub overflows : Reports files (record usual { frames = 3 }) (times 10 0) None
      ends.Quiet (codes "thread 0 threw java/lang/StackOverflowError\nevents 10\nend quiet\n")
