-- An Object stored into an array of X (JVMS 6.5, aastore).
use Rattle.std.specs.Prelude.{ℕ, List, [], ◌∷◌, ◌++◌, Some, None, codes}
use Rattle.model.specs.declared.end.End.TheVariants as ends
use Rattle.model.specs.declared.end.RunCause.TheVariants as causes
use Rattle.model.specs.Tree.{Entry, Utf8, Class, Method, NameAndType, FileTree}
use Rattle.model.specs.Classes.{Program}
use Rattle.run_laws.specs.examples.Bytes.{hex}
use Rattle.run_laws.specs.examples.ClassFiles.{method, class_with, AreLaidOut}
use Rattle.run_laws.specs.examples.Reports.{times, picks, usual, Reports}

abbrev pub class_x_pool : List Entry
class_x_pool =
    Utf8 (codes "X") ∷ Class 1 ∷ Utf8 (codes "java/lang/Object") ∷ Class 3 ∷ Utf8 (codes "<init>") ∷ Utf8 (codes "()V") ∷ NameAndType 5 6
    ∷ Method 4 7 ∷ Utf8 (codes "main") ∷ Utf8 (codes "([Ljava/lang/String;)V") ∷ Utf8 (codes "Code") ∷ []

-- class X extends java/lang/Object
abbrev pub class_x : FileTree
class_x =
    class_with class_x_pool 2 4 []
    (
    -- static main([Ljava/lang/String;)V: 0 iconst_1, 1 anewarray X, 4 astore_1, 5 aload_1, 6 iconst_0,
    -- 7 new Object, 10 dup, 11 invokespecial Object.<init>, 14 aastore, 15 return
    method 0x0009 9 10 11 4 2
    (hex (codes "04bd00024c2b03bb000459b7000853b1"))
    []
    ∷ []
    )

abbrev pub class_x_bytes : List ℕ
class_x_bytes =
    hex (codes "cafebabe00000031000c010001580700010100106a6176612f6c616e672f4f626a6563740700030100063c696e69743e0100032829560c00")
    ++ hex (codes "0500060a000400070100046d61696e010016285b4c6a6176612f6c616e672f537472696e673b2956010004436f6465002100020004000000")
    ++ hex (codes "00000100090009000a0001000b0000001c000400020000001004bd00024c2b03bb000459b7000853b1000000000000")

abbrev pub files : Program
files = class_x ∷ []

pub record ArrayStore : Type 0 where
  pub layouts : AreLaidOut (class_x_bytes ∷ []) files
  -- an ArrayStoreException
  pub throws : Reports files usual (times 14 0) None
      ends.Quiet (codes "thread 0 threw java/lang/ArrayStoreException\nevents 14\nend quiet\n")
  -- the limits are met and not passed: the exception is an object, too
  pub exact : Reports files (record usual { objects = 3; cells = 1 }) (times 14 0) None
      ends.Quiet (codes "thread 0 threw java/lang/ArrayStoreException\nevents 14\nend quiet\n")
  -- with no cell allowed
  pub no_cells : Reports files (record usual { cells = 0 }) (times 5 0) (Some (picks 0 0)) (ends.Refused 5 causes.Cells)
      (codes "thread 0 runnable\nevents 5\nend refused 5 cells\n")
  -- with two objects allowed
  pub two_objects : Reports files (record usual { objects = 2 }) (times 12 0) (Some (picks 0 0)) (ends.Refused 12 causes.Objects)
      (codes "thread 0 runnable\nevents 12\nend refused 12 objects\n")
