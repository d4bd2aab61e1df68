-- invokeinterface on an object that does not implement the interface (JVMS 6.5).
use Rattle.std.specs.Prelude.{ℕ, List, [], ◌∷◌, ◌++◌, Some, None, codes}
use Rattle.model.specs.declared.end.End.TheVariants as ends
use Rattle.model.specs.declared.end.RunCause.TheVariants as causes
use Rattle.model.specs.Tree.{Entry, Utf8, Class, Method, InterfaceMethod, NameAndType, FileTree}
use Rattle.model.specs.Classes.{Program}
use Rattle.run_laws.specs.examples.Bytes.{hex}
use Rattle.run_laws.specs.examples.ClassFiles.{method, class_with, AreLaidOut}
use Rattle.run_laws.specs.examples.Reports.{times, picks, usual, Reports}

abbrev pub class_a_pool : List Entry
class_a_pool =
    Utf8 (codes "java/lang/Runnable") ∷ Class 1 ∷ Utf8 (codes "run") ∷ Utf8 (codes "()V") ∷ NameAndType 3 4 ∷ InterfaceMethod 2 5
    ∷ Utf8 (codes "java/lang/Object") ∷ Class 7 ∷ Utf8 (codes "<init>") ∷ NameAndType 9 4 ∷ Method 8 10 ∷ Utf8 (codes "A") ∷ Class 12
    ∷ Utf8 (codes "h") ∷ Utf8 (codes "(Ljava/lang/Runnable;)V") ∷ NameAndType 14 15 ∷ Method 13 16 ∷ Utf8 (codes "Code")
    ∷ Utf8 (codes "main") ∷ Utf8 (codes "([Ljava/lang/String;)V") ∷ []

-- class A extends java/lang/Object
abbrev pub class_a : FileTree
class_a =
    class_with class_a_pool 13 8 []
    (
    -- static h(Ljava/lang/Runnable;)V: 0 aload_0, 1 invokeinterface Runnable.run, 6 return
    method 0x0008 14 15 18 1 1
    (hex (codes "2ab900060100b1"))
    []
    -- static main([Ljava/lang/String;)V: 0 new Object, 3 dup, 4 invokespecial Object.<init>, 7 invokestatic A.h,
    -- 10 return
    ∷ method 0x0009 19 20 18 2 1
    (hex (codes "bb000859b7000bb80011b1"))
    []
    ∷ []
    )

abbrev pub class_a_bytes : List ℕ
class_a_bytes =
    hex (codes "cafebabe0000003100150100126a6176612f6c616e672f52756e6e61626c6507000101000372756e0100032829560c000300040b00020005")
    ++ hex (codes "0100106a6176612f6c616e672f4f626a6563740700070100063c696e69743e0c000900040a0008000a0100014107000c0100016801001728")
    ++ hex (codes "4c6a6176612f6c616e672f52756e6e61626c653b29560c000e000f0a000d0010010004436f64650100046d61696e010016285b4c6a617661")
    ++ hex (codes "2f6c616e672f537472696e673b29560021000d00080000000000020008000e000f000100120000001300010001000000072ab900060100b1")
    ++ hex (codes "000000000009001300140001001200000017000200010000000bbb000859b7000bb80011b1000000000000")

abbrev pub files : Program
files = class_a ∷ []

pub record NotARunnable : Type 0 where
  pub layouts : AreLaidOut (class_a_bytes ∷ []) files
  -- an IncompatibleClassChangeError
  pub throws : Reports files usual (times 12 0) None
      ends.Quiet (codes "thread 0 threw java/lang/IncompatibleClassChangeError\nevents 12\nend quiet\n")
  -- with no object allowed
  pub no_objects : Reports files (record usual { objects = 0 }) (times 4 0) (Some (picks 0 0)) (ends.Refused 4 causes.Objects)
      (codes "thread 0 runnable\nevents 4\nend refused 4 objects\n")
