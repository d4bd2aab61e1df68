-- Two String constants of one text are one object (JVMS 5.1).
use Rattle.std.specs.Prelude.{ℕ, List, [], ◌∷◌, ◌++◌, None, codes}
use Rattle.model.specs.declared.end.End.TheVariants as ends
use Rattle.model.specs.Tree.{Entry, Utf8, Class, String, Field, Method, NameAndType, FileTree}
use Rattle.model.specs.Classes.{Program}
use Rattle.run_laws.specs.examples.Bytes.{hex}
use Rattle.run_laws.specs.examples.ClassFiles.{method, class_with, AreLaidOut}
use Rattle.run_laws.specs.examples.Reports.{times, usual, Reports}

abbrev pub class_a_pool : List Entry
class_a_pool =
    Utf8 (codes "text") ∷ String 1 ∷ String 1 ∷ Utf8 (codes "java/lang/System") ∷ Class 4 ∷ Utf8 (codes "out")
    ∷ Utf8 (codes "Ljava/io/PrintStream;") ∷ NameAndType 6 7 ∷ Field 5 8 ∷ Utf8 (codes "java/io/PrintStream") ∷ Class 10
    ∷ Utf8 (codes "println") ∷ Utf8 (codes "(I)V") ∷ NameAndType 12 13 ∷ Method 11 14 ∷ Utf8 (codes "A") ∷ Class 16
    ∷ Utf8 (codes "java/lang/Object") ∷ Class 18 ∷ Utf8 (codes "main") ∷ Utf8 (codes "([Ljava/lang/String;)V") ∷ Utf8 (codes "Code") ∷ []

-- class A extends java/lang/Object
abbrev pub class_a : FileTree
class_a =
    class_with class_a_pool 17 19 []
    (
    -- static main([Ljava/lang/String;)V: 0 ldc "text", 2 ldc "text", 4 if_acmpne 15, 7 getstatic System.out,
    -- 10 iconst_1, 11 invokevirtual PrintStream.println, 14 return, 15 getstatic System.out, 18 iconst_0,
    -- 19 invokevirtual PrintStream.println, 22 return
    method 0x0009 20 21 22 2 1
    (hex (codes "12021203a6000bb2000904b6000fb1b2000903b6000fb1"))
    []
    ∷ []
    )

abbrev pub class_a_bytes : List ℕ
class_a_bytes =
    hex (codes "cafebabe000000310017010004746578740800010800010100106a6176612f6c616e672f53797374656d0700040100036f75740100154c6a")
    ++ hex (codes "6176612f696f2f5072696e7453747265616d3b0c0006000709000500080100136a6176612f696f2f5072696e7453747265616d07000a0100")
    ++ hex (codes "077072696e746c6e010004284929560c000c000d0a000b000e010001410700100100106a6176612f6c616e672f4f626a6563740700120100")
    ++ hex (codes "046d61696e010016285b4c6a6176612f6c616e672f537472696e673b2956010004436f646500210011001300000000000100090014001500")
    ++ hex (codes "01001600000023000200010000001712021203a6000bb2000904b6000fb1b2000903b6000fb1000000000000")

abbrev pub files : Program
files = class_a ∷ []

pub record SameString : Type 0 where
  pub layouts : AreLaidOut (class_a_bytes ∷ []) files
  -- if_acmpne does not jump
  pub same : Reports files usual (times 11 0) None ends.Quiet (codes "1\nthread 0 ended\nevents 11\nend quiet\n")
  -- which counts for no limit
  pub no_objects : Reports files (record usual { objects = 0 }) (times 11 0) None
      ends.Quiet (codes "1\nthread 0 ended\nevents 11\nend quiet\n")
