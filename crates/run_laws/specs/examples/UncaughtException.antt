-- A division by zero that nobody catches.
use Rattle.std.specs.Prelude.{ℕ, List, [], ◌∷◌, ◌++◌, None, codes}
use Rattle.model.specs.declared.end.End.TheVariants as ends
use Rattle.model.specs.Tree.{Entry, Utf8, Class, Field, Method, NameAndType, FileTree}
use Rattle.model.specs.Classes.{Program}
use Rattle.run_laws.specs.examples.Bytes.{hex}
use Rattle.run_laws.specs.examples.ClassFiles.{method, class_with, AreLaidOut}
use Rattle.run_laws.specs.examples.Reports.{times, usual, Reports}

abbrev pub class_a_pool : List Entry
class_a_pool =
    Utf8 (codes "A") ∷ Class 1 ∷ Utf8 (codes "java/lang/Object") ∷ Class 3 ∷ Utf8 (codes "main") ∷ Utf8 (codes "([Ljava/lang/String;)V")
    ∷ Utf8 (codes "Code") ∷ Utf8 (codes "java/lang/System") ∷ Class 8 ∷ Utf8 (codes "out") ∷ Utf8 (codes "Ljava/io/PrintStream;")
    ∷ NameAndType 10 11 ∷ Field 9 12 ∷ Utf8 (codes "java/io/PrintStream") ∷ Class 14 ∷ Utf8 (codes "println") ∷ Utf8 (codes "(I)V")
    ∷ NameAndType 16 17 ∷ Method 15 18 ∷ []

-- class A extends java/lang/Object
abbrev pub class_a : FileTree
class_a =
    record (class_with class_a_pool 2 4 []
    (
    -- static main([Ljava/lang/String;)V: 0 iconst_1, 1 iconst_0, 2 idiv, 3 pop, 4 return
    method 0x0009 5 6 7 2 1
    (hex (codes "04036c57b1"))
    []
    ∷ []
    )) { flags = 0x0020 }

abbrev pub class_a_bytes : List ℕ
class_a_bytes =
    hex (codes "cafebabe000000310014010001410700010100106a6176612f6c616e672f4f626a6563740700030100046d61696e010016285b4c6a617661")
    ++ hex (codes "2f6c616e672f537472696e673b2956010004436f64650100106a6176612f6c616e672f53797374656d0700080100036f75740100154c6a61")
    ++ hex (codes "76612f696f2f5072696e7453747265616d3b0c000a000b090009000c0100136a6176612f696f2f5072696e7453747265616d07000e010007")
    ++ hex (codes "7072696e746c6e010004284929560c001000110a000f00120020000200040000000000010009000500060001000700000011000200010000")
    ++ hex (codes "000504036c57b1000000000000")

abbrev pub files : Program
files = class_a ∷ []

pub record UncaughtException : Type 0 where
  pub layouts : AreLaidOut (class_a_bytes ∷ []) files
  -- the thread ends with it
  pub thrown : Reports files usual (times 8 0) None ends.Quiet (codes "thread 0 threw java/lang/ArithmeticException\nevents 8\nend quiet\n")
