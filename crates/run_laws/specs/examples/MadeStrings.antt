-- Strings that a run makes (the API of String: concat and charAt).
use Rattle.std.specs.Prelude.{ℕ, List, [], ◌∷◌, ◌++◌, Some, None, codes}
use Rattle.model.specs.declared.end.End.TheVariants as ends
use Rattle.model.specs.declared.end.RunCause.TheVariants as causes
use Rattle.model.specs.Tree.{Entry, Utf8, Class, String, Field, Method, NameAndType, FileTree}
use Rattle.model.specs.Classes.{Program}
use Rattle.run_laws.specs.examples.Bytes.{hex}
use Rattle.run_laws.specs.examples.ClassFiles.{method, class_with, AreLaidOut}
use Rattle.run_laws.specs.examples.Reports.{times, picks, usual, Reports}

abbrev pub class_a_pool : List Entry
class_a_pool =
    Utf8 (codes "ab") ∷ String 1 ∷ Utf8 (codes "cd") ∷ String 3 ∷ Utf8 (codes "java/lang/String") ∷ Class 5
    ∷ Utf8 (codes "concat") ∷ Utf8 (codes "(Ljava/lang/String;)Ljava/lang/String;") ∷ NameAndType 7 8 ∷ Method 6 9
    ∷ Utf8 (codes "charAt") ∷ Utf8 (codes "(I)C") ∷ NameAndType 11 12 ∷ Method 6 13 ∷ Utf8 (codes "java/lang/System")
    ∷ Class 15 ∷ Utf8 (codes "out") ∷ Utf8 (codes "Ljava/io/PrintStream;") ∷ NameAndType 17 18 ∷ Field 16 19
    ∷ Utf8 (codes "java/io/PrintStream") ∷ Class 21 ∷ Utf8 (codes "println") ∷ Utf8 (codes "(Ljava/lang/String;)V")
    ∷ NameAndType 23 24 ∷ Method 22 25 ∷ Utf8 (codes "(C)V") ∷ NameAndType 23 27 ∷ Method 22 28 ∷ Utf8 (codes "A")
    ∷ Class 30 ∷ Utf8 (codes "java/lang/Object") ∷ Class 32 ∷ Utf8 (codes "main")
    ∷ Utf8 (codes "([Ljava/lang/String;)V") ∷ Utf8 (codes "Code") ∷ []

-- class A extends java/lang/Object
abbrev pub class_a : FileTree
class_a =
    class_with class_a_pool 31 33 []
    (
    -- static main([Ljava/lang/String;)V: 0 ldc "ab", 2 ldc "cd", 4 invokevirtual String.concat, 7 astore_1,
    -- 8 getstatic System.out, 11 aload_1, 12 invokevirtual PrintStream.println, 15 getstatic System.out, 18 aload_1,
    -- 19 iconst_2, 20 invokevirtual String.charAt, 23 invokevirtual PrintStream.println, 26 aload_1, 27 iconst_4,
    -- 28 invokevirtual String.charAt, 31 pop, 32 return
    method 0x0009 34 35 36 3 2
    (hex (codes "12021204b6000a4cb200142bb6001ab200142b05b6000eb6001d2b07b6000e57b1"))
    []
    ∷ []
    )

abbrev pub class_a_bytes : List ℕ
class_a_bytes =
    hex (codes "cafebabe000000310025010002616208000101000263640800030100106a6176612f6c616e672f537472696e67070005010006636f6e6361")
    ++ hex (codes "74010026284c6a6176612f6c616e672f537472696e673b294c6a6176612f6c616e672f537472696e673b0c000700080a0006000901000663")
    ++ hex (codes "6861724174010004284929430c000b000c0a0006000d0100106a6176612f6c616e672f53797374656d07000f0100036f75740100154c6a61")
    ++ hex (codes "76612f696f2f5072696e7453747265616d3b0c0011001209001000130100136a6176612f696f2f5072696e7453747265616d070015010007")
    ++ hex (codes "7072696e746c6e010015284c6a6176612f6c616e672f537472696e673b29560c001700180a00160019010004284329560c0017001b0a0016")
    ++ hex (codes "001c0100014107001e0100106a6176612f6c616e672f4f626a6563740700200100046d61696e010016285b4c6a6176612f6c616e672f5374")
    ++ hex (codes "72696e673b2956010004436f64650021001f0021000000000001000900220023000100240000002d000300020000002112021204b6000a4c")
    ++ hex (codes "b200142bb6001ab200142b05b6000eb6001d2b07b6000e57b1000000000000")

abbrev pub files : Program
files = class_a ∷ []

pub record MadeStrings : Type 0 where
  pub layouts : AreLaidOut (class_a_bytes ∷ []) files
  -- "ab".concat("cd") has no char at 4
  pub answered : Reports files usual (times 20 0) None ends.Quiet
      (codes "abcd\nc\nthread 0 threw java/lang/StringIndexOutOfBoundsException\nevents 20\nend quiet\n")
  -- a String that is made is one object, of as many cells as it has units
  pub no_object : Reports files (record usual { objects = 0 }) (times 6 0) (Some (picks 0 0))
      (ends.Refused 6 causes.Objects)
      (codes "thread 0 runnable\nevents 6\nend refused 6 objects\n")
  pub three_cells : Reports files (record usual { cells = 3 }) (times 6 0) (Some (picks 0 0)) (ends.Refused 6 causes.Cells)
      (codes "thread 0 runnable\nevents 6\nend refused 6 cells\n")
  pub in_room : Reports files (record usual { objects = 1; cells = 4 }) (times 18 0) (Some (picks 0 0))
      (ends.Refused 18 causes.Objects)
      (codes "abcd\nc\nthread 0 runnable\nevents 18\nend refused 18 objects\n")
