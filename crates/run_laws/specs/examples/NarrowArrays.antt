-- Arrays of byte, boolean, char and short keep a part of what is stored.
use Rattle.std.specs.Prelude.{ℕ, List, [], ◌∷◌, ◌++◌, Some, None, codes}
use Rattle.model.specs.declared.end.End.TheVariants as ends
use Rattle.model.specs.declared.end.RunCause.TheVariants as causes
use Rattle.model.specs.Tree.{Entry, Utf8, Integer, Class, Field, Method, NameAndType, FileTree}
use Rattle.model.specs.Classes.{Program}
use Rattle.run_laws.specs.examples.Bytes.{hex}
use Rattle.run_laws.specs.examples.ClassFiles.{method, class_with, AreLaidOut}
use Rattle.run_laws.specs.examples.Reports.{times, picks, usual, Reports}

abbrev pub class_a_pool : List Entry
class_a_pool =
    Utf8 (codes "java/lang/System") ∷ Class 1 ∷ Utf8 (codes "out") ∷ Utf8 (codes "Ljava/io/PrintStream;") ∷ NameAndType 3 4 ∷ Field 2 5
    ∷ Utf8 (codes "java/io/PrintStream") ∷ Class 7 ∷ Utf8 (codes "println") ∷ Utf8 (codes "(I)V") ∷ NameAndType 9 10 ∷ Method 8 11
    ∷ Integer 32768 ∷ Utf8 (codes "A") ∷ Class 14 ∷ Utf8 (codes "java/lang/Object") ∷ Class 16 ∷ Utf8 (codes "main")
    ∷ Utf8 (codes "([Ljava/lang/String;)V") ∷ Utf8 (codes "Code") ∷ []

-- class A extends java/lang/Object
abbrev pub class_a : FileTree
class_a =
    class_with class_a_pool 15 17 []
    (
    -- static main([Ljava/lang/String;)V: 0 iconst_1, 1 newarray byte, 3 astore_1, 4 aload_1, 5 iconst_0,
    -- 6 sipush 200, 9 bastore, 10 getstatic System.out, 13 aload_1, 14 iconst_0, 15 baload,
    -- 16 invokevirtual PrintStream.println, 19 iconst_1, 20 newarray boolean, 22 astore_1, 23 aload_1,
    -- 24 iconst_0, 25 sipush 201, 28 bastore, 29 getstatic System.out, 32 aload_1, 33 iconst_0, 34 baload,
    -- 35 invokevirtual PrintStream.println, 38 iconst_1, 39 newarray char, 41 astore_1, 42 aload_1, 43 iconst_0,
    -- 44 iconst_m1, 45 castore, 46 getstatic System.out, 49 aload_1, 50 iconst_0, 51 caload,
    -- 52 invokevirtual PrintStream.println, 55 iconst_1, 56 newarray short, 58 astore_1, 59 aload_1, 60 iconst_0,
    -- 61 ldc 32768, 63 sastore, 64 getstatic System.out, 67 aload_1, 68 iconst_0, 69 saload,
    -- 70 invokevirtual PrintStream.println, 73 return
    method 0x0009 18 19 20 3 2
    (hex (codes "04bc084c2b031100c854b200062b0333b6000c04bc044c2b031100c954b200062b0333b6000c04bc054c2b030255b200062b0334b6000c04")
    ++ hex (codes "bc094c2b03120d56b200062b0335b6000cb1"))
    []
    ∷ []
    )

abbrev pub class_a_bytes : List ℕ
class_a_bytes =
    hex (codes "cafebabe0000003100150100106a6176612f6c616e672f53797374656d0700010100036f75740100154c6a6176612f696f2f5072696e7453")
    ++ hex (codes "747265616d3b0c0003000409000200050100136a6176612f696f2f5072696e7453747265616d0700070100077072696e746c6e0100042849")
    ++ hex (codes "29560c0009000a0a0008000b03000080000100014107000e0100106a6176612f6c616e672f4f626a6563740700100100046d61696e010016")
    ++ hex (codes "285b4c6a6176612f6c616e672f537472696e673b2956010004436f64650021000f0011000000000001000900120013000100140000005600")
    ++ hex (codes "0300020000004a04bc084c2b031100c854b200062b0333b6000c04bc044c2b031100c954b200062b0333b6000c04bc054c2b030255b20006")
    ++ hex (codes "2b0334b6000c04bc094c2b03120d56b200062b0335b6000cb1000000000000")

abbrev pub files : Program
files = class_a ∷ []

pub record NarrowArrays : Type 0 where
  pub layouts : AreLaidOut (class_a_bytes ∷ []) files
  -- 200, 201, -1 and 32768
  pub narrowed : Reports files usual (times 53 0) None ends.Quiet (codes "-56\n1\n65535\n-32768\nthread 0 ended\nevents 53\nend quiet\n")
  -- with three cells allowed
  pub three_cells : Reports files (record usual { cells = 3 }) (times 41 0) (Some (picks 0 0)) (ends.Refused 41 causes.Cells)
      (codes "-56\n1\n65535\nthread 0 runnable\nevents 41\nend refused 41 cells\n")
