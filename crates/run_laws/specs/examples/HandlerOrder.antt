-- Three handlers for one division by zero (JVMS 2.10): the first in the table whose range and class fit takes it.
use Rattle.std.specs.Prelude.{ℕ, List, [], ◌∷◌, ◌++◌, None, codes}
use Rattle.model.specs.declared.end.End.TheVariants as ends
use Rattle.model.specs.Tree.{Entry, Utf8, Class, Field, Method, NameAndType, FileTree}
use Rattle.model.specs.Classes.{Program}
use Rattle.run_laws.specs.examples.Bytes.{hex}
use Rattle.run_laws.specs.examples.ClassFiles.{method, handler, class_with, AreLaidOut}
use Rattle.run_laws.specs.examples.Reports.{times, usual, Reports}

abbrev pub class_a_pool : List Entry
class_a_pool =
    Utf8 (codes "java/lang/System") ∷ Class 1 ∷ Utf8 (codes "out") ∷ Utf8 (codes "Ljava/io/PrintStream;") ∷ NameAndType 3 4 ∷ Field 2 5
    ∷ Utf8 (codes "java/io/PrintStream") ∷ Class 7 ∷ Utf8 (codes "println") ∷ Utf8 (codes "(I)V") ∷ NameAndType 9 10 ∷ Method 8 11
    ∷ Utf8 (codes "java/lang/RuntimeException") ∷ Class 13 ∷ Utf8 (codes "A") ∷ Class 15 ∷ Utf8 (codes "java/lang/Object") ∷ Class 17
    ∷ Utf8 (codes "main") ∷ Utf8 (codes "([Ljava/lang/String;)V") ∷ Utf8 (codes "Code") ∷ []

-- class A extends java/lang/Object
abbrev pub class_a : FileTree
class_a =
    class_with class_a_pool 16 18 []
    (
    -- static main([Ljava/lang/String;)V: 0 iconst_1, 1 iconst_0, 2 idiv, 3 pop, 4 return, 5 pop,
    -- 6 getstatic System.out, 9 iconst_1, 10 invokevirtual PrintStream.println, 13 return, 14 pop,
    -- 15 getstatic System.out, 18 iconst_2, 19 invokevirtual PrintStream.println, 22 return
    method 0x0009 19 20 21 2 1
    (hex (codes "04036c57b157b2000604b6000cb157b2000605b6000cb1"))
    (handler 0 2 14 0 ∷ handler 0 3 5 14 ∷ handler 0 3 14 0 ∷ [])
    ∷ []
    )

abbrev pub class_a_bytes : List ℕ
class_a_bytes =
    hex (codes "cafebabe0000003100160100106a6176612f6c616e672f53797374656d0700010100036f75740100154c6a6176612f696f2f5072696e7453")
    ++ hex (codes "747265616d3b0c0003000409000200050100136a6176612f696f2f5072696e7453747265616d0700070100077072696e746c6e0100042849")
    ++ hex (codes "29560c0009000a0a0008000b01001a6a6176612f6c616e672f52756e74696d65457863657074696f6e07000d0100014107000f0100106a61")
    ++ hex (codes "76612f6c616e672f4f626a6563740700110100046d61696e010016285b4c6a6176612f6c616e672f537472696e673b2956010004436f6465")
    ++ hex (codes "002100100012000000000001000900130014000100150000003b000200010000001704036c57b157b2000604b6000cb157b2000605b6000c")
    ++ hex (codes "b1000300000002000e0000000000030005000e00000003000e000000000000")

abbrev pub files : Program
files = class_a ∷ []

pub record HandlerOrder : Type 0 where
  pub layouts : AreLaidOut (class_a_bytes ∷ []) files
  -- the range of the first ends before the division
  pub second_takes_it : Reports files usual (times 13 0) None ends.Quiet (codes "1\nthread 0 ended\nevents 13\nend quiet\n")
