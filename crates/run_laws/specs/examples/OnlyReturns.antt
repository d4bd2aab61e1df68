-- A class A whose main returns at once.
use Rattle.std.specs.Prelude.{ℕ, List, [], ◌∷◌, ◌++◌, codes}
use Rattle.model.specs.Names.{java_lang_object}
use Rattle.model.specs.Tree.{Entry, Utf8, Class, FileTree}
use Rattle.run_laws.specs.examples.Bytes.{hex}
use Rattle.run_laws.specs.examples.Runs.{Prints, with_main}

abbrev pub only_returns_bytes : List ℕ
only_returns_bytes =
    hex (codes "cafebabe 0000 0031 0008 010001 41 070001 010010 6a6176612f6c616e672f4f626a656374 070003 010004 6d61696e")
    ++ hex (codes "010016 285b4c6a6176612f6c616e672f537472696e673b2956 010004 436f6465")
    ++ hex (codes "0021 0002 0004 0000 0000 0001 0009 0005 0006 0001 0007 0000000d 0000 0001 00000001 b1 0000 0000 0000")

abbrev pub pool : List Entry
pool = Utf8 (codes "A") ∷ Class 1 ∷ Utf8 java_lang_object ∷ Class 3 ∷ Utf8 (codes "main") ∷ Utf8 (codes "([Ljava/lang/String;)V") ∷ Utf8 (codes "Code") ∷ []

abbrev pub only_returns_file : FileTree
only_returns_file = with_main pool 2 4 5 6 7 0 1 (hex (codes "b1"))

abbrev pub OnlyReturns : Type 0
OnlyReturns = Prints only_returns_bytes only_returns_file 5 [] (codes "thread 0 ended\nevents 5\nend quiet\n")
