-- Classes A with a main that can print: their constant pool.
use Rattle.std.specs.Prelude.{ℕ, List, [], ◌∷◌, ◌++◌, codes}
use Rattle.model.specs.Names.{java_lang_object, java_lang_system, java_io_print_stream}
use Rattle.model.specs.Tree.{Entry, Utf8, Class, NameAndType, Field, Method, FileTree}
use Rattle.run_laws.specs.examples.Bytes.{hex}
use Rattle.run_laws.specs.examples.Runs.{with_main}

-- up to the constant pool's end
abbrev pub head_bytes : List ℕ
head_bytes =
    hex (codes "cafebabe 0000 0031 0014 010010 6a6176612f6c616e672f53797374656d 070001 010003 6f7574")
    ++ hex (codes "010015 4c6a6176612f696f2f5072696e7453747265616d3b 0c00030004 0900020005")
    ++ hex (codes "010013 6a6176612f696f2f5072696e7453747265616d 070007 010007 7072696e746c6e 010004 28492956 0c0009000a 0a0008000b")
    ++ hex (codes "010001 41 07000d 010010 6a6176612f6c616e672f4f626a656374 07000f 010004 6d61696e")
    ++ hex (codes "010016 285b4c6a6176612f6c616e672f537472696e673b2956 010004 436f6465")

abbrev pub pool : List Entry
pool =
    Utf8 java_lang_system ∷ Class 1 ∷ Utf8 (codes "out") ∷ Utf8 (codes "Ljava/io/PrintStream;") ∷ NameAndType 3 4 ∷ Field 2 5
    ∷ Utf8 java_io_print_stream ∷ Class 7 ∷ Utf8 (codes "println") ∷ Utf8 (codes "(I)V") ∷ NameAndType 9 10 ∷ Method 8 11
    ∷ Utf8 (codes "A") ∷ Class 13 ∷ Utf8 java_lang_object ∷ Class 15 ∷ Utf8 (codes "main")
    ∷ Utf8 (codes "([Ljava/lang/String;)V") ∷ Utf8 (codes "Code") ∷ []

-- the bytes with a code, where the attribute's length, max_stack, max_locals and the code's length stand before it
abbrev pub bytes_with : List ℕ → List ℕ → List ℕ
bytes_with sizes code = head_bytes ++ (hex (codes "0021 000e 0010 0000 0000 0001 0009 0011 0012 0001 0013") ++ (sizes ++ (code ++ hex (codes "0000 0000 0000"))))

-- the class with a code, which may use so many places of the stack and local variables
abbrev pub file_with : ℕ → ℕ → List ℕ → FileTree
file_with max_stack max_locals code = with_main pool 14 16 17 18 19 max_stack max_locals code
