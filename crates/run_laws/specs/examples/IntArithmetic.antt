-- A class A whose main prints what is computed from two ints at the edges, and one whose main goes through switches. Its
-- constant pool has the least and the greatest int.
use Rattle.std.specs.Prelude.{ℕ, pos, negsuc, List, [], ◌∷◌, ◌++◌, codes}
use Rattle.model.specs.Names.{java_lang_object, java_lang_system, java_io_print_stream}
use Rattle.model.specs.Tree.{Entry, Utf8, Integer, Class, NameAndType, Field, Method, FileTree}
use Rattle.run_laws.specs.examples.Bytes.{hex}
use Rattle.run_laws.specs.examples.Runs.{Prints, with_main}

-- up to the constant pool's end
abbrev pub head_bytes : List ℕ
head_bytes =
    hex (codes "cafebabe 0000 0031 0016 010010 6a6176612f6c616e672f53797374656d 070001 010003 6f7574")
    ++ hex (codes "010015 4c6a6176612f696f2f5072696e7453747265616d3b 0c00030004 0900020005 0380000000")
    ++ hex (codes "010013 6a6176612f696f2f5072696e7453747265616d 070008 010007 7072696e746c6e 010004 28492956 0c000a000b 0a0009000c")
    ++ hex (codes "037fffffff 010001 41 07000f 010010 6a6176612f6c616e672f4f626a656374 070011 010004 6d61696e")
    ++ hex (codes "010016 285b4c6a6176612f6c616e672f537472696e673b2956 010004 436f6465")

abbrev pub pool : List Entry
pool =
    Utf8 java_lang_system ∷ Class 1 ∷ Utf8 (codes "out") ∷ Utf8 (codes "Ljava/io/PrintStream;") ∷ NameAndType 3 4 ∷ Field 2 5
    ∷ Integer 0x80000000 ∷ Utf8 java_io_print_stream ∷ Class 8 ∷ Utf8 (codes "println") ∷ Utf8 (codes "(I)V") ∷ NameAndType 10 11 ∷ Method 9 12
    ∷ Integer 0x7fffffff ∷ Utf8 (codes "A") ∷ Class 15 ∷ Utf8 java_lang_object ∷ Class 17 ∷ Utf8 (codes "main")
    ∷ Utf8 (codes "([Ljava/lang/String;)V") ∷ Utf8 (codes "Code") ∷ []

-- Each of five times: getstatic System.out, two ints, an instruction, invokevirtual println. The instructions are
-- -2147483648 idiv -1, -2147483648 irem -1, 1 ishl 33, -1 iushr 60 and 2147483647 iadd 1.
abbrev pub int_arithmetic_code : List ℕ
int_arithmetic_code =
    hex (codes "b20006 1207 02 6c b6000d")
    ++ hex (codes "b20006 1207 02 70 b6000d")
    ++ hex (codes "b20006 04 1021 78 b6000d")
    ++ hex (codes "b20006 02 103c 7c b6000d")
    ++ hex (codes "b20006 120e 04 60 b6000d")
    ++ hex (codes "b1")

-- the bytes with a code, where the attribute's length, max_stack, max_locals and the code's length stand before it
abbrev pub bytes_with : List ℕ → List ℕ → List ℕ
bytes_with sizes code = head_bytes ++ (hex (codes "0021 0010 0012 0000 0000 0001 0009 0013 0014 0001 0015") ++ (sizes ++ (code ++ hex (codes "0000 0000 0000"))))

-- the class with a code, which may use so many places of the stack and local variables
abbrev pub file_with : ℕ → ℕ → List ℕ → FileTree
file_with max_stack max_locals code = with_main pool 16 18 19 20 21 max_stack max_locals code

abbrev pub IntArithmetic : Type 0
IntArithmetic =
    Prints (bytes_with (hex (codes "0000003f 0003 0001 00000033")) int_arithmetic_code) (file_with 3 1 int_arithmetic_code) 30 (negsuc 2147483647 ∷ pos 0 ∷ pos 2 ∷ pos 15 ∷ negsuc 2147483647 ∷ []) (codes "-2147483648\n0\n2\n15\n-2147483648\nthread 0 ended\nevents 30\nend quiet\n")
