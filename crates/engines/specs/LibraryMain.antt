-- The class that stands before the files of a library (own): it has a static main, which returns, so that a library can be
-- linked and verified as a program is.
use Rattle.std.specs.Prelude.{ℕ, List, [], ◌∷◌, ◌++◌, codes, length}

-- a Utf8 of the constant pool (JVMS 4.4.7), shorter than 256 bytes
abbrev text_entry : List ℕ → List ℕ
text_entry text = 1 ∷ 0 ∷ length text ∷ text

-- a Class (4.4.1)
abbrev class_entry : ℕ → List ℕ
class_entry index = 7 ∷ 0 ∷ index ∷ []

-- the constant pool (4.4), its count before it
abbrev pool : List ℕ
pool = 0 ∷ 8 ∷ (text_entry (codes "main of a library") ++ (class_entry 1 ++ (text_entry (codes "java/lang/Object") ++ (class_entry 3
    ++ (text_entry (codes "main") ++ (text_entry (codes "([Ljava/lang/String;)V") ++ text_entry (codes "Code")))))))

-- a Code (4.7.3) of one instruction, `return`, with one local variable
abbrev code : List ℕ
code = 0 ∷ 7 ∷ 0 ∷ 0 ∷ 0 ∷ 13 ∷ 0 ∷ 0 ∷ 0 ∷ 1 ∷ 0 ∷ 0 ∷ 0 ∷ 1 ∷ 0xb1 ∷ 0 ∷ 0 ∷ 0 ∷ 0 ∷ []

-- a public static method of that code (4.6)
abbrev main_method : List ℕ
main_method = 0 ∷ 9 ∷ 0 ∷ 5 ∷ 0 ∷ 6 ∷ 0 ∷ 1 ∷ code

-- the class file (4.1): no interface, no field, one method, no attribute
abbrev pub library_main : List ℕ
library_main =
    0xca ∷ 0xfe ∷ 0xba ∷ 0xbe ∷ 0 ∷ 0 ∷ 0 ∷ 0x31
    ∷ (pool ++ (0 ∷ 0x20 ∷ 0 ∷ 2 ∷ 0 ∷ 4 ∷ 0 ∷ 0 ∷ 0 ∷ 0 ∷ 0 ∷ 1 ∷ (main_method ++ (0 ∷ 0 ∷ []))))
