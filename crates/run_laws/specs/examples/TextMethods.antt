-- A program in Java that calls methods of String which are built in and have code: each goes on by events of its own,
-- and calls methods without code. Java 17 prints the same two lines.
--     class A {
--         public static void main(String[] args) {
--             System.out.println("ab".indexOf("b"));
--             System.out.println(" ab".trim());
--         }
--     }
use Rattle.std.specs.Prelude.{ℕ, List, [], ◌∷◌, ◌++◌, None, codes}
use Rattle.model.specs.declared.end.End.TheVariants as ends
use Rattle.model.specs.Tree.{Entry, Utf8, Class, String, Field, Method, NameAndType, FileTree}
use Rattle.model.specs.Classes.{Program}
use Rattle.run_laws.specs.examples.Bytes.{hex}
use Rattle.run_laws.specs.examples.ClassFiles.{method, file_with, AreLaidOut}
use Rattle.run_laws.specs.examples.Reports.{times, usual, Reports}

-- as javac 17 wrote it (with `--release 8 -g:none`, and the version then set to 49.0)
abbrev pub class_a_pool : List Entry
class_a_pool =
    Method 2 3 ∷ Class 4 ∷ NameAndType 5 6 ∷ Utf8 (codes "java/lang/Object") ∷ Utf8 (codes "<init>")
    ∷ Utf8 (codes "()V") ∷ Field 8 9 ∷ Class 10 ∷ NameAndType 11 12 ∷ Utf8 (codes "java/lang/System")
    ∷ Utf8 (codes "out") ∷ Utf8 (codes "Ljava/io/PrintStream;") ∷ String 14 ∷ Utf8 (codes "ab") ∷ String 16
    ∷ Utf8 (codes "b") ∷ Method 18 19 ∷ Class 20 ∷ NameAndType 21 22 ∷ Utf8 (codes "java/lang/String")
    ∷ Utf8 (codes "indexOf") ∷ Utf8 (codes "(Ljava/lang/String;)I") ∷ Method 24 25 ∷ Class 26 ∷ NameAndType 27 28
    ∷ Utf8 (codes "java/io/PrintStream") ∷ Utf8 (codes "println") ∷ Utf8 (codes "(I)V") ∷ String 30
    ∷ Utf8 (codes " ab") ∷ Method 18 32 ∷ NameAndType 33 34 ∷ Utf8 (codes "trim")
    ∷ Utf8 (codes "()Ljava/lang/String;") ∷ Method 24 36 ∷ NameAndType 27 37 ∷ Utf8 (codes "(Ljava/lang/String;)V")
    ∷ Class 39 ∷ Utf8 (codes "A") ∷ Utf8 (codes "Code") ∷ Utf8 (codes "main")
    ∷ Utf8 (codes "([Ljava/lang/String;)V") ∷ []

abbrev pub class_a : FileTree
class_a =
    file_with 0x0020 class_a_pool 38 2 [] []
    (
    -- <init>()V: 0 aload_0, 1 invokespecial Object.<init>, 4 return
    method 0x0000 5 6 40 1 1
    (hex (codes "2ab70001b1"))
    []
    -- static main([Ljava/lang/String;)V: 0 getstatic System.out, 3 ldc "ab", 5 ldc "b", 7 invokevirtual String.indexOf,
    -- 10 invokevirtual PrintStream.println, 13 getstatic System.out, 16 ldc " ab", 18 invokevirtual String.trim,
    -- 21 invokevirtual PrintStream.println, 24 return
    ∷ method 0x0009 41 42 40 3 1
    (hex (codes "b20007120d120fb60011b60017b20007121db6001fb60023b1"))
    []
    ∷ []
    )

abbrev pub class_a_bytes : List ℕ
class_a_bytes =
    hex (codes "cafebabe00000031002b0a000200030700040c000500060100106a6176612f6c616e672f4f626a6563740100063c696e")
    ++ (hex (codes "69743e010003282956090008000907000a0c000b000c0100106a6176612f6c616e672f53797374656d0100036f757401")
    ++ (hex (codes "00154c6a6176612f696f2f5072696e7453747265616d3b08000e0100026162080010010001620a001200130700140c00")
    ++ (hex (codes "1500160100106a6176612f6c616e672f537472696e67010007696e6465784f66010015284c6a6176612f6c616e672f53")
    ++ (hex (codes "7472696e673b29490a0018001907001a0c001b001c0100136a6176612f696f2f5072696e7453747265616d0100077072")
    ++ (hex (codes "696e746c6e0100042849295608001e0100032061620a001200200c002100220100047472696d01001428294c6a617661")
    ++ (hex (codes "2f6c616e672f537472696e673b0a001800240c001b0025010015284c6a6176612f6c616e672f537472696e673b295607")
    ++ (hex (codes "002701000141010004436f64650100046d61696e010016285b4c6a6176612f6c616e672f537472696e673b2956002000")
    ++ (hex (codes "260002000000000002000000050006000100280000001100010001000000052ab70001b10000000000090029002a0001")
    ++ hex (codes "0028000000250003000100000019b20007120d120fb60011b60017b20007121db6001fb60023b1000000000000")))))))))

abbrev pub files : Program
files = class_a ∷ []

pub record TextMethods : Type 0 where
  pub layouts : AreLaidOut (class_a_bytes ∷ []) files
  -- 4 events before main, 10 of main, 5 and 36 of the two methods indexOf, and 38 of trim
  pub printed : Reports files usual (times 93 0) None ends.Quiet
      (codes "1\nab\nthread 0 ended\nevents 93\nend quiet\n")
