-- A program in Java that builds texts, and prints one of them to System.err. Java 17 prints the same, `at -7!` to its
-- error output. A call of append with a StringBuilder is one of append(CharSequence), which has code.
--     class A {
--         public static void main(String[] args) {
--             StringBuilder text = new StringBuilder("at ").append(-7).append('!');
--             System.err.println(text.toString());
--             System.out.println(new StringBuilder().append(text).append((String) null).toString());
--         }
--     }
use Rattle.std.specs.Prelude.{ℕ, List, [], ◌∷◌, ◌++◌, Some, None, codes}
use Rattle.model.specs.declared.end.End.TheVariants as ends
use Rattle.model.specs.declared.end.RunCause.TheVariants as causes
use Rattle.model.specs.Tree.{Entry, Utf8, Class, String, Field, Method, NameAndType, FileTree}
use Rattle.model.specs.Classes.{Program}
use Rattle.run_laws.specs.examples.Bytes.{hex}
use Rattle.run_laws.specs.examples.ClassFiles.{method, file_with, AreLaidOut}
use Rattle.run_laws.specs.examples.Reports.{times, picks, usual, Reports}

-- as javac 17 wrote it (with `--release 8 -g:none`, and the version then set to 49.0)
abbrev pub class_a_pool : List Entry
class_a_pool =
    Method 2 3 ∷ Class 4 ∷ NameAndType 5 6 ∷ Utf8 (codes "java/lang/Object") ∷ Utf8 (codes "<init>")
    ∷ Utf8 (codes "()V") ∷ Class 8 ∷ Utf8 (codes "java/lang/StringBuilder") ∷ String 10 ∷ Utf8 (codes "at ")
    ∷ Method 7 12 ∷ NameAndType 5 13 ∷ Utf8 (codes "(Ljava/lang/String;)V") ∷ Method 7 15 ∷ NameAndType 16 17
    ∷ Utf8 (codes "append") ∷ Utf8 (codes "(I)Ljava/lang/StringBuilder;") ∷ Method 7 19 ∷ NameAndType 16 20
    ∷ Utf8 (codes "(C)Ljava/lang/StringBuilder;") ∷ Field 22 23 ∷ Class 24 ∷ NameAndType 25 26
    ∷ Utf8 (codes "java/lang/System") ∷ Utf8 (codes "err") ∷ Utf8 (codes "Ljava/io/PrintStream;") ∷ Method 7 28
    ∷ NameAndType 29 30 ∷ Utf8 (codes "toString") ∷ Utf8 (codes "()Ljava/lang/String;") ∷ Method 32 33
    ∷ Class 34 ∷ NameAndType 35 13 ∷ Utf8 (codes "java/io/PrintStream") ∷ Utf8 (codes "println") ∷ Field 22 37
    ∷ NameAndType 38 26 ∷ Utf8 (codes "out") ∷ Method 7 3 ∷ Method 7 41 ∷ NameAndType 16 42
    ∷ Utf8 (codes "(Ljava/lang/CharSequence;)Ljava/lang/StringBuilder;") ∷ Class 44
    ∷ Utf8 (codes "java/lang/String") ∷ Method 7 46 ∷ NameAndType 16 47
    ∷ Utf8 (codes "(Ljava/lang/String;)Ljava/lang/StringBuilder;") ∷ Class 49 ∷ Utf8 (codes "A")
    ∷ Utf8 (codes "Code") ∷ Utf8 (codes "main") ∷ Utf8 (codes "([Ljava/lang/String;)V") ∷ []

abbrev pub class_a : FileTree
class_a =
    file_with 0x0020 class_a_pool 48 2 [] []
    (
    -- <init>()V: 0 aload_0, 1 invokespecial Object.<init>, 4 return
    method 0x0000 5 6 50 1 1
    (hex (codes "2ab70001b1"))
    []
    -- static main([Ljava/lang/String;)V: 0 new StringBuilder, 3 dup, 4 ldc "at ", 6 invokespecial StringBuilder.<init>,
    -- 9 bipush -7, 11 invokevirtual append(I), 14 bipush 33, 16 invokevirtual append(C), 19 astore_1,
    -- 20 getstatic System.err, 23 aload_1, 24 invokevirtual toString, 27 invokevirtual println, 30 getstatic System.out,
    -- 33 new StringBuilder, 36 dup, 37 invokespecial StringBuilder.<init>, 40 aload_1,
    -- 41 invokevirtual append(CharSequence), 44 aconst_null, 45 checkcast String, 48 invokevirtual append(String),
    -- 51 invokevirtual toString, 54 invokevirtual println, 57 return
    ∷ method 0x0009 51 52 50 3 2
    (hex (codes "bb0007591209b7000b10f9b6000e1021b600124cb200152bb6001bb6001fb20024bb000759b700272bb6002801c0002bb6002db6001bb6001fb1"))
    []
    ∷ []
    )

abbrev pub class_a_bytes : List ℕ
class_a_bytes =
    hex (codes "cafebabe0000003100350a000200030700040c000500060100106a6176612f6c616e672f4f626a6563740100063c696e")
    ++ (hex (codes "69743e0100032829560700080100176a6176612f6c616e672f537472696e674275696c64657208000a0100036174200a")
    ++ (hex (codes "0007000c0c0005000d010015284c6a6176612f6c616e672f537472696e673b29560a0007000f0c001000110100066170")
    ++ (hex (codes "70656e6401001c2849294c6a6176612f6c616e672f537472696e674275696c6465723b0a000700130c0010001401001c")
    ++ (hex (codes "2843294c6a6176612f6c616e672f537472696e674275696c6465723b09001600170700180c0019001a0100106a617661")
    ++ (hex (codes "2f6c616e672f53797374656d0100036572720100154c6a6176612f696f2f5072696e7453747265616d3b0a0007001c0c")
    ++ (hex (codes "001d001e010008746f537472696e6701001428294c6a6176612f6c616e672f537472696e673b0a002000210700220c00")
    ++ (hex (codes "23000d0100136a6176612f696f2f5072696e7453747265616d0100077072696e746c6e09001600250c0026001a010003")
    ++ (hex (codes "6f75740a000700030a000700290c0010002a010033284c6a6176612f6c616e672f4368617253657175656e63653b294c")
    ++ (hex (codes "6a6176612f6c616e672f537472696e674275696c6465723b07002c0100106a6176612f6c616e672f537472696e670a00")
    ++ (hex (codes "07002e0c0010002f01002d284c6a6176612f6c616e672f537472696e673b294c6a6176612f6c616e672f537472696e67")
    ++ (hex (codes "4275696c6465723b07003101000141010004436f64650100046d61696e010016285b4c6a6176612f6c616e672f537472")
    ++ (hex (codes "696e673b2956002000300002000000000002000000050006000100320000001100010001000000052ab70001b1000000")
    ++ (hex (codes "000009003300340001003200000046000300020000003abb0007591209b7000b10f9b6000e1021b600124cb200152bb6")
    ++ hex (codes "001bb6001fb20024bb000759b700272bb6002801c0002bb6002db6001bb6001fb1000000000000"))))))))))))))

abbrev pub files : Program
files = class_a ∷ []

pub record BuiltTexts : Type 0 where
  pub layouts : AreLaidOut (class_a_bytes ∷ []) files
  -- 4 events before main, 25 of main, and 7 of append(CharSequence)
  pub printed : Reports files usual (times 36 0) None ends.Quiet
      (codes "at -7!\nat -7!null\nthread 0 ended\nevents 36\nend quiet\n")
  -- a StringBuilder is an object of no cells, and each append makes a String of the whole text
  pub no_cells : Reports files (record usual { cells = 0 }) (times 9 0) (Some (picks 0 0)) (ends.Refused 9 causes.Cells)
      (codes "thread 0 runnable\nevents 9\nend refused 9 cells\n")
  pub one_object : Reports files (record usual { objects = 1 }) (times 9 0) (Some (picks 0 0)) (ends.Refused 9 causes.Objects)
      (codes "thread 0 runnable\nevents 9\nend refused 9 objects\n")
  -- 5, 6, 6 and 10 units
  pub almost : Reports files (record usual { objects = 6; cells = 26 }) (times 32 0) (Some (picks 0 0))
      (ends.Refused 32 causes.Cells)
      (codes "at -7!\nthread 0 runnable\nevents 32\nend refused 32 cells\n")
  pub in_room : Reports files (record usual { objects = 6; cells = 27 }) (times 36 0) None ends.Quiet
      (codes "at -7!\nat -7!null\nthread 0 ended\nevents 36\nend quiet\n")
