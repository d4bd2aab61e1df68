-- A program in Java that asks an exception for its class and its cause, and objects for their numbers. Java 17 prints the same.
--     class A {
--         public static void main(String[] args) {
--             Throwable made = new IllegalStateException("at 0", new RuntimeException("b"));
--             System.out.println(made.getClass().getName());
--             System.out.println(made.getCause().getMessage());
--             System.out.println(System.identityHashCode(null));
--             System.out.println(made.hashCode() - System.identityHashCode(made));
--             System.out.println(1 / args.length);
--         }
--     }
use Rattle.std.specs.Prelude.{◌≡◌, ℕ, List, [], ◌∷◌, ◌++◌, Some, None, slice_get, codes}
use Rattle.model.specs.declared.end.End.TheVariants as ends
use Rattle.model.specs.declared.end.RunCause.TheVariants as causes
use Rattle.model.specs.declared.value.Value.{Value}
use Rattle.model.specs.declared.value.Value.TheVariants as value
use Rattle.model.specs.Names.{Name, throwable_message, throwable_cause, throwable_suppressed}
use Rattle.model.specs.Tree.{Entry, Utf8, Class, String, Field, Method, NameAndType, FileTree}
use Rattle.model.specs.Classes.{Program}
use Rattle.model.specs.Operands.{values}
use Rattle.model.specs.State.{ObjectOf, Instance, Characters}
use Rattle.model.specs.Opening.{opening_heap}
use Rattle.model.specs.Outcomes.{exception_class, Arithmetic, NullPointer, ExceptionInInitializer}
use Rattle.model.specs.MachineExceptions.{machine_exception}
use Rattle.model.specs.Worlds.{cells_of}
use Rattle.run_laws.specs.examples.Bytes.{hex}
use Rattle.run_laws.specs.examples.ClassFiles.{method, file_with, AreLaidOut}
use Rattle.run_laws.specs.examples.Reports.{times, picks, usual, Reports}

-- as javac 17 wrote it (with `--release 8 -g:none`, and the version then set to 49.0)
abbrev pub class_a_pool : List Entry
class_a_pool =
    Method 2 3 ∷ Class 4 ∷ NameAndType 5 6 ∷ Utf8 (codes "java/lang/Object") ∷ Utf8 (codes "<init>")
    ∷ Utf8 (codes "()V") ∷ Class 8 ∷ Utf8 (codes "java/lang/IllegalStateException") ∷ String 10
    ∷ Utf8 (codes "at 0") ∷ Class 12 ∷ Utf8 (codes "java/lang/RuntimeException") ∷ String 14 ∷ Utf8 (codes "b")
    ∷ Method 11 16 ∷ NameAndType 5 17 ∷ Utf8 (codes "(Ljava/lang/String;)V") ∷ Method 7 19 ∷ NameAndType 5 20
    ∷ Utf8 (codes "(Ljava/lang/String;Ljava/lang/Throwable;)V") ∷ Field 22 23 ∷ Class 24 ∷ NameAndType 25 26
    ∷ Utf8 (codes "java/lang/System") ∷ Utf8 (codes "out") ∷ Utf8 (codes "Ljava/io/PrintStream;") ∷ Method 2 28
    ∷ NameAndType 29 30 ∷ Utf8 (codes "getClass") ∷ Utf8 (codes "()Ljava/lang/Class;") ∷ Method 32 33 ∷ Class 34
    ∷ NameAndType 35 36 ∷ Utf8 (codes "java/lang/Class") ∷ Utf8 (codes "getName")
    ∷ Utf8 (codes "()Ljava/lang/String;") ∷ Method 38 39 ∷ Class 40 ∷ NameAndType 41 17
    ∷ Utf8 (codes "java/io/PrintStream") ∷ Utf8 (codes "println") ∷ Method 43 44 ∷ Class 45 ∷ NameAndType 46 47
    ∷ Utf8 (codes "java/lang/Throwable") ∷ Utf8 (codes "getCause") ∷ Utf8 (codes "()Ljava/lang/Throwable;")
    ∷ Method 43 49 ∷ NameAndType 50 36 ∷ Utf8 (codes "getMessage") ∷ Method 22 52 ∷ NameAndType 53 54
    ∷ Utf8 (codes "identityHashCode") ∷ Utf8 (codes "(Ljava/lang/Object;)I") ∷ Method 38 56 ∷ NameAndType 41 57
    ∷ Utf8 (codes "(I)V") ∷ Method 2 59 ∷ NameAndType 60 61 ∷ Utf8 (codes "hashCode") ∷ Utf8 (codes "()I")
    ∷ Class 63 ∷ Utf8 (codes "A") ∷ Utf8 (codes "Code") ∷ Utf8 (codes "main")
    ∷ Utf8 (codes "([Ljava/lang/String;)V") ∷ []

abbrev pub class_a : FileTree
class_a =
    file_with 0x0020 class_a_pool 62 2 [] []
    (
    -- <init>()V: 0 aload_0, 1 invokespecial Object.<init>, 4 return
    method 0x0000 5 6 64 1 1
    (hex (codes "2ab70001b1"))
    []
    -- static main([Ljava/lang/String;)V: 0 new IllegalStateException, 3 dup, 4 ldc "at 0", 6 new RuntimeException, 9 dup,
    -- 10 ldc "b", 12 and 15 invokespecial <init>, 18 astore_1, 19 getstatic System.out, 22 aload_1, 23 invokevirtual getClass,
    -- 26 invokevirtual getName, 29 invokevirtual println, 32 getstatic System.out, 35 aload_1, 36 invokevirtual getCause,
    -- 39 invokevirtual getMessage, 42 invokevirtual println, 45 getstatic System.out, 48 aconst_null,
    -- 49 invokestatic identityHashCode, 52 invokevirtual println, 55 getstatic System.out, 58 aload_1, 59 invokevirtual hashCode,
    -- 62 aload_1, 63 invokestatic identityHashCode, 66 isub, 67 invokevirtual println, 70 getstatic System.out, 73 iconst_1,
    -- 74 aload_0, 75 arraylength, 76 idiv, 77 invokevirtual println, 80 return
    ∷ method 0x0009 65 66 64 6 2
    (hex (codes "bb0007591209bb000b59120db7000fb700124cb200152bb6001bb6001fb60025b200152bb6002ab60030b60025b2001501")
    ++ hex (codes "b80033b60037b200152bb6003a2bb8003364b60037b20015042abe6cb60037b1"))
    []
    ∷ []
    )

abbrev pub class_a_bytes : List ℕ
class_a_bytes =
    hex (codes "cafebabe0000003100430a000200030700040c000500060100106a6176612f6c616e672f4f626a6563740100063c696e")
    ++ (hex (codes "69743e01000328295607000801001f6a6176612f6c616e672f496c6c6567616c5374617465457863657074696f6e0800")
    ++ (hex (codes "0a0100046174203007000c01001a6a6176612f6c616e672f52756e74696d65457863657074696f6e08000e010001620a")
    ++ (hex (codes "000b00100c00050011010015284c6a6176612f6c616e672f537472696e673b29560a000700130c0005001401002a284c")
    ++ (hex (codes "6a6176612f6c616e672f537472696e673b4c6a6176612f6c616e672f5468726f7761626c653b29560900160017070018")
    ++ (hex (codes "0c0019001a0100106a6176612f6c616e672f53797374656d0100036f75740100154c6a6176612f696f2f5072696e7453")
    ++ (hex (codes "747265616d3b0a0002001c0c001d001e010008676574436c61737301001328294c6a6176612f6c616e672f436c617373")
    ++ (hex (codes "3b0a002000210700220c0023002401000f6a6176612f6c616e672f436c6173730100076765744e616d6501001428294c")
    ++ (hex (codes "6a6176612f6c616e672f537472696e673b0a002600270700280c002900110100136a6176612f696f2f5072696e745374")
    ++ (hex (codes "7265616d0100077072696e746c6e0a002b002c07002d0c002e002f0100136a6176612f6c616e672f5468726f7761626c")
    ++ (hex (codes "65010008676574436175736501001728294c6a6176612f6c616e672f5468726f7761626c653b0a002b00310c00320024")
    ++ (hex (codes "01000a6765744d6573736167650a001600340c003500360100106964656e7469747948617368436f6465010015284c6a")
    ++ (hex (codes "6176612f6c616e672f4f626a6563743b29490a002600380c00290039010004284929560a0002003b0c003c003d010008")
    ++ (hex (codes "68617368436f646501000328294907003f01000141010004436f64650100046d61696e010016285b4c6a6176612f6c61")
    ++ (hex (codes "6e672f537472696e673b29560020003e0002000000000002000000050006000100400000001100010001000000052ab7")
    ++ (hex (codes "0001b100000000000900410042000100400000005d0006000200000051bb0007591209bb000b59120db7000fb700124c")
    ++ (hex (codes "b200152bb6001bb6001fb60025b200152bb6002ab60030b60025b2001501b80033b60037b200152bb6003a2bb8003364")
    ++ hex (codes "b60037b20015042abe6cb60037b1000000000000")))))))))))))))))

abbrev pub files : Program
files = class_a ∷ []

-- the constant of `/ by zero` among the objects of the opening
abbrev pub division : ℕ
division = 62

-- a throwable of a class, with a message and a cause
abbrev pub throwable : Name → Value → Value → ObjectOf Value
throwable class message cause = Instance class ((throwable_message, message) ∷ (throwable_cause, cause) ∷ (throwable_suppressed, value.Null) ∷ [])

pub record ToldObjects : Type 0 where
  pub layouts : AreLaidOut (class_a_bytes ∷ []) files
  pub printed : Reports files usual (times 46 0) None ends.Quiet
      (codes "java.lang.IllegalStateException\nb\n0\n0\nthread 0 threw java/lang/ArithmeticException\nevents 46\nend quiet\n")
  -- an exception is an object of no cells, and the name of a class is a new String of 31 units
  pub almost : Reports files (record usual { cells = 30 }) (times 16 0) (Some (picks 0 0)) (ends.Refused 16 causes.Cells)
      (codes "thread 0 runnable\nevents 16\nend refused 16 cells\n")
  pub in_room : Reports files (record usual { objects = 4; cells = 31 }) (times 46 0) None ends.Quiet
      (codes "java.lang.IllegalStateException\nb\n0\n0\nthread 0 threw java/lang/ArithmeticException\nevents 46\nend quiet\n")
  -- what the machine makes: of a division by zero with a message, in the place of another exception with a cause, else with neither
  pub divided : machine_exception values files Arithmetic None ≡ throwable (exception_class Arithmetic) (value.Reference division) value.Null
  pub constant : slice_get (opening_heap values files) division ≡ Some (Characters (codes "/ by zero"))
  pub replaced : machine_exception values files ExceptionInInitializer (Some 70)
      ≡ throwable (exception_class ExceptionInInitializer) value.Null (value.Reference 70)
  pub plain : machine_exception values files NullPointer None ≡ throwable (exception_class NullPointer) value.Null value.Null
  pub no_cells : cells_of (machine_exception values files Arithmetic None) ≡ 0
