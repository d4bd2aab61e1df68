-- A class file as javac 17 wrote it (with `--release 8`, and the version then set to 49.0): all kinds of entries of the
-- constant pool but those that version 49 does not know, fields with and without a ConstantValue that counts, handlers,
-- and attributes that are skipped.
use Rattle.std.specs.Prelude.{ℕ, pos, List, [], ◌∷◌, ◌++◌, codes}
use Rattle.model.specs.declared.class_file.ExceptionEntry.{ExceptionEntry}
use Rattle.model.specs.Names.{java_lang_object, java_lang_system, java_io_print_stream}
use Rattle.model.specs.Tree.{Entry, Utf8, Integer, Float, Long, Double, Class, String, Field, Method, InterfaceMethod, NameAndType, Unusable, SkippedTree, FieldPart, ConstantOf, SkippedOfField, MethodPart, CodeOf, FieldTree, MethodTree, FileTree}
use Rattle.run_laws.specs.examples.Bytes.{hex}
use Rattle.run_laws.specs.examples.Runs.{Prints}

abbrev pub skipped : ℕ → List ℕ → SkippedTree
skipped name bytes = record { name = name; bytes = bytes }

abbrev pub exception : ℕ → ℕ → ℕ → ℕ → ExceptionEntry
exception start end handler catch_type = record { start = start; end = end; handler = handler; catch_type = catch_type }

abbrev pub field : ℕ → ℕ → ℕ → List FieldPart → FieldTree
field flags name descriptor parts = record { flags = flags; name = name; descriptor = descriptor; parts = parts }

abbrev pub method : ℕ → ℕ → ℕ → List MethodPart → MethodTree
method flags name descriptor parts = record { flags = flags; name = name; descriptor = descriptor; parts = parts }

-- an attribute Code: the index of its name, max_stack, max_locals, the code, the handlers and the attributes
abbrev pub code_of : ℕ → ℕ → ℕ → List ℕ → List ExceptionEntry → List SkippedTree → MethodPart
code_of name max_stack max_locals code exceptions attributes =
    CodeOf name (record { max_stack = max_stack; max_locals = max_locals; code = code; exceptions = exceptions; attributes = attributes })

abbrev pub javac_bytes : List ℕ
javac_bytes =
    hex (codes "cafebabe000000310041 0a00020003 070004 0c00050006 0100106a6176612f6c616e672f4f626a656374")
    ++ hex (codes "0100063c696e69743e 010003282956 0900080009 07000a 0c000b000c 01000141 0100046b657074 01000149")
    ++ hex (codes "090008000e 0c000f000c 01000576616c7565 070011")
    ++ hex (codes "01001d6a6176612f6c616e672f41726974686d65746963457863657074696f6e 0b00130014 070015 0c00160006")
    ++ hex (codes "0100126a6176612f6c616e672f52756e6e61626c65 01000372756e 0900180019 07001a 0c001b001c")
    ++ hex (codes "0100106a6176612f6c616e672f53797374656d 0100036f7574 0100154c6a6176612f696f2f5072696e7453747265616d3b")
    ++ hex (codes "0a001e001f 070020 0c00210022 0100136a6176612f696f2f5072696e7453747265616d 0100077072696e746c6e")
    ++ hex (codes "01000428492956 0100054c494d4954 01000d436f6e7374616e7456616c7565 0300000007 0100044c4f4e47 0100014a")
    ++ hex (codes "050000010000000000 01000448414c46 01000144 063fe0000000000000 01000751554152544552 01000146")
    ++ hex (codes "043e800000 0100044e414d45 0100124c6a6176612f6c616e672f537472696e673b 080034 010005736576656e")
    ++ hex (codes "0300000003 010004436f6465 01000f4c696e654e756d6265725461626c65 01000d537461636b4d61705461626c65")
    ++ hex (codes "07003a 0100136a6176612f6c616e672f5468726f7761626c65 01000463616c6c")
    ++ hex (codes "010017284c6a6176612f6c616e672f52756e6e61626c653b2956 0100046d61696e")
    ++ hex (codes "010016285b4c6a6176612f6c616e672f537472696e673b2956 01000a536f7572636546696c65 010006412e6a617661")
    ++ hex (codes "00210008000200010013 000700180023000c00010024000000020025 00180026002700010024000000020028")
    ++ hex (codes "0018002a002b0001002400000002002c 0018002e002f00010024000000020030 00180031003200010024000000020033")
    ++ hex (codes "0010000b000c00010024000000020035 0000000f000c0000")
    ++ hex (codes "00040001000500060001003600000026000200010000000a2ab700012a06b50007b10000000100370000000a000200000001")
    ++ hex (codes "00040007")
    ++ hex (codes "000100160006000100360000009e00030003000000392a062ab4000d6cb5000d2a59b4000d0460b5000da700244c2a1007b5")
    ++ hex (codes "000d2a59b4000d0460b5000da700104d2a59b4000d0460b5000d2cbfb100030000000a001700100000000a002b0000001700")
    ++ hex (codes "1e002b0000000200370000002a000a0000000c000a0010001400110017000d0018000e001e001000280011002b0010003600")
    ++ hex (codes "110038001200380000000b000357070010530700390c")
    ++ hex (codes "0008003b003c000100360000002300010001000000072ab900120100b10000000100370000000a00020000001500060016")
    ++ hex (codes "0009003d003e00010036000000250002000100000009b200171007b6001db10000000100370000000a000200000019000800")
    ++ hex (codes "1a 0001003f000000020040")

abbrev pub pool : List Entry
pool =
    Method 2 3 ∷ Class 4 ∷ NameAndType 5 6 ∷ Utf8 java_lang_object ∷ Utf8 (codes "<init>") ∷ Utf8 (codes "()V")
    ∷ Field 8 9 ∷ Class 10 ∷ NameAndType 11 12 ∷ Utf8 (codes "A") ∷ Utf8 (codes "kept") ∷ Utf8 (codes "I")
    ∷ Field 8 14 ∷ NameAndType 15 12 ∷ Utf8 (codes "value") ∷ Class 17
    ∷ Utf8 (codes "java/lang/ArithmeticException") ∷ InterfaceMethod 19 20 ∷ Class 21 ∷ NameAndType 22 6
    ∷ Utf8 (codes "java/lang/Runnable") ∷ Utf8 (codes "run") ∷ Field 24 25 ∷ Class 26 ∷ NameAndType 27 28
    ∷ Utf8 java_lang_system ∷ Utf8 (codes "out") ∷ Utf8 (codes "Ljava/io/PrintStream;") ∷ Method 30 31
    ∷ Class 32 ∷ NameAndType 33 34 ∷ Utf8 java_io_print_stream ∷ Utf8 (codes "println") ∷ Utf8 (codes "(I)V")
    ∷ Utf8 (codes "LIMIT") ∷ Utf8 (codes "ConstantValue") ∷ Integer 7 ∷ Utf8 (codes "LONG") ∷ Utf8 (codes "J")
    ∷ Long 0x0000010000000000 ∷ Unusable ∷ Utf8 (codes "HALF") ∷ Utf8 (codes "D") ∷ Double 0x3fe0000000000000
    ∷ Unusable ∷ Utf8 (codes "QUARTER") ∷ Utf8 (codes "F") ∷ Float 0x3e800000 ∷ Utf8 (codes "NAME")
    ∷ Utf8 (codes "Ljava/lang/String;") ∷ String 52 ∷ Utf8 (codes "seven") ∷ Integer 3 ∷ Utf8 (codes "Code")
    ∷ Utf8 (codes "LineNumberTable") ∷ Utf8 (codes "StackMapTable") ∷ Class 58
    ∷ Utf8 (codes "java/lang/Throwable") ∷ Utf8 (codes "call") ∷ Utf8 (codes "(Ljava/lang/Runnable;)V")
    ∷ Utf8 (codes "main") ∷ Utf8 (codes "([Ljava/lang/String;)V") ∷ Utf8 (codes "SourceFile")
    ∷ Utf8 (codes "A.java") ∷ []

abbrev pub fields : List FieldTree
fields =
    field 0x0018 35 12 (ConstantOf 36 37 ∷ [])
    ∷ field 0x0018 38 39 (ConstantOf 36 40 ∷ [])
    ∷ field 0x0018 42 43 (ConstantOf 36 44 ∷ [])
    ∷ field 0x0018 46 47 (ConstantOf 36 48 ∷ [])
    ∷ field 0x0018 49 50 (ConstantOf 36 51 ∷ [])
    ∷ field 0x0010 11 12 (SkippedOfField (skipped 36 (hex (codes "0035"))) ∷ [])
    ∷ field 0x0000 15 12 ([])
    ∷ []

abbrev pub methods : List MethodTree
methods =
    method 0x0001 5 6
    (code_of 54 2 1
    (hex (codes "2ab700012a06b50007b1"))
    ([])
    (skipped 55 (hex (codes "00020000000100040007")) ∷ []) ∷ [])
    ∷ method 0x0001 22 6
    (code_of 54 3 3
    (hex (codes "2a062ab4000d6cb5000d2a59b4000d0460b5000da700244c2a1007b5000d2a59b4000d0460b5000da700104d2a59b4000d0460b5000d2cbfb1"))
    (exception 0 10 23 16 ∷ exception 0 10 43 0 ∷ exception 23 30 43 0 ∷ [])
    (skipped 55 (hex (codes "000a0000000c000a0010001400110017000d0018000e001e001000280011002b00100036001100380012")) ∷ skipped 56 (hex (codes "000357070010530700390c")) ∷ []) ∷ [])
    ∷ method 0x0008 59 60
    (code_of 54 1 1
    (hex (codes "2ab900120100b1"))
    ([])
    (skipped 55 (hex (codes "00020000001500060016")) ∷ []) ∷ [])
    ∷ method 0x0009 61 62
    (code_of 54 2 1
    (hex (codes "b200171007b6001db1"))
    ([])
    (skipped 55 (hex (codes "0002000000190008001a")) ∷ []) ∷ [])
    ∷ []

abbrev pub javac_file : FileTree
javac_file =
    record {
      pool = pool;
      flags = 0x0021;
      this_class = 8;
      super_class = 2;
      interfaces = 19 ∷ [];
      fields = fields;
      methods = methods;
      attributes = skipped 63 (hex (codes "0040")) ∷ [];
    }

-- main prints 7, by the four instructions of a main that does nothing else
abbrev pub WrittenByJavac : Type 0
WrittenByJavac = Prints javac_bytes javac_file 8 (pos 7 ∷ []) (codes "7\nthread 0 ended\nevents 8\nend quiet\n")
