-- The classes of the examples, compiled from Java by javac 17 (with `--release 8 -g:none`, and the version then set to 49.0; frames of
-- StackMapTable are left out).
use Rattle.std.specs.Prelude.{List, [], ◌∷◌, codes}
use Rattle.model.specs.Tree.{Entry, Utf8, Class, Field, Method, NameAndType, FileTree}
use Rattle.run_laws.specs.examples.Bytes.{hex}
use Rattle.run_laws.specs.examples.ClassFiles.{field, method, handler, file_with}

abbrev pub flag_pool : List Entry
flag_pool =
    Method 2 3 ∷ Class 4 ∷ NameAndType 5 6 ∷ Utf8 (codes "java/lang/Thread") ∷ Utf8 (codes "<init>")
    ∷ Utf8 (codes "()V") ∷ Field 8 9 ∷ Class 10 ∷ NameAndType 11 12 ∷ Utf8 (codes "Flag") ∷ Utf8 (codes "x")
    ∷ Utf8 (codes "I") ∷ Field 8 14 ∷ NameAndType 15 16 ∷ Utf8 (codes "ready") ∷ Utf8 (codes "Z") ∷ Method 8 3
    ∷ Method 8 19 ∷ NameAndType 20 6 ∷ Utf8 (codes "start") ∷ Method 2 22 ∷ NameAndType 23 6 ∷ Utf8 (codes "yield")
    ∷ Field 25 26 ∷ Class 27 ∷ NameAndType 28 29 ∷ Utf8 (codes "java/lang/System") ∷ Utf8 (codes "out")
    ∷ Utf8 (codes "Ljava/io/PrintStream;") ∷ Method 31 32 ∷ Class 33 ∷ NameAndType 34 35
    ∷ Utf8 (codes "java/io/PrintStream") ∷ Utf8 (codes "println") ∷ Utf8 (codes "(I)V") ∷ Utf8 (codes "Code")
    ∷ Utf8 (codes "run") ∷ Utf8 (codes "main") ∷ Utf8 (codes "([Ljava/lang/String;)V") ∷ Utf8 (codes "StackMapTable")
    ∷ []

abbrev pub flag : FileTree
flag =
    file_with 0x0020 flag_pool 8 2 [] (field 0x0008 15 16 [] ∷ field 0x0008 11 12 [] ∷ [])
    (
    method 0x0000 5 6 36 1 1 (hex (codes "2ab70001b1")) []
    ∷ method 0x0001 37 6 36 1 1 (hex (codes "04b3000704b3000db1")) []
    ∷ method 0x0009 38 39 36 2 1 (hex (codes "bb000859b70011b60012b2000d9a0009b80015a7fff7b20018b20007b6001eb1")) []
    ∷ []
    )

abbrev pub elements_pool : List Entry
elements_pool =
    Method 2 3 ∷ Class 4 ∷ NameAndType 5 6 ∷ Utf8 (codes "java/lang/Thread") ∷ Utf8 (codes "<init>")
    ∷ Utf8 (codes "()V") ∷ Field 8 9 ∷ Class 10 ∷ NameAndType 11 12 ∷ Utf8 (codes "Elements") ∷ Utf8 (codes "a")
    ∷ Utf8 (codes "[I") ∷ Field 8 14 ∷ NameAndType 15 16 ∷ Utf8 (codes "i") ∷ Utf8 (codes "I") ∷ Method 8 3
    ∷ Method 8 19 ∷ NameAndType 20 6 ∷ Utf8 (codes "start") ∷ Utf8 (codes "Code") ∷ Utf8 (codes "run")
    ∷ Utf8 (codes "main") ∷ Utf8 (codes "([Ljava/lang/String;)V") ∷ []

abbrev pub elements : FileTree
elements =
    file_with 0x0020 elements_pool 8 2 [] (field 0x0008 11 12 [] ∷ field 0x0000 15 16 [] ∷ [])
    (
    method 0x0000 5 6 21 1 1 (hex (codes "2ab70001b1")) []
    ∷ method 0x0001 22 6 21 3 1 (hex (codes "b200072ab4000d044fb1")) []
    ∷ method 0x0009 23 24 21 2 4 (hex (codes "05bc0ab30007bb000859b700114cbb000859b700114dbb000859b700114e2d04b5000d2bb600122cb600122db60012b1")) []
    ∷ []
    )

abbrev pub notified_pool : List Entry
notified_pool =
    Method 2 3 ∷ Class 4 ∷ NameAndType 5 6 ∷ Utf8 (codes "java/lang/Thread") ∷ Utf8 (codes "<init>")
    ∷ Utf8 (codes "()V") ∷ Class 8 ∷ Utf8 (codes "Notified") ∷ Field 7 10 ∷ NameAndType 11 12 ∷ Utf8 (codes "f")
    ∷ Utf8 (codes "I") ∷ Method 14 15 ∷ Class 16 ∷ NameAndType 17 6 ∷ Utf8 (codes "java/lang/Object")
    ∷ Utf8 (codes "notify") ∷ Method 7 3 ∷ Method 7 20 ∷ NameAndType 21 6 ∷ Utf8 (codes "start") ∷ Method 14 23
    ∷ NameAndType 24 6 ∷ Utf8 (codes "wait") ∷ Field 26 27 ∷ Class 28 ∷ NameAndType 29 30
    ∷ Utf8 (codes "java/lang/System") ∷ Utf8 (codes "out") ∷ Utf8 (codes "Ljava/io/PrintStream;") ∷ Method 32 33
    ∷ Class 34 ∷ NameAndType 35 36 ∷ Utf8 (codes "java/io/PrintStream") ∷ Utf8 (codes "println") ∷ Utf8 (codes "(I)V")
    ∷ Utf8 (codes "Code") ∷ Utf8 (codes "run") ∷ Utf8 (codes "StackMapTable") ∷ Class 41
    ∷ Utf8 (codes "java/lang/Throwable") ∷ Utf8 (codes "main") ∷ Utf8 (codes "([Ljava/lang/String;)V") ∷ Class 45
    ∷ Utf8 (codes "[Ljava/lang/String;") ∷ Utf8 (codes "Exceptions") ∷ Class 48
    ∷ Utf8 (codes "java/lang/InterruptedException") ∷ []

abbrev pub notified : FileTree
notified =
    file_with 0x0020 notified_pool 7 2 [] (field 0x0000 11 12 [] ∷ [])
    (
    method 0x0000 5 6 37 1 1 (hex (codes "2ab70001b1")) []
    ∷ method 0x0001 38 6 37 2 3 (hex (codes "1207594cc22a04b500091207b6000d2bc3a700084d2bc32cbfb1")) (handler 5 17 20 0 ∷ handler 20 23 20 0 ∷ [])
    ∷ method 0x0009 42 43 37 2 4 (hex (codes "bb000759b700124c1207594dc22bb600131207b60016b200192bb40009b6001f2cc3a700084e2cc32dbfb1")) (handler 13 34 37 0 ∷ handler 37 40 37 0 ∷ [])
    ∷ []
    )

abbrev pub alive_pool : List Entry
alive_pool =
    Method 2 3 ∷ Class 4 ∷ NameAndType 5 6 ∷ Utf8 (codes "java/lang/Thread") ∷ Utf8 (codes "<init>")
    ∷ Utf8 (codes "()V") ∷ Field 8 9 ∷ Class 10 ∷ NameAndType 11 12 ∷ Utf8 (codes "Alive") ∷ Utf8 (codes "f")
    ∷ Utf8 (codes "I") ∷ Method 8 3 ∷ Method 8 15 ∷ NameAndType 16 6 ∷ Utf8 (codes "start") ∷ Method 8 18
    ∷ NameAndType 19 20 ∷ Utf8 (codes "isAlive") ∷ Utf8 (codes "()Z") ∷ Field 22 23 ∷ Class 24 ∷ NameAndType 25 26
    ∷ Utf8 (codes "java/lang/System") ∷ Utf8 (codes "out") ∷ Utf8 (codes "Ljava/io/PrintStream;") ∷ Method 28 29
    ∷ Class 30 ∷ NameAndType 31 32 ∷ Utf8 (codes "java/io/PrintStream") ∷ Utf8 (codes "println") ∷ Utf8 (codes "(I)V")
    ∷ Utf8 (codes "Code") ∷ Utf8 (codes "run") ∷ Utf8 (codes "main") ∷ Utf8 (codes "([Ljava/lang/String;)V") ∷ []

abbrev pub alive : FileTree
alive =
    file_with 0x0020 alive_pool 8 2 [] (field 0x0000 11 12 [] ∷ [])
    (
    method 0x0000 5 6 33 1 1 (hex (codes "2ab70001b1")) []
    ∷ method 0x0001 34 6 33 3 1 (hex (codes "2a2ab400070460b50007b1")) []
    ∷ method 0x0009 35 36 33 2 2 (hex (codes "bb000859b7000d4c2b04b500072bb6000e2bb6001157b200152bb40007b6001bb1")) []
    ∷ []
    )

abbrev pub interrupted_pool : List Entry
interrupted_pool =
    Method 2 3 ∷ Class 4 ∷ NameAndType 5 6 ∷ Utf8 (codes "java/lang/Thread") ∷ Utf8 (codes "<init>")
    ∷ Utf8 (codes "()V") ∷ Method 8 9 ∷ Class 10 ∷ NameAndType 11 6 ∷ Utf8 (codes "java/lang/Object")
    ∷ Utf8 (codes "wait") ∷ Class 13 ∷ Utf8 (codes "java/lang/InterruptedException") ∷ Field 15 16 ∷ Class 17
    ∷ NameAndType 18 19 ∷ Utf8 (codes "java/lang/System") ∷ Utf8 (codes "out") ∷ Utf8 (codes "Ljava/io/PrintStream;")
    ∷ Field 21 22 ∷ Class 23 ∷ NameAndType 24 25 ∷ Utf8 (codes "Interrupted") ∷ Utf8 (codes "f") ∷ Utf8 (codes "I")
    ∷ Method 27 28 ∷ Class 29 ∷ NameAndType 30 31 ∷ Utf8 (codes "java/io/PrintStream") ∷ Utf8 (codes "println")
    ∷ Utf8 (codes "(I)V") ∷ Method 21 3 ∷ Method 21 34 ∷ NameAndType 35 6 ∷ Utf8 (codes "start") ∷ Method 21 37
    ∷ NameAndType 38 6 ∷ Utf8 (codes "interrupt") ∷ Utf8 (codes "Code") ∷ Utf8 (codes "run")
    ∷ Utf8 (codes "StackMapTable") ∷ Utf8 (codes "main") ∷ Utf8 (codes "([Ljava/lang/String;)V") ∷ []

abbrev pub interrupted : FileTree
interrupted =
    file_with 0x0020 interrupted_pool 21 2 [] (field 0x0000 24 25 [] ∷ [])
    (
    method 0x0000 5 6 39 1 1 (hex (codes "2ab70001b1")) []
    ∷ method 0x0021 40 6 39 2 2 (hex (codes "2ab60007a7000e4cb2000e2ab40014b6001ab1")) (handler 0 4 7 12 ∷ [])
    ∷ method 0x0009 42 43 39 2 2 (hex (codes "bb001559b700204c2bb600212b04b500142bb60024b1")) []
    ∷ []
    )

abbrev pub ended_pool : List Entry
ended_pool =
    Method 2 3 ∷ Class 4 ∷ NameAndType 5 6 ∷ Utf8 (codes "java/lang/Thread") ∷ Utf8 (codes "<init>")
    ∷ Utf8 (codes "()V") ∷ Field 8 9 ∷ Class 10 ∷ NameAndType 11 12 ∷ Utf8 (codes "Ended") ∷ Utf8 (codes "r")
    ∷ Utf8 (codes "I") ∷ Method 8 3 ∷ Method 8 15 ∷ NameAndType 16 6 ∷ Utf8 (codes "start") ∷ Method 18 19 ∷ Class 20
    ∷ NameAndType 21 6 ∷ Utf8 (codes "java/lang/Object") ∷ Utf8 (codes "wait") ∷ Field 23 24 ∷ Class 25
    ∷ NameAndType 26 27 ∷ Utf8 (codes "java/lang/System") ∷ Utf8 (codes "out") ∷ Utf8 (codes "Ljava/io/PrintStream;")
    ∷ Method 29 30 ∷ Class 31 ∷ NameAndType 32 33 ∷ Utf8 (codes "java/io/PrintStream") ∷ Utf8 (codes "println")
    ∷ Utf8 (codes "(I)V") ∷ Utf8 (codes "Code") ∷ Utf8 (codes "run") ∷ Utf8 (codes "main")
    ∷ Utf8 (codes "([Ljava/lang/String;)V") ∷ Utf8 (codes "StackMapTable") ∷ Class 40
    ∷ Utf8 (codes "[Ljava/lang/String;") ∷ Class 42 ∷ Utf8 (codes "java/lang/Throwable") ∷ Utf8 (codes "Exceptions")
    ∷ Class 45 ∷ Utf8 (codes "java/lang/InterruptedException") ∷ []

abbrev pub ended : FileTree
ended =
    file_with 0x0020 ended_pool 8 2 [] (field 0x0000 11 12 [] ∷ [])
    (
    method 0x0000 5 6 34 1 1 (hex (codes "2ab70001b1")) []
    ∷ method 0x0001 35 6 34 2 1 (hex (codes "2a04b50007b1")) []
    ∷ method 0x0009 36 37 34 2 4 (hex (codes "bb000859b7000d4c2b594dc22bb6000e2bb600112cc3a700084e2cc32dbfb200162bb40007b6001cb1")) (handler 12 22 25 0 ∷ handler 25 28 25 0 ∷ [])
    ∷ []
    )

abbrev pub cleared_pool : List Entry
cleared_pool =
    Method 2 3 ∷ Class 4 ∷ NameAndType 5 6 ∷ Utf8 (codes "java/lang/Thread") ∷ Utf8 (codes "<init>")
    ∷ Utf8 (codes "()V") ∷ Field 8 9 ∷ Class 10 ∷ NameAndType 11 12 ∷ Utf8 (codes "Cleared") ∷ Utf8 (codes "f")
    ∷ Utf8 (codes "I") ∷ Method 8 14 ∷ NameAndType 15 16 ∷ Utf8 (codes "interrupted") ∷ Utf8 (codes "()Z")
    ∷ Method 8 3 ∷ Method 8 19 ∷ NameAndType 20 6 ∷ Utf8 (codes "start") ∷ Method 8 22 ∷ NameAndType 23 6
    ∷ Utf8 (codes "interrupt") ∷ Method 8 25 ∷ NameAndType 26 16 ∷ Utf8 (codes "isInterrupted") ∷ Method 2 28
    ∷ NameAndType 29 6 ∷ Utf8 (codes "yield") ∷ Field 31 32 ∷ Class 33 ∷ NameAndType 34 35
    ∷ Utf8 (codes "java/lang/System") ∷ Utf8 (codes "out") ∷ Utf8 (codes "Ljava/io/PrintStream;") ∷ Method 37 38
    ∷ Class 39 ∷ NameAndType 40 41 ∷ Utf8 (codes "java/io/PrintStream") ∷ Utf8 (codes "println") ∷ Utf8 (codes "(I)V")
    ∷ Utf8 (codes "Code") ∷ Utf8 (codes "run") ∷ Utf8 (codes "main") ∷ Utf8 (codes "([Ljava/lang/String;)V")
    ∷ Utf8 (codes "StackMapTable") ∷ []

abbrev pub cleared : FileTree
cleared =
    file_with 0x0020 cleared_pool 8 2 [] (field 0x0000 11 12 [] ∷ [])
    (
    method 0x0000 5 6 42 1 1 (hex (codes "2ab70001b1")) []
    ∷ method 0x0001 43 6 42 2 1 (hex (codes "2a04b50007b8000d57b1")) []
    ∷ method 0x0009 44 45 42 2 2 (hex (codes "bb000859b700114c2bb600122bb600152bb60018990009b8001ba7fff6b2001e2bb40007b60024b1")) []
    ∷ []
    )

abbrev pub needs_pool : List Entry
needs_pool =
    Method 2 3 ∷ Class 4 ∷ NameAndType 5 6 ∷ Utf8 (codes "java/lang/Thread") ∷ Utf8 (codes "<init>")
    ∷ Utf8 (codes "()V") ∷ Field 8 9 ∷ Class 10 ∷ NameAndType 11 12 ∷ Utf8 (codes "java/lang/System")
    ∷ Utf8 (codes "out") ∷ Utf8 (codes "Ljava/io/PrintStream;") ∷ Field 14 15 ∷ Class 16 ∷ NameAndType 17 18
    ∷ Utf8 (codes "Needs$C") ∷ Utf8 (codes "f") ∷ Utf8 (codes "I") ∷ Method 20 21 ∷ Class 22 ∷ NameAndType 23 24
    ∷ Utf8 (codes "java/io/PrintStream") ∷ Utf8 (codes "println") ∷ Utf8 (codes "(I)V") ∷ Field 26 27 ∷ Class 28
    ∷ NameAndType 29 18 ∷ Utf8 (codes "Needs") ∷ Utf8 (codes "g") ∷ Method 26 3 ∷ Method 26 32 ∷ NameAndType 33 6
    ∷ Utf8 (codes "start") ∷ Utf8 (codes "Code") ∷ Utf8 (codes "run") ∷ Utf8 (codes "main")
    ∷ Utf8 (codes "([Ljava/lang/String;)V") ∷ Utf8 (codes "InnerClasses") ∷ Utf8 (codes "C") ∷ []

abbrev pub needs : FileTree
needs =
    file_with 0x0020 needs_pool 26 2 [] (field 0x0008 29 18 [] ∷ [])
    (
    method 0x0000 5 6 34 1 1 (hex (codes "2ab70001b1")) []
    ∷ method 0x0001 35 6 34 2 1 (hex (codes "b20007b2000db60013b20007b20019b60013b1")) []
    ∷ method 0x0009 36 37 34 2 1 (hex (codes "bb001a59b7001eb6001fb20007b20019b60013b20007b2000db60013b20007b20019b60013b1")) []
    ∷ []
    )

abbrev pub needed_pool : List Entry
needed_pool =
    Method 2 3 ∷ Class 4 ∷ NameAndType 5 6 ∷ Utf8 (codes "java/lang/Object") ∷ Utf8 (codes "<init>")
    ∷ Utf8 (codes "()V") ∷ Field 8 9 ∷ Class 10 ∷ NameAndType 11 12 ∷ Utf8 (codes "Needs$C") ∷ Utf8 (codes "f")
    ∷ Utf8 (codes "I") ∷ Field 14 15 ∷ Class 16 ∷ NameAndType 17 12 ∷ Utf8 (codes "Needs") ∷ Utf8 (codes "g")
    ∷ Utf8 (codes "Code") ∷ Utf8 (codes "<clinit>") ∷ Utf8 (codes "StackMapTable") ∷ Utf8 (codes "InnerClasses")
    ∷ Utf8 (codes "C") ∷ []

abbrev pub needed : FileTree
needed =
    file_with 0x0020 needed_pool 8 2 [] (field 0x0008 11 12 [] ∷ [])
    (
    method 0x0000 5 6 18 1 1 (hex (codes "2ab70001b1")) []
    ∷ method 0x0008 19 6 18 2 0 (hex (codes "bb000259b70001c7000703a7000404b3000705b3000db1")) []
    ∷ []
    )

abbrev pub started_pool : List Entry
started_pool =
    Method 2 3 ∷ Class 4 ∷ NameAndType 5 6 ∷ Utf8 (codes "java/lang/Thread") ∷ Utf8 (codes "<init>")
    ∷ Utf8 (codes "()V") ∷ Field 8 9 ∷ Class 10 ∷ NameAndType 11 12 ∷ Utf8 (codes "Started") ∷ Utf8 (codes "first")
    ∷ Utf8 (codes "Z") ∷ Field 8 14 ∷ NameAndType 15 16 ∷ Utf8 (codes "u") ∷ Utf8 (codes "LStarted;") ∷ Method 8 18
    ∷ NameAndType 19 6 ∷ Utf8 (codes "interrupt") ∷ Method 8 21 ∷ NameAndType 22 23 ∷ Utf8 (codes "isInterrupted")
    ∷ Utf8 (codes "()Z") ∷ Field 25 26 ∷ Class 27 ∷ NameAndType 28 29 ∷ Utf8 (codes "java/lang/System")
    ∷ Utf8 (codes "out") ∷ Utf8 (codes "Ljava/io/PrintStream;") ∷ Field 8 31 ∷ NameAndType 32 33 ∷ Utf8 (codes "f")
    ∷ Utf8 (codes "I") ∷ Method 35 36 ∷ Class 37 ∷ NameAndType 38 39 ∷ Utf8 (codes "java/io/PrintStream")
    ∷ Utf8 (codes "println") ∷ Utf8 (codes "(I)V") ∷ Method 8 3 ∷ Method 8 42 ∷ NameAndType 43 6
    ∷ Utf8 (codes "start") ∷ Utf8 (codes "Code") ∷ Utf8 (codes "run") ∷ Utf8 (codes "StackMapTable")
    ∷ Utf8 (codes "main") ∷ Utf8 (codes "([Ljava/lang/String;)V") ∷ []

abbrev pub started : FileTree
started =
    file_with 0x0020 started_pool 8 2 [] (field 0x0008 15 16 [] ∷ field 0x0008 32 33 [] ∷ field 0x0000 11 12 [] ∷ [])
    (
    method 0x0000 5 6 44 1 1 (hex (codes "2ab70001b1")) []
    ∷ method 0x0001 45 6 44 2 1 (hex (codes "2ab4000799001eb2000db60011b2000db60014990013b20018b2001eb60022a7000705b3001eb1")) []
    ∷ method 0x0009 47 48 44 2 2 (hex (codes "bb000859b70028b3000dbb000859b700284c2b04b500072bb6002904b3001eb2000db60029b1")) []
    ∷ []
    )

abbrev pub lazy_pool : List Entry
lazy_pool =
    Method 2 3 ∷ Class 4 ∷ NameAndType 5 6 ∷ Utf8 (codes "java/lang/Thread") ∷ Utf8 (codes "<init>")
    ∷ Utf8 (codes "()V") ∷ Field 8 9 ∷ Class 10 ∷ NameAndType 11 12 ∷ Utf8 (codes "Lazy") ∷ Utf8 (codes "only")
    ∷ Utf8 (codes "LLazy;") ∷ Method 8 3 ∷ Field 8 15 ∷ NameAndType 16 17 ∷ Utf8 (codes "v") ∷ Utf8 (codes "I")
    ∷ Field 19 20 ∷ Class 21 ∷ NameAndType 22 23 ∷ Utf8 (codes "java/lang/System") ∷ Utf8 (codes "out")
    ∷ Utf8 (codes "Ljava/io/PrintStream;") ∷ Method 8 25 ∷ NameAndType 11 26 ∷ Utf8 (codes "()LLazy;") ∷ Method 28 29
    ∷ Class 30 ∷ NameAndType 31 32 ∷ Utf8 (codes "java/io/PrintStream") ∷ Utf8 (codes "println") ∷ Utf8 (codes "(I)V")
    ∷ Method 8 34 ∷ NameAndType 35 6 ∷ Utf8 (codes "start") ∷ Utf8 (codes "Code") ∷ Utf8 (codes "StackMapTable")
    ∷ Class 39 ∷ Utf8 (codes "java/lang/Object") ∷ Class 41 ∷ Utf8 (codes "java/lang/Throwable") ∷ Utf8 (codes "run")
    ∷ Utf8 (codes "main") ∷ Utf8 (codes "([Ljava/lang/String;)V") ∷ []

abbrev pub lazy : FileTree
lazy =
    file_with 0x0020 lazy_pool 8 2 [] (field 0x0008 11 12 [] ∷ field 0x0000 16 17 [] ∷ [])
    (
    method 0x0000 5 6 36 1 1 (hex (codes "2ab70001b1")) []
    ∷ method 0x0008 11 26 36 2 3 (hex (codes "b20007c700291208594bc2b20007c70014bb000859b7000d4c2b04b5000e2bb300072ac3a700084d2ac32cbfb20007b0")) (handler 11 36 39 0 ∷ handler 39 42 39 0 ∷ [])
    ∷ method 0x0001 42 6 36 2 1 (hex (codes "b20012b80018b4000eb6001bb1")) []
    ∷ method 0x0009 43 44 36 2 1 (hex (codes "bb000859b7000db60021b20012b80018b4000eb6001bb1")) []
    ∷ []
    )

abbrev pub two_locks_pool : List Entry
two_locks_pool =
    Method 2 3 ∷ Class 4 ∷ NameAndType 5 6 ∷ Utf8 (codes "java/lang/Thread") ∷ Utf8 (codes "<init>")
    ∷ Utf8 (codes "()V") ∷ Field 8 9 ∷ Class 10 ∷ NameAndType 11 12 ∷ Utf8 (codes "TwoLocks") ∷ Utf8 (codes "n")
    ∷ Utf8 (codes "I") ∷ Method 8 3 ∷ Method 8 15 ∷ NameAndType 16 6 ∷ Utf8 (codes "start") ∷ Utf8 (codes "Code")
    ∷ Utf8 (codes "run") ∷ Utf8 (codes "main") ∷ Utf8 (codes "([Ljava/lang/String;)V") ∷ []

abbrev pub two_locks : FileTree
two_locks =
    file_with 0x0020 two_locks_pool 8 2 [] (field 0x0008 11 12 [] ∷ [])
    (
    method 0x0000 5 6 17 1 1 (hex (codes "2ab70001b1")) []
    ∷ method 0x0021 18 6 17 2 1 (hex (codes "b200070460b30007b1")) []
    ∷ method 0x0009 19 20 17 2 1 (hex (codes "bb000859b7000db6000ebb000859b7000db6000eb1")) []
    ∷ []
    )

abbrev pub over_pool : List Entry
over_pool =
    Method 2 3 ∷ Class 4 ∷ NameAndType 5 6 ∷ Utf8 (codes "java/lang/Thread") ∷ Utf8 (codes "<init>")
    ∷ Utf8 (codes "()V") ∷ Field 8 9 ∷ Class 10 ∷ NameAndType 11 12 ∷ Utf8 (codes "Over") ∷ Utf8 (codes "u")
    ∷ Utf8 (codes "LOver;") ∷ Field 8 14 ∷ NameAndType 15 16 ∷ Utf8 (codes "f") ∷ Utf8 (codes "I") ∷ Method 8 18
    ∷ NameAndType 19 6 ∷ Utf8 (codes "interrupt") ∷ Method 8 21 ∷ NameAndType 22 23 ∷ Utf8 (codes "isInterrupted")
    ∷ Utf8 (codes "()Z") ∷ Field 25 26 ∷ Class 27 ∷ NameAndType 28 29 ∷ Utf8 (codes "java/lang/System")
    ∷ Utf8 (codes "out") ∷ Utf8 (codes "Ljava/io/PrintStream;") ∷ Method 31 32 ∷ Class 33 ∷ NameAndType 34 35
    ∷ Utf8 (codes "java/io/PrintStream") ∷ Utf8 (codes "println") ∷ Utf8 (codes "(I)V") ∷ Method 8 3 ∷ Method 8 38
    ∷ NameAndType 39 6 ∷ Utf8 (codes "start") ∷ Utf8 (codes "Code") ∷ Utf8 (codes "run")
    ∷ Utf8 (codes "StackMapTable") ∷ Utf8 (codes "main") ∷ Utf8 (codes "([Ljava/lang/String;)V") ∷ []

abbrev pub over : FileTree
over =
    file_with 0x0020 over_pool 8 2 [] (field 0x0008 11 12 [] ∷ field 0x0008 15 16 [] ∷ [])
    (
    method 0x0000 5 6 40 1 1 (hex (codes "2ab70001b1")) []
    ∷ method 0x0001 41 6 40 2 1 (hex (codes "2ab20007a6000a04b3000da7001bb20007b60011b20007b600149a000cb20018b2000db6001eb1")) []
    ∷ method 0x0009 43 44 40 2 1 (hex (codes "bb000859b70024b30007b20007b60025bb000859b70024b60025b1")) []
    ∷ []
    )

abbrev pub below_pool : List Entry
below_pool =
    Method 2 3 ∷ Class 4 ∷ NameAndType 5 6 ∷ Utf8 (codes "java/lang/Thread") ∷ Utf8 (codes "<init>")
    ∷ Utf8 (codes "()V") ∷ Method 8 9 ∷ Class 10 ∷ NameAndType 11 6 ∷ Utf8 (codes "Below$C") ∷ Utf8 (codes "touch")
    ∷ Class 13 ∷ Utf8 (codes "Below") ∷ Method 12 3 ∷ Method 12 16 ∷ NameAndType 17 6 ∷ Utf8 (codes "start")
    ∷ Method 19 20 ∷ Class 21 ∷ NameAndType 22 6 ∷ Utf8 (codes "Below$D") ∷ Utf8 (codes "use") ∷ Utf8 (codes "f")
    ∷ Utf8 (codes "I") ∷ Utf8 (codes "Code") ∷ Utf8 (codes "run") ∷ Utf8 (codes "main")
    ∷ Utf8 (codes "([Ljava/lang/String;)V") ∷ Utf8 (codes "InnerClasses") ∷ Utf8 (codes "C") ∷ Utf8 (codes "D") ∷ []

abbrev pub below : FileTree
below =
    file_with 0x0020 below_pool 12 2 [] (field 0x0008 23 24 [] ∷ [])
    (
    method 0x0000 5 6 25 1 1 (hex (codes "2ab70001b1")) []
    ∷ method 0x0001 26 6 25 0 1 (hex (codes "b80007b1")) []
    ∷ method 0x0009 27 28 25 2 1 (hex (codes "bb000c59b7000eb6000fb80012b1")) []
    ∷ []
    )

abbrev pub below_c_pool : List Entry
below_c_pool =
    Method 2 3 ∷ Class 4 ∷ NameAndType 5 6 ∷ Utf8 (codes "java/lang/Object") ∷ Utf8 (codes "<init>")
    ∷ Utf8 (codes "()V") ∷ Field 8 9 ∷ Class 10 ∷ NameAndType 11 12 ∷ Utf8 (codes "Below") ∷ Utf8 (codes "f")
    ∷ Utf8 (codes "I") ∷ Class 14 ∷ Utf8 (codes "Below$C") ∷ Utf8 (codes "Code") ∷ Utf8 (codes "touch")
    ∷ Utf8 (codes "<clinit>") ∷ Utf8 (codes "InnerClasses") ∷ Utf8 (codes "C") ∷ []

abbrev pub below_c : FileTree
below_c =
    file_with 0x0020 below_c_pool 13 2 [] []
    (
    method 0x0000 5 6 15 1 1 (hex (codes "2ab70001b1")) []
    ∷ method 0x0008 16 6 15 0 0 (hex (codes "b1")) []
    ∷ method 0x0008 17 6 15 1 0 (hex (codes "04b30007b1")) []
    ∷ []
    )

abbrev pub below_d_pool : List Entry
below_d_pool =
    Method 2 3 ∷ Class 4 ∷ NameAndType 5 6 ∷ Utf8 (codes "Below$C") ∷ Utf8 (codes "<init>") ∷ Utf8 (codes "()V")
    ∷ Field 8 9 ∷ Class 10 ∷ NameAndType 11 12 ∷ Utf8 (codes "Below") ∷ Utf8 (codes "f") ∷ Utf8 (codes "I")
    ∷ Field 14 15 ∷ Class 16 ∷ NameAndType 17 12 ∷ Utf8 (codes "Below$D") ∷ Utf8 (codes "d") ∷ Utf8 (codes "Code")
    ∷ Utf8 (codes "use") ∷ Utf8 (codes "<clinit>") ∷ Utf8 (codes "InnerClasses") ∷ Utf8 (codes "C") ∷ Utf8 (codes "D")
    ∷ []

abbrev pub below_d : FileTree
below_d =
    file_with 0x0020 below_d_pool 14 2 [] (field 0x0008 17 12 [] ∷ [])
    (
    method 0x0000 5 6 18 1 1 (hex (codes "2ab70001b1")) []
    ∷ method 0x0008 19 6 18 0 0 (hex (codes "b1")) []
    ∷ method 0x0008 20 6 18 1 0 (hex (codes "b20007b3000db1")) []
    ∷ []
    )
