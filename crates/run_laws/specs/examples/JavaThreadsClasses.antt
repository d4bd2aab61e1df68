-- The classes of the program of JavaThreads, as javac compiles them.
use Rattle.std.specs.Prelude.{List, [], ◌∷◌, ◌++◌, codes}
use Rattle.model.specs.Tree.{Entry, Utf8, Class, Field, Method, NameAndType, FileTree}
use Rattle.run_laws.specs.examples.Bytes.{hex}
use Rattle.run_laws.specs.examples.ClassFiles.{field, method, handler, file_with}

abbrev pub class_m_pool : List Entry
class_m_pool =
    Method 2 3 ∷ Class 4 ∷ NameAndType 5 6 ∷ Utf8 (codes "java/lang/Object") ∷ Utf8 (codes "<init>") ∷ Utf8 (codes "()V") ∷ Field 8 9
    ∷ Class 10 ∷ NameAndType 11 12 ∷ Utf8 (codes "java/lang/System") ∷ Utf8 (codes "out") ∷ Utf8 (codes "Ljava/io/PrintStream;")
    ∷ Method 14 15 ∷ Class 16 ∷ NameAndType 17 18 ∷ Utf8 (codes "java/io/PrintStream") ∷ Utf8 (codes "println") ∷ Utf8 (codes "(I)V")
    ∷ Class 20 ∷ Utf8 (codes "Box") ∷ Method 19 3 ∷ Class 23 ∷ Utf8 (codes "Producer") ∷ Method 22 25 ∷ NameAndType 5 26
    ∷ Utf8 (codes "(LBox;I)V") ∷ Method 22 28 ∷ NameAndType 29 6 ∷ Utf8 (codes "start") ∷ Method 19 31 ∷ NameAndType 32 33
    ∷ Utf8 (codes "take") ∷ Utf8 (codes "()I") ∷ Method 35 36 ∷ Class 37 ∷ NameAndType 38 18 ∷ Utf8 (codes "M") ∷ Utf8 (codes "p")
    ∷ Method 22 40 ∷ NameAndType 41 6 ∷ Utf8 (codes "join") ∷ Method 22 43 ∷ NameAndType 44 45 ∷ Utf8 (codes "isAlive")
    ∷ Utf8 (codes "()Z") ∷ Method 35 47 ∷ NameAndType 38 48 ∷ Utf8 (codes "(Z)V") ∷ Class 50 ∷ Utf8 (codes "Poker") ∷ Method 52 53
    ∷ Class 54 ∷ NameAndType 55 56 ∷ Utf8 (codes "java/lang/Thread") ∷ Utf8 (codes "currentThread") ∷ Utf8 (codes "()Ljava/lang/Thread;")
    ∷ Method 49 58 ∷ NameAndType 5 59 ∷ Utf8 (codes "(Ljava/lang/Thread;LBox;)V") ∷ Method 49 28 ∷ Method 49 40 ∷ Class 63
    ∷ Utf8 (codes "java/lang/InterruptedException") ∷ Method 52 65 ∷ NameAndType 66 45 ∷ Utf8 (codes "isInterrupted") ∷ Method 19 68
    ∷ NameAndType 69 18 ∷ Utf8 (codes "put") ∷ Class 71 ∷ Utf8 (codes "Counter") ∷ Method 70 3 ∷ Method 70 28 ∷ Method 70 40 ∷ Field 70 76
    ∷ NameAndType 77 78 ∷ Utf8 (codes "n") ∷ Utf8 (codes "I") ∷ Class 80 ∷ Utf8 (codes "Waiter") ∷ Method 79 3 ∷ Method 52 83
    ∷ NameAndType 5 84 ∷ Utf8 (codes "(Ljava/lang/Runnable;)V") ∷ Method 52 28 ∷ Method 52 87 ∷ NameAndType 88 6 ∷ Utf8 (codes "interrupt")
    ∷ Method 52 40 ∷ Class 91 ∷ Utf8 (codes "Boom") ∷ Method 90 3 ∷ Method 90 28 ∷ Method 90 40 ∷ Class 96 ∷ Utf8 (codes "Toucher")
    ∷ Method 95 3 ∷ Method 95 28 ∷ Method 95 40 ∷ Field 35 101 ∷ NameAndType 102 103 ∷ Utf8 (codes "started") ∷ Utf8 (codes "Z")
    ∷ Method 2 105 ∷ NameAndType 106 6 ∷ Utf8 (codes "wait") ∷ Method 52 43 ∷ Field 19 109 ∷ NameAndType 110 103 ∷ Utf8 (codes "full")
    ∷ Utf8 (codes "Code") ∷ Utf8 (codes "StackMapTable") ∷ Utf8 (codes "main") ∷ Utf8 (codes "([Ljava/lang/String;)V") ∷ Class 116
    ∷ Utf8 (codes "[Ljava/lang/String;") ∷ Class 118 ∷ Utf8 (codes "[LCounter;") ∷ Class 120 ∷ Utf8 (codes "java/lang/Throwable")
    ∷ Utf8 (codes "Exceptions") ∷ []

abbrev pub class_m : FileTree
class_m =
    file_with 0x0020 class_m_pool 35 2 []
    (
    field 0x0008 102 103 []
    ∷ []
    )
    (
    method 0x0000 5 6 111 1 1
    (hex (codes "2ab70001b1"))
    []
    ∷ method 0x0008 38 18 111 2 1
    (hex (codes "b200071ab6000db1"))
    []
    ∷ method 0x0008 38 48 111 2 1
    (hex (codes "b200071a99000704a7000403b6000db1"))
    []
    ∷ method 0x0009 113 114 111 4 13
    (hex (codes "bb001359b700154cbb0016592b100ab700184d2cb6001b033e1d07a200102bb6001eb80022840301a7fff12cb600272cb6002ab8002ebb00")
    ++ hex (codes "1359b700154ebb003159b800332db700393a041904b6003c1904b6003d10fdb80022a700133a051029b80022b80033b60040b8002e2d04b6")
    ++ hex (codes "00431904b6003d05bd00463a05033606150605a2001d19051506bb004659b70048531905150632b60049840601a7ffe3033606150605a200")
    ++ hex (codes "111905150632b6004a840601a7ffefb2004bb80022bb003459bb004f59b70051b700523a061906b600551906b600561906b60059bb005a59")
    ++ hex (codes "b7005c3a071907b6005d1907b6005ebb005f59b700613a08bb005f59b700613a091908b600621909b600621908b600631909b60063b20064")
    ++ hex (codes "b8002ebb0016592b1014b700183a0a190a593a0bc2190ab60055190ab60068190bc3a7000b3a0c190bc3190cbf190ab6006bb8002e2bb400")
    ++ hex (codes "6cb8002eb1"))
    (handler 80 90 93 62 ∷ handler 301 314 317 0 ∷ handler 317 322 317 0 ∷ [])
    ∷ []
    )

abbrev pub class_boom_pool : List Entry
class_boom_pool =
    Method 2 3 ∷ Class 4 ∷ NameAndType 5 6 ∷ Utf8 (codes "java/lang/Thread") ∷ Utf8 (codes "<init>") ∷ Utf8 (codes "()V") ∷ Method 8 9
    ∷ Class 10 ∷ NameAndType 11 6 ∷ Utf8 (codes "Boom") ∷ Utf8 (codes "f") ∷ Class 13
    ∷ Utf8 (codes "java/lang/ArrayIndexOutOfBoundsException") ∷ Method 15 16 ∷ Class 17 ∷ NameAndType 18 19 ∷ Utf8 (codes "M")
    ∷ Utf8 (codes "p") ∷ Utf8 (codes "(I)V") ∷ Utf8 (codes "Code") ∷ Utf8 (codes "run") ∷ Utf8 (codes "StackMapTable") ∷ Class 24
    ∷ Utf8 (codes "java/lang/Object") ∷ Class 26 ∷ Utf8 (codes "java/lang/Throwable") ∷ []

abbrev pub class_boom : FileTree
class_boom =
    file_with 0x0020 class_boom_pool 8 2 [] []
    (
    method 0x0000 5 6 20 1 1
    (hex (codes "2ab70001b1"))
    []
    ∷ method 0x0028 11 6 20 4 1
    (hex (codes "03bc0a4b2a035c2e04604fb1"))
    []
    ∷ method 0x0001 21 6 20 2 3
    (hex (codes "b80007a700084c08b8000e1208594cc21006b8000e2bc3a700084d2bc32cbf01bf"))
    (handler 0 3 6 12 ∷ handler 16 23 26 0 ∷ handler 26 29 26 0 ∷ [])
    ∷ []
    )

abbrev pub class_box_pool : List Entry
class_box_pool =
    Method 2 3 ∷ Class 4 ∷ NameAndType 5 6 ∷ Utf8 (codes "java/lang/Object") ∷ Utf8 (codes "<init>") ∷ Utf8 (codes "()V") ∷ Field 8 9
    ∷ Class 10 ∷ NameAndType 11 12 ∷ Utf8 (codes "Box") ∷ Utf8 (codes "full") ∷ Utf8 (codes "Z") ∷ Method 2 14 ∷ NameAndType 15 6
    ∷ Utf8 (codes "wait") ∷ Field 8 17 ∷ NameAndType 18 19 ∷ Utf8 (codes "value") ∷ Utf8 (codes "I") ∷ Method 2 21 ∷ NameAndType 22 6
    ∷ Utf8 (codes "notifyAll") ∷ Utf8 (codes "Code") ∷ Utf8 (codes "put") ∷ Utf8 (codes "(I)V") ∷ Utf8 (codes "StackMapTable")
    ∷ Utf8 (codes "Exceptions") ∷ Class 29 ∷ Utf8 (codes "java/lang/InterruptedException") ∷ Utf8 (codes "take") ∷ Utf8 (codes "()I") ∷ []

abbrev pub class_box : FileTree
class_box =
    file_with 0x0020 class_box_pool 8 2 []
    (
    field 0x0000 18 19 []
    ∷ field 0x0000 11 12 []
    ∷ []
    )
    (
    method 0x0000 5 6 23 1 1
    (hex (codes "2ab70001b1"))
    []
    ∷ method 0x0020 24 25 23 2 2
    (hex (codes "2ab4000799000a2ab6000da7fff52a1bb500102a04b500072ab60014b1"))
    []
    ∷ method 0x0020 30 31 23 2 1
    (hex (codes "2ab400079a000a2ab6000da7fff52a03b500072ab600142ab40010ac"))
    []
    ∷ []
    )

abbrev pub class_counter_pool : List Entry
class_counter_pool =
    Method 2 3 ∷ Class 4 ∷ NameAndType 5 6 ∷ Utf8 (codes "java/lang/Thread") ∷ Utf8 (codes "<init>") ∷ Utf8 (codes "()V") ∷ Field 8 9
    ∷ Class 10 ∷ NameAndType 11 12 ∷ Utf8 (codes "Counter") ∷ Utf8 (codes "n") ∷ Utf8 (codes "I") ∷ Method 8 14 ∷ NameAndType 15 6
    ∷ Utf8 (codes "inc") ∷ Utf8 (codes "Code") ∷ Utf8 (codes "run") ∷ Utf8 (codes "StackMapTable") ∷ Class 20
    ∷ Utf8 (codes "java/lang/Object") ∷ Class 22 ∷ Utf8 (codes "java/lang/Throwable") ∷ []

abbrev pub class_counter : FileTree
class_counter =
    file_with 0x0020 class_counter_pool 8 2 []
    (
    field 0x0008 11 12 []
    ∷ []
    )
    (
    method 0x0000 5 6 16 1 1
    (hex (codes "2ab70001b1"))
    []
    ∷ method 0x0028 15 6 16 2 0
    (hex (codes "b200070460b30007b1"))
    []
    ∷ method 0x0001 17 6 16 2 4
    (hex (codes "033c1b08a2002c1b05709a0009b8000da7001a1208594dc2b200070460b300072cc3a700084e2cc32dbf840101a7ffd5b1"))
    (handler 24 34 37 0 ∷ handler 37 40 37 0 ∷ [])
    ∷ []
    )

abbrev pub class_poker_pool : List Entry
class_poker_pool =
    Method 2 3 ∷ Class 4 ∷ NameAndType 5 6 ∷ Utf8 (codes "java/lang/Thread") ∷ Utf8 (codes "<init>") ∷ Utf8 (codes "()V") ∷ Field 8 9
    ∷ Class 10 ∷ NameAndType 11 12 ∷ Utf8 (codes "Poker") ∷ Utf8 (codes "target") ∷ Utf8 (codes "Ljava/lang/Thread;") ∷ Field 8 14
    ∷ NameAndType 15 16 ∷ Utf8 (codes "done") ∷ Utf8 (codes "LBox;") ∷ Method 2 18 ∷ NameAndType 19 6 ∷ Utf8 (codes "interrupt")
    ∷ Method 21 22 ∷ Class 23 ∷ NameAndType 24 25 ∷ Utf8 (codes "Box") ∷ Utf8 (codes "take") ∷ Utf8 (codes "()I") ∷ Class 27
    ∷ Utf8 (codes "java/lang/InterruptedException") ∷ Utf8 (codes "(Ljava/lang/Thread;LBox;)V") ∷ Utf8 (codes "Code") ∷ Utf8 (codes "run")
    ∷ Utf8 (codes "StackMapTable") ∷ []

abbrev pub class_poker : FileTree
class_poker =
    file_with 0x0020 class_poker_pool 8 2 []
    (
    field 0x0000 11 12 []
    ∷ field 0x0000 15 16 []
    ∷ []
    )
    (
    method 0x0000 5 28 29 2 3
    (hex (codes "2ab700012a2bb500072a2cb5000db1"))
    []
    ∷ method 0x0001 30 6 29 1 2
    (hex (codes "2ab40007b600112ab4000db6001457a700044cb1"))
    (handler 7 15 18 26 ∷ [])
    ∷ []
    )

abbrev pub class_producer_pool : List Entry
class_producer_pool =
    Method 2 3 ∷ Class 4 ∷ NameAndType 5 6 ∷ Utf8 (codes "java/lang/Thread") ∷ Utf8 (codes "<init>") ∷ Utf8 (codes "()V") ∷ Field 8 9
    ∷ Class 10 ∷ NameAndType 11 12 ∷ Utf8 (codes "Producer") ∷ Utf8 (codes "box") ∷ Utf8 (codes "LBox;") ∷ Field 8 14 ∷ NameAndType 15 16
    ∷ Utf8 (codes "from") ∷ Utf8 (codes "I") ∷ Field 8 18 ∷ NameAndType 19 16 ∷ Utf8 (codes "n") ∷ Method 21 22 ∷ Class 23
    ∷ NameAndType 24 25 ∷ Utf8 (codes "Box") ∷ Utf8 (codes "put") ∷ Utf8 (codes "(I)V") ∷ Class 27
    ∷ Utf8 (codes "java/lang/InterruptedException") ∷ Field 29 30 ∷ Class 31 ∷ NameAndType 32 33 ∷ Utf8 (codes "java/lang/System")
    ∷ Utf8 (codes "out") ∷ Utf8 (codes "Ljava/io/PrintStream;") ∷ Method 35 36 ∷ Class 37 ∷ NameAndType 38 25
    ∷ Utf8 (codes "java/io/PrintStream") ∷ Utf8 (codes "println") ∷ Utf8 (codes "(LBox;I)V") ∷ Utf8 (codes "Code")
    ∷ Utf8 (codes "StackMapTable") ∷ Utf8 (codes "run") ∷ []

abbrev pub class_producer : FileTree
class_producer =
    file_with 0x0020 class_producer_pool 8 2 []
    (
    field 0x0000 11 12 []
    ∷ field 0x0000 15 16 []
    ∷ field 0x0000 19 16 []
    ∷ []
    )
    (
    method 0x0000 5 39 40 3 3
    (hex (codes "2ab700012a2bb500072a1cb5000d2a1c100aa0000707a7000404b50011b1"))
    []
    ∷ method 0x0001 42 6 40 3 2
    (hex (codes "033c1b2ab40011a200162ab400072ab4000d1b60b60014840101a7ffe8a7000b4cb2001c02b60022b1"))
    (handler 0 29 32 26 ∷ [])
    ∷ []
    )

abbrev pub class_slow_pool : List Entry
class_slow_pool =
    Method 2 3 ∷ Class 4 ∷ NameAndType 5 6 ∷ Utf8 (codes "java/lang/Object") ∷ Utf8 (codes "<init>") ∷ Utf8 (codes "()V") ∷ Method 8 9
    ∷ Class 10 ∷ NameAndType 11 12 ∷ Utf8 (codes "M") ∷ Utf8 (codes "p") ∷ Utf8 (codes "(I)V") ∷ Field 8 14 ∷ NameAndType 15 16
    ∷ Utf8 (codes "started") ∷ Utf8 (codes "Z") ∷ Class 18 ∷ Utf8 (codes "Slow") ∷ Utf8 (codes "Code") ∷ Utf8 (codes "touch")
    ∷ Utf8 (codes "<clinit>") ∷ []

abbrev pub class_slow : FileTree
class_slow =
    file_with 0x0020 class_slow_pool 17 2 [] []
    (
    method 0x0000 5 6 19 1 1
    (hex (codes "2ab70001b1"))
    []
    ∷ method 0x0008 20 6 19 1 0
    (hex (codes "1047b80007b1"))
    []
    ∷ method 0x0008 21 6 19 1 0
    (hex (codes "1046b8000704b3000db1"))
    []
    ∷ []
    )

abbrev pub class_toucher_pool : List Entry
class_toucher_pool =
    Method 2 3 ∷ Class 4 ∷ NameAndType 5 6 ∷ Utf8 (codes "java/lang/Thread") ∷ Utf8 (codes "<init>") ∷ Utf8 (codes "()V") ∷ Method 8 9
    ∷ Class 10 ∷ NameAndType 11 6 ∷ Utf8 (codes "Slow") ∷ Utf8 (codes "touch") ∷ Class 13 ∷ Utf8 (codes "Toucher") ∷ Utf8 (codes "Code")
    ∷ Utf8 (codes "run") ∷ []

abbrev pub class_toucher : FileTree
class_toucher =
    file_with 0x0020 class_toucher_pool 12 2 [] []
    (
    method 0x0000 5 6 14 1 1
    (hex (codes "2ab70001b1"))
    []
    ∷ method 0x0001 15 6 14 0 1
    (hex (codes "b80007b1"))
    []
    ∷ []
    )

abbrev pub class_waiter_pool : List Entry
class_waiter_pool =
    Method 2 3 ∷ Class 4 ∷ NameAndType 5 6 ∷ Utf8 (codes "java/lang/Object") ∷ Utf8 (codes "<init>") ∷ Utf8 (codes "()V") ∷ Method 2 8
    ∷ NameAndType 9 6 ∷ Utf8 (codes "wait") ∷ Field 11 12 ∷ Class 13 ∷ NameAndType 14 15 ∷ Utf8 (codes "java/lang/System")
    ∷ Utf8 (codes "out") ∷ Utf8 (codes "Ljava/io/PrintStream;") ∷ Method 17 18 ∷ Class 19 ∷ NameAndType 20 21
    ∷ Utf8 (codes "java/io/PrintStream") ∷ Utf8 (codes "println") ∷ Utf8 (codes "(I)V") ∷ Class 23
    ∷ Utf8 (codes "java/lang/InterruptedException") ∷ Method 25 26 ∷ Class 27 ∷ NameAndType 28 29 ∷ Utf8 (codes "java/lang/Thread")
    ∷ Utf8 (codes "currentThread") ∷ Utf8 (codes "()Ljava/lang/Thread;") ∷ Method 25 31 ∷ NameAndType 32 33 ∷ Utf8 (codes "isInterrupted")
    ∷ Utf8 (codes "()Z") ∷ Method 35 36 ∷ Class 37 ∷ NameAndType 38 39 ∷ Utf8 (codes "M") ∷ Utf8 (codes "p") ∷ Utf8 (codes "(Z)V")
    ∷ Class 41 ∷ Utf8 (codes "Waiter") ∷ Class 43 ∷ Utf8 (codes "java/lang/Runnable") ∷ Utf8 (codes "Code") ∷ Utf8 (codes "run")
    ∷ Utf8 (codes "StackMapTable") ∷ Class 48 ∷ Utf8 (codes "java/lang/Throwable") ∷ []

abbrev pub class_waiter : FileTree
class_waiter =
    file_with 0x0020 class_waiter_pool 40 2 (42 ∷ []) []
    (
    method 0x0000 5 6 44 1 1
    (hex (codes "2ab70001b1"))
    []
    ∷ method 0x0001 45 6 44 2 4
    (hex (codes "2a594cc22ab60007b2000a10feb60010a7000d4db80018b6001eb800222bc3a700084e2bc32dbfb1"))
    (handler 4 16 19 22 ∷ handler 4 31 34 0 ∷ handler 34 37 34 0 ∷ [])
    ∷ []
    )
