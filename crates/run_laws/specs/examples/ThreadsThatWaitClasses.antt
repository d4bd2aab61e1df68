-- The classes of the program of ThreadsThatWait, as javac compiles them.
use Rattle.std.specs.Prelude.{List, [], ◌∷◌, ◌++◌, codes}
use Rattle.model.specs.Tree.{Entry, Utf8, Class, Field, Method, NameAndType, FileTree}
use Rattle.run_laws.specs.examples.Bytes.{hex}
use Rattle.run_laws.specs.examples.ClassFiles.{field, method, handler, file_with}

abbrev pub class_m_pool : List Entry
class_m_pool =
    Method 2 3 ∷ Class 4 ∷ NameAndType 5 6 ∷ Utf8 (codes "java/lang/Object") ∷ Utf8 (codes "<init>") ∷ Utf8 (codes "()V") ∷ Class 8
    ∷ Utf8 (codes "Begins") ∷ Method 7 3 ∷ Class 11 ∷ Utf8 (codes "Calls") ∷ Class 13 ∷ Utf8 (codes "Waits") ∷ Method 12 3 ∷ Method 12 16
    ∷ NameAndType 17 6 ∷ Utf8 (codes "start") ∷ Method 10 3 ∷ Method 10 16 ∷ Class 21 ∷ Utf8 (codes "Enters") ∷ Method 20 3 ∷ Method 20 16
    ∷ Class 25 ∷ Utf8 (codes "Touches") ∷ Method 24 3 ∷ Method 24 16 ∷ Class 29 ∷ Utf8 (codes "TouchesBelow") ∷ Method 28 3 ∷ Method 28 16
    ∷ Method 7 16 ∷ Method 12 34 ∷ NameAndType 35 6 ∷ Utf8 (codes "join") ∷ Class 37 ∷ Utf8 (codes "M") ∷ Utf8 (codes "Code")
    ∷ Utf8 (codes "main") ∷ Utf8 (codes "([Ljava/lang/String;)V") ∷ Utf8 (codes "StackMapTable") ∷ Class 43
    ∷ Utf8 (codes "[Ljava/lang/String;") ∷ Class 45 ∷ Utf8 (codes "java/lang/Throwable") ∷ Utf8 (codes "Exceptions") ∷ Class 48
    ∷ Utf8 (codes "java/lang/InterruptedException") ∷ []

abbrev pub class_m : FileTree
class_m =
    file_with 0x0020 class_m_pool 36 2 [] []
    (
    method 0x0000 5 6 38 1 1
    (hex (codes "2ab70001b1"))
    []
    ∷ method 0x0009 39 40 38 2 7
    (hex (codes "bb000759b700094c120a594dc22b594ec2bb000c59b7000e3a041904b6000fbb000a59b70012b60013bb001459b70016b60017bb001859b7")
    ++ hex (codes "001ab6001bbb001859b7001ab6001bbb001c59b7001eb6001f2bb600201904b600212dc3a7000a3a052dc31905bf2cc3a7000a3a062cc319")
    ++ hex (codes "06bfb1"))
    (handler 17 92 95 0 ∷ handler 95 99 95 0 ∷ handler 13 104 107 0 ∷ handler 107 111 107 0 ∷ [])
    ∷ []
    )

abbrev pub class_waits_pool : List Entry
class_waits_pool =
    Method 2 3 ∷ Class 4 ∷ NameAndType 5 6 ∷ Utf8 (codes "java/lang/Thread") ∷ Utf8 (codes "<init>") ∷ Utf8 (codes "()V") ∷ Method 8 9
    ∷ Class 10 ∷ NameAndType 11 6 ∷ Utf8 (codes "java/lang/Object") ∷ Utf8 (codes "wait") ∷ Class 13
    ∷ Utf8 (codes "java/lang/InterruptedException") ∷ Class 15 ∷ Utf8 (codes "Waits") ∷ Utf8 (codes "Code") ∷ Utf8 (codes "run")
    ∷ Utf8 (codes "StackMapTable") ∷ Class 20 ∷ Utf8 (codes "java/lang/Throwable") ∷ []

abbrev pub class_waits : FileTree
class_waits =
    file_with 0x0020 class_waits_pool 14 2 [] []
    (
    method 0x0000 5 6 16 1 1
    (hex (codes "2ab70001b1"))
    []
    ∷ method 0x0001 17 6 16 2 3
    (hex (codes "2a594cc22ab600072bc3a700084d2bc32cbfa700044cb1"))
    (handler 4 10 13 0 ∷ handler 13 16 13 0 ∷ handler 0 18 21 12 ∷ [])
    ∷ []
    )

abbrev pub class_calls_pool : List Entry
class_calls_pool =
    Method 2 3 ∷ Class 4 ∷ NameAndType 5 6 ∷ Utf8 (codes "java/lang/Thread") ∷ Utf8 (codes "<init>") ∷ Utf8 (codes "()V") ∷ Method 8 9
    ∷ Class 10 ∷ NameAndType 11 6 ∷ Utf8 (codes "Calls") ∷ Utf8 (codes "f") ∷ Utf8 (codes "Code") ∷ Utf8 (codes "run") ∷ []

abbrev pub class_calls : FileTree
class_calls =
    file_with 0x0020 class_calls_pool 8 2 [] []
    (
    method 0x0000 5 6 12 1 1
    (hex (codes "2ab70001b1"))
    []
    ∷ method 0x0028 11 6 12 0 0
    (hex (codes "b1"))
    []
    ∷ method 0x0001 13 6 12 0 1
    (hex (codes "b80007b1"))
    []
    ∷ []
    )

abbrev pub class_enters_pool : List Entry
class_enters_pool =
    Method 2 3 ∷ Class 4 ∷ NameAndType 5 6 ∷ Utf8 (codes "java/lang/Thread") ∷ Utf8 (codes "<init>") ∷ Utf8 (codes "()V") ∷ Class 8
    ∷ Utf8 (codes "Calls") ∷ Class 10 ∷ Utf8 (codes "Enters") ∷ Utf8 (codes "Code") ∷ Utf8 (codes "run") ∷ Utf8 (codes "StackMapTable")
    ∷ Class 15 ∷ Utf8 (codes "java/lang/Object") ∷ Class 17 ∷ Utf8 (codes "java/lang/Throwable") ∷ []

abbrev pub class_enters : FileTree
class_enters =
    file_with 0x0020 class_enters_pool 9 2 [] []
    (
    method 0x0000 5 6 11 1 1
    (hex (codes "2ab70001b1"))
    []
    ∷ method 0x0001 12 6 11 2 3
    (hex (codes "1207594cc22bc3a700084d2bc32cbfb1"))
    (handler 5 7 10 0 ∷ handler 10 13 10 0 ∷ [])
    ∷ []
    )

abbrev pub class_slow_pool : List Entry
class_slow_pool =
    Method 2 3 ∷ Class 4 ∷ NameAndType 5 6 ∷ Utf8 (codes "java/lang/Object") ∷ Utf8 (codes "<init>") ∷ Utf8 (codes "()V") ∷ Class 8
    ∷ Utf8 (codes "Slow") ∷ Method 2 10 ∷ NameAndType 11 6 ∷ Utf8 (codes "wait") ∷ Class 13 ∷ Utf8 (codes "java/lang/InterruptedException")
    ∷ Utf8 (codes "n") ∷ Utf8 (codes "I") ∷ Utf8 (codes "Code") ∷ Utf8 (codes "<clinit>") ∷ Utf8 (codes "StackMapTable") ∷ Class 20
    ∷ Utf8 (codes "java/lang/Throwable") ∷ []

abbrev pub class_slow : FileTree
class_slow =
    file_with 0x0020 class_slow_pool 7 2 []
    (
    field 0x0008 14 15 []
    ∷ []
    )
    (
    method 0x0000 5 6 16 1 1
    (hex (codes "2ab70001b1"))
    []
    ∷ method 0x0008 17 6 16 2 2
    (hex (codes "1207594bc21207b600092ac3a700084c2ac32bbfa700044bb1"))
    (handler 5 12 15 0 ∷ handler 15 18 15 0 ∷ handler 0 20 23 12 ∷ [])
    ∷ []
    )

abbrev pub class_below_pool : List Entry
class_below_pool =
    Method 2 3 ∷ Class 4 ∷ NameAndType 5 6 ∷ Utf8 (codes "Slow") ∷ Utf8 (codes "<init>") ∷ Utf8 (codes "()V") ∷ Class 8
    ∷ Utf8 (codes "Below") ∷ Utf8 (codes "k") ∷ Utf8 (codes "I") ∷ Utf8 (codes "Code") ∷ []

abbrev pub class_below : FileTree
class_below =
    file_with 0x0020 class_below_pool 7 2 []
    (
    field 0x0008 9 10 []
    ∷ []
    )
    (
    method 0x0000 5 6 11 1 1
    (hex (codes "2ab70001b1"))
    []
    ∷ []
    )

abbrev pub class_touches_pool : List Entry
class_touches_pool =
    Method 2 3 ∷ Class 4 ∷ NameAndType 5 6 ∷ Utf8 (codes "java/lang/Thread") ∷ Utf8 (codes "<init>") ∷ Utf8 (codes "()V") ∷ Field 8 9
    ∷ Class 10 ∷ NameAndType 11 12 ∷ Utf8 (codes "Slow") ∷ Utf8 (codes "n") ∷ Utf8 (codes "I") ∷ Class 14 ∷ Utf8 (codes "Touches")
    ∷ Utf8 (codes "Code") ∷ Utf8 (codes "run") ∷ []

abbrev pub class_touches : FileTree
class_touches =
    file_with 0x0020 class_touches_pool 13 2 [] []
    (
    method 0x0000 5 6 15 1 1
    (hex (codes "2ab70001b1"))
    []
    ∷ method 0x0001 16 6 15 1 1
    (hex (codes "04b30007b1"))
    []
    ∷ []
    )

abbrev pub class_touchesbelow_pool : List Entry
class_touchesbelow_pool =
    Method 2 3 ∷ Class 4 ∷ NameAndType 5 6 ∷ Utf8 (codes "java/lang/Thread") ∷ Utf8 (codes "<init>") ∷ Utf8 (codes "()V") ∷ Field 8 9
    ∷ Class 10 ∷ NameAndType 11 12 ∷ Utf8 (codes "Below") ∷ Utf8 (codes "k") ∷ Utf8 (codes "I") ∷ Class 14 ∷ Utf8 (codes "TouchesBelow")
    ∷ Utf8 (codes "Code") ∷ Utf8 (codes "run") ∷ []

abbrev pub class_touchesbelow : FileTree
class_touchesbelow =
    file_with 0x0020 class_touchesbelow_pool 13 2 [] []
    (
    method 0x0000 5 6 15 1 1
    (hex (codes "2ab70001b1"))
    []
    ∷ method 0x0001 16 6 15 1 1
    (hex (codes "04b30007b1"))
    []
    ∷ []
    )

abbrev pub class_begins_pool : List Entry
class_begins_pool =
    Method 2 3 ∷ Class 4 ∷ NameAndType 5 6 ∷ Utf8 (codes "java/lang/Thread") ∷ Utf8 (codes "<init>") ∷ Utf8 (codes "()V") ∷ Class 8
    ∷ Utf8 (codes "Begins") ∷ Utf8 (codes "Code") ∷ Utf8 (codes "run") ∷ []

abbrev pub class_begins : FileTree
class_begins =
    file_with 0x0020 class_begins_pool 7 2 [] []
    (
    method 0x0000 5 6 9 1 1
    (hex (codes "2ab70001b1"))
    []
    ∷ method 0x0021 10 6 9 0 1
    (hex (codes "b1"))
    []
    ∷ []
    )
