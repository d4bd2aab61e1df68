-- The classes of the program of JavaCalls.
use Rattle.std.specs.Prelude.{List, [], ◌∷◌, codes}
use Rattle.model.specs.Tree.{Entry, Utf8, Class, Field, Method, InterfaceMethod, NameAndType, FileTree}
use Rattle.run_laws.specs.examples.Bytes.{hex}
use Rattle.run_laws.specs.examples.ClassFiles.{method, handler, file_with, no_code}

abbrev pub class_m_pool : List Entry
class_m_pool =
    Method 2 3 ∷ Class 4 ∷ NameAndType 5 6 ∷ Utf8 (codes "java/lang/Object") ∷ Utf8 (codes "<init>") ∷ Utf8 (codes "()V") ∷ Field 8 9
    ∷ Class 10 ∷ NameAndType 11 12 ∷ Utf8 (codes "java/lang/System") ∷ Utf8 (codes "out") ∷ Utf8 (codes "Ljava/io/PrintStream;")
    ∷ Method 14 15 ∷ Class 16 ∷ NameAndType 17 18 ∷ Utf8 (codes "java/io/PrintStream") ∷ Utf8 (codes "println") ∷ Utf8 (codes "(I)V")
    ∷ InterfaceMethod 20 21 ∷ Class 22 ∷ NameAndType 23 24 ∷ Utf8 (codes "I") ∷ Utf8 (codes "a") ∷ Utf8 (codes "()I") ∷ Method 26 27
    ∷ Class 28 ∷ NameAndType 29 18 ∷ Utf8 (codes "M") ∷ Utf8 (codes "p") ∷ Class 31 ∷ Utf8 (codes "java/lang/AbstractMethodError")
    ∷ Class 33 ∷ Utf8 (codes "java/lang/IncompatibleClassChangeError") ∷ Class 35 ∷ Utf8 (codes "Q") ∷ Method 34 3 ∷ Method 34 38
    ∷ NameAndType 39 24 ∷ Utf8 (codes "g") ∷ Method 34 41 ∷ NameAndType 42 24 ∷ Utf8 (codes "f") ∷ Method 34 44 ∷ NameAndType 45 24
    ∷ Utf8 (codes "callK") ∷ Method 34 47 ∷ NameAndType 48 24 ∷ Utf8 (codes "callSuper") ∷ Class 50 ∷ Utf8 (codes "C") ∷ Method 49 3
    ∷ Method 26 53 ∷ NameAndType 54 55 ∷ Utf8 (codes "b") ∷ Utf8 (codes "(LI;)V") ∷ Utf8 (codes "Code") ∷ Utf8 (codes "StackMapTable")
    ∷ Utf8 (codes "main") ∷ Utf8 (codes "([Ljava/lang/String;)V") ∷ Class 61 ∷ Utf8 (codes "[Ljava/lang/String;") ∷ []

abbrev pub class_m : FileTree
class_m =
    file_with 0x0020 class_m_pool 26 2 [] []
    (
    method 0x0000 5 6 56 1 1
    (hex (codes "2ab70001b1"))
    []
    ∷ method 0x0008 29 18 56 2 1
    (hex (codes "b200071ab6000db1"))
    []
    ∷ method 0x0008 54 55 56 1 2
    (hex (codes "2ab900130100b80019a700114c02b80019a700094c10feb80019b1"))
    (handler 0 9 12 30 ∷ handler 0 9 20 32 ∷ [])
    ∷ method 0x0009 58 59 56 2 3
    (hex (codes "bb002259b700244c2bb60025b800192bb60028b800192bb6002bb800192bb6002eb80019a700094d10fdb80019bb003159b70033b80034b1"))
    (handler 29 36 39 30 ∷ [])
    ∷ []
    )

abbrev pub class_i_pool : List Entry
class_i_pool =
    Class 2 ∷ Utf8 (codes "I") ∷ Class 4 ∷ Utf8 (codes "java/lang/Object") ∷ Utf8 (codes "a") ∷ Utf8 (codes "()I") ∷ []

abbrev pub class_i : FileTree
class_i =
    file_with 0x0600 class_i_pool 1 3 [] []
    (
    no_code 0x0401 5 6
    ∷ []
    )

abbrev pub class_p_pool : List Entry
class_p_pool =
    Method 2 3 ∷ Class 4 ∷ NameAndType 5 6 ∷ Utf8 (codes "java/lang/Object") ∷ Utf8 (codes "<init>") ∷ Utf8 (codes "()V") ∷ Method 8 9
    ∷ Class 10 ∷ NameAndType 11 12 ∷ Utf8 (codes "P") ∷ Utf8 (codes "k") ∷ Utf8 (codes "()I") ∷ Utf8 (codes "Code") ∷ Utf8 (codes "f")
    ∷ Utf8 (codes "h") ∷ Utf8 (codes "callK") ∷ []

abbrev pub class_p : FileTree
class_p =
    file_with 0x0420 class_p_pool 8 2 [] []
    (
    method 0x0000 5 6 13 1 1
    (hex (codes "2ab70001b1"))
    []
    ∷ method 0x0000 14 12 13 1 1
    (hex (codes "04ac"))
    []
    ∷ no_code 0x0400 15 12
    ∷ method 0x0002 11 12 13 1 1
    (hex (codes "08ac"))
    []
    ∷ method 0x0000 16 12 13 1 1
    (hex (codes "2ab70007ac"))
    []
    ∷ []
    )

abbrev pub class_s_pool : List Entry
class_s_pool =
    Method 2 3 ∷ Class 4 ∷ NameAndType 5 6 ∷ Utf8 (codes "P") ∷ Utf8 (codes "<init>") ∷ Utf8 (codes "()V") ∷ Class 8 ∷ Utf8 (codes "S")
    ∷ Utf8 (codes "Code") ∷ Utf8 (codes "f") ∷ Utf8 (codes "()I") ∷ Utf8 (codes "k") ∷ []

abbrev pub class_s : FileTree
class_s =
    file_with 0x0020 class_s_pool 7 2 [] []
    (
    method 0x0000 5 6 9 1 1
    (hex (codes "2ab70001b1"))
    []
    ∷ method 0x0000 10 11 9 1 1
    (hex (codes "05ac"))
    []
    ∷ method 0x0002 12 11 9 1 1
    (hex (codes "1006ac"))
    []
    ∷ []
    )

abbrev pub class_q_pool : List Entry
class_q_pool =
    Method 2 3 ∷ Class 4 ∷ NameAndType 5 6 ∷ Utf8 (codes "S") ∷ Utf8 (codes "<init>") ∷ Utf8 (codes "()V") ∷ Class 8 ∷ Utf8 (codes "P")
    ∷ Method 7 10 ∷ NameAndType 11 12 ∷ Utf8 (codes "f") ∷ Utf8 (codes "()I") ∷ Method 2 14 ∷ NameAndType 15 12 ∷ Utf8 (codes "h")
    ∷ Class 17 ∷ Utf8 (codes "Q") ∷ Utf8 (codes "Code") ∷ Utf8 (codes "g") ∷ Utf8 (codes "callSuper") ∷ []

abbrev pub class_q : FileTree
class_q =
    file_with 0x0020 class_q_pool 16 2 [] []
    (
    method 0x0000 5 6 18 1 1
    (hex (codes "2ab70001b1"))
    []
    ∷ method 0x0000 11 12 18 1 1
    (hex (codes "06ac"))
    []
    ∷ method 0x0000 19 12 18 1 2
    (hex (codes "12074c2ab70009ac"))
    []
    ∷ method 0x0000 20 12 18 1 1
    (hex (codes "2ab7000dac"))
    []
    ∷ []
    )

abbrev pub class_c_pool : List Entry
class_c_pool =
    Method 2 3 ∷ Class 4 ∷ NameAndType 5 6 ∷ Utf8 (codes "java/lang/Object") ∷ Utf8 (codes "<init>") ∷ Utf8 (codes "()V") ∷ Class 8
    ∷ Utf8 (codes "C") ∷ Class 10 ∷ Utf8 (codes "I") ∷ Utf8 (codes "Code") ∷ Utf8 (codes "other") ∷ Utf8 (codes "()I") ∷ []

abbrev pub class_c : FileTree
class_c =
    file_with 0x0020 class_c_pool 7 2 (9 ∷ []) []
    (
    method 0x0000 5 6 11 1 1
    (hex (codes "2ab70001b1"))
    []
    ∷ method 0x0001 12 13 11 1 1
    (hex (codes "07ac"))
    []
    ∷ []
    )
