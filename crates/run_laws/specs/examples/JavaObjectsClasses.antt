-- The classes of the program of JavaObjects but the initial one, as javac compiles them.
use Rattle.std.specs.Prelude.{List, [], ◌∷◌, codes}
use Rattle.model.specs.Tree.{Entry, Utf8, Integer, Class, Field, Method, NameAndType, ConstantOf, FileTree}
use Rattle.run_laws.specs.examples.Bytes.{hex}
use Rattle.run_laws.specs.examples.ClassFiles.{field, method, file_with, no_code}

abbrev pub class_badinit_pool : List Entry
class_badinit_pool =
    Method 2 3 ∷ Class 4 ∷ NameAndType 5 6 ∷ Utf8 (codes "java/lang/Object") ∷ Utf8 (codes "<init>") ∷ Utf8 (codes "()V") ∷ Method 8 9
    ∷ Class 10 ∷ NameAndType 11 12 ∷ Utf8 (codes "Integer_zero") ∷ Utf8 (codes "z") ∷ Utf8 (codes "()I") ∷ Field 14 15 ∷ Class 16
    ∷ NameAndType 17 18 ∷ Utf8 (codes "BadInit") ∷ Utf8 (codes "q") ∷ Utf8 (codes "I") ∷ Utf8 (codes "Code") ∷ Utf8 (codes "f")
    ∷ Utf8 (codes "<clinit>") ∷ []

abbrev pub class_badinit : FileTree
class_badinit =
    file_with 0x0020 class_badinit_pool 14 2 []
    (
    field 0x0008 17 18 []
    ∷ []
    )
    (
    method 0x0000 5 6 19 1 1
    (hex (codes "2ab70001b1"))
    []
    ∷ method 0x0008 20 6 19 0 0
    (hex (codes "b1"))
    []
    ∷ method 0x0008 21 6 19 2 0
    (hex (codes "04b800076cb3000db1"))
    []
    ∷ []
    )

abbrev pub class_base_pool : List Entry
class_base_pool =
    Method 2 3 ∷ Class 4 ∷ NameAndType 5 6 ∷ Utf8 (codes "java/lang/Object") ∷ Utf8 (codes "<init>") ∷ Utf8 (codes "()V") ∷ Field 8 9
    ∷ Class 10 ∷ NameAndType 11 12 ∷ Utf8 (codes "Base") ∷ Utf8 (codes "x") ∷ Utf8 (codes "I") ∷ Method 8 14 ∷ NameAndType 15 6
    ∷ Utf8 (codes "init") ∷ Field 17 18 ∷ Class 19 ∷ NameAndType 20 21 ∷ Utf8 (codes "java/lang/System") ∷ Utf8 (codes "out")
    ∷ Utf8 (codes "Ljava/io/PrintStream;") ∷ Method 23 24 ∷ Class 25 ∷ NameAndType 26 27 ∷ Utf8 (codes "java/io/PrintStream")
    ∷ Utf8 (codes "println") ∷ Utf8 (codes "(I)V") ∷ Method 8 29 ∷ NameAndType 30 31 ∷ Utf8 (codes "hidden") ∷ Utf8 (codes "()I")
    ∷ Method 33 34 ∷ Class 35 ∷ NameAndType 36 37 ∷ Utf8 (codes "Init") ∷ Utf8 (codes "say") ∷ Utf8 (codes "(I)I") ∷ Field 8 39
    ∷ NameAndType 40 12 ∷ Utf8 (codes "count") ∷ Class 42 ∷ Utf8 (codes "Shape") ∷ Utf8 (codes "b") ∷ Utf8 (codes "B") ∷ Utf8 (codes "s")
    ∷ Utf8 (codes "S") ∷ Utf8 (codes "c") ∷ Utf8 (codes "C") ∷ Utf8 (codes "z") ∷ Utf8 (codes "Z") ∷ Utf8 (codes "Code")
    ∷ Utf8 (codes "twice") ∷ Utf8 (codes "callHidden") ∷ Utf8 (codes "stat") ∷ Utf8 (codes "(ILjava/lang/Object;)I")
    ∷ Utf8 (codes "StackMapTable") ∷ Utf8 (codes "area") ∷ Utf8 (codes "<clinit>") ∷ []

abbrev pub class_base : FileTree
class_base =
    file_with 0x0420 class_base_pool 8 2 (41 ∷ [])
    (
    field 0x0000 11 12 []
    ∷ field 0x0000 43 44 []
    ∷ field 0x0000 45 46 []
    ∷ field 0x0000 47 48 []
    ∷ field 0x0000 49 50 []
    ∷ field 0x0008 40 12 []
    ∷ []
    )
    (
    method 0x0000 5 6 51 3 1
    (hex (codes "2ab700012a08b500072a2ab400070460b500072ab6000db1"))
    []
    ∷ method 0x0000 15 6 51 2 1
    (hex (codes "b200102ab40007b60016b1"))
    []
    ∷ no_code 0x0400 52 31
    ∷ method 0x0002 30 31 51 1 1
    (hex (codes "1007ac"))
    []
    ∷ method 0x0000 53 31 51 1 1
    (hex (codes "2ab7001cac"))
    []
    ∷ method 0x0008 54 55 51 2 2
    (hex (codes "2bc700071aa700061a0460ac"))
    []
    ∷ method 0x0001 57 37 51 2 2
    (hex (codes "1b0568ac"))
    []
    ∷ method 0x0008 58 6 51 1 0
    (hex (codes "100ab80020b30026b1"))
    []
    ∷ []
    )

abbrev pub class_init_pool : List Entry
class_init_pool =
    Method 2 3 ∷ Class 4 ∷ NameAndType 5 6 ∷ Utf8 (codes "java/lang/Object") ∷ Utf8 (codes "<init>") ∷ Utf8 (codes "()V") ∷ Field 8 9
    ∷ Class 10 ∷ NameAndType 11 12 ∷ Utf8 (codes "java/lang/System") ∷ Utf8 (codes "out") ∷ Utf8 (codes "Ljava/io/PrintStream;")
    ∷ Method 14 15 ∷ Class 16 ∷ NameAndType 17 18 ∷ Utf8 (codes "java/io/PrintStream") ∷ Utf8 (codes "println") ∷ Utf8 (codes "(I)V")
    ∷ Class 20 ∷ Utf8 (codes "Init") ∷ Utf8 (codes "Code") ∷ Utf8 (codes "say") ∷ Utf8 (codes "(I)I") ∷ []

abbrev pub class_init : FileTree
class_init =
    file_with 0x0020 class_init_pool 19 2 [] []
    (
    method 0x0000 5 6 21 1 1
    (hex (codes "2ab70001b1"))
    []
    ∷ method 0x0008 22 23 21 2 1
    (hex (codes "b200071ab6000d1aac"))
    []
    ∷ []
    )

abbrev pub class_integer_zero_pool : List Entry
class_integer_zero_pool =
    Method 2 3 ∷ Class 4 ∷ NameAndType 5 6 ∷ Utf8 (codes "java/lang/Object") ∷ Utf8 (codes "<init>") ∷ Utf8 (codes "()V") ∷ Class 8
    ∷ Utf8 (codes "Integer_zero") ∷ Utf8 (codes "Code") ∷ Utf8 (codes "z") ∷ Utf8 (codes "()I") ∷ []

abbrev pub class_integer_zero : FileTree
class_integer_zero =
    file_with 0x0020 class_integer_zero_pool 7 2 [] []
    (
    method 0x0000 5 6 9 1 1
    (hex (codes "2ab70001b1"))
    []
    ∷ method 0x0008 10 11 9 1 0
    (hex (codes "03ac"))
    []
    ∷ []
    )

abbrev pub class_lazy_pool : List Entry
class_lazy_pool =
    Method 2 3 ∷ Class 4 ∷ NameAndType 5 6 ∷ Utf8 (codes "java/lang/Object") ∷ Utf8 (codes "<init>") ∷ Utf8 (codes "()V") ∷ Field 8 9
    ∷ Class 10 ∷ NameAndType 11 12 ∷ Utf8 (codes "java/lang/System") ∷ Utf8 (codes "out") ∷ Utf8 (codes "Ljava/io/PrintStream;")
    ∷ Method 14 15 ∷ Class 16 ∷ NameAndType 17 18 ∷ Utf8 (codes "java/io/PrintStream") ∷ Utf8 (codes "println") ∷ Utf8 (codes "(I)V")
    ∷ Class 20 ∷ Utf8 (codes "Lazy") ∷ Utf8 (codes "v") ∷ Utf8 (codes "I") ∷ Utf8 (codes "K") ∷ Utf8 (codes "ConstantValue") ∷ Integer 66
    ∷ Utf8 (codes "Code") ∷ Utf8 (codes "<clinit>") ∷ []

abbrev pub class_lazy : FileTree
class_lazy =
    file_with 0x0020 class_lazy_pool 19 2 []
    (
    field 0x0008 21 22 []
    ∷ field 0x0018 23 22 (ConstantOf 24 25 ∷ [])
    ∷ []
    )
    (
    method 0x0000 5 6 26 1 1
    (hex (codes "2ab70001b1"))
    []
    ∷ method 0x0008 27 6 26 2 0
    (hex (codes "b200071037b6000db1"))
    []
    ∷ []
    )

abbrev pub class_myex_pool : List Entry
class_myex_pool =
    Method 2 3 ∷ Class 4 ∷ NameAndType 5 6 ∷ Utf8 (codes "java/lang/RuntimeException") ∷ Utf8 (codes "<init>") ∷ Utf8 (codes "()V")
    ∷ Field 8 9 ∷ Class 10 ∷ NameAndType 11 12 ∷ Utf8 (codes "MyEx") ∷ Utf8 (codes "v") ∷ Utf8 (codes "I") ∷ Utf8 (codes "(I)V")
    ∷ Utf8 (codes "Code") ∷ []

abbrev pub class_myex : FileTree
class_myex =
    file_with 0x0020 class_myex_pool 8 2 []
    (
    field 0x0000 11 12 []
    ∷ []
    )
    (
    method 0x0000 5 13 14 2 2
    (hex (codes "2ab700012a1bb50007b1"))
    []
    ∷ []
    )

abbrev pub class_named_pool : List Entry
class_named_pool =
    Class 2 ∷ Utf8 (codes "Named") ∷ Class 4 ∷ Utf8 (codes "java/lang/Object") ∷ Class 6 ∷ Utf8 (codes "Shape") ∷ Utf8 (codes "name")
    ∷ Utf8 (codes "()I") ∷ []

abbrev pub class_named : FileTree
class_named =
    file_with 0x0600 class_named_pool 1 3 (5 ∷ []) []
    (
    no_code 0x0401 7 8
    ∷ []
    )

abbrev pub class_other_pool : List Entry
class_other_pool =
    Method 2 3 ∷ Class 4 ∷ NameAndType 5 6 ∷ Utf8 (codes "java/lang/Object") ∷ Utf8 (codes "<init>") ∷ Utf8 (codes "()V") ∷ Class 8
    ∷ Utf8 (codes "Other") ∷ Class 10 ∷ Utf8 (codes "Shape") ∷ Utf8 (codes "Code") ∷ Utf8 (codes "area") ∷ Utf8 (codes "(I)I") ∷ []

abbrev pub class_other : FileTree
class_other =
    file_with 0x0020 class_other_pool 7 2 (9 ∷ []) []
    (
    method 0x0000 5 6 11 1 1
    (hex (codes "2ab70001b1"))
    []
    ∷ method 0x0001 12 13 11 1 2
    (hex (codes "1b74ac"))
    []
    ∷ []
    )

abbrev pub class_run_pool : List Entry
class_run_pool =
    Method 2 3 ∷ Class 4 ∷ NameAndType 5 6 ∷ Utf8 (codes "java/lang/Object") ∷ Utf8 (codes "<init>") ∷ Utf8 (codes "()V") ∷ Field 8 9
    ∷ Class 10 ∷ NameAndType 11 12 ∷ Utf8 (codes "java/lang/System") ∷ Utf8 (codes "out") ∷ Utf8 (codes "Ljava/io/PrintStream;")
    ∷ Method 14 15 ∷ Class 16 ∷ NameAndType 17 18 ∷ Utf8 (codes "java/io/PrintStream") ∷ Utf8 (codes "println") ∷ Utf8 (codes "(I)V")
    ∷ Class 20 ∷ Utf8 (codes "Run") ∷ Class 22 ∷ Utf8 (codes "java/lang/Runnable") ∷ Utf8 (codes "Code") ∷ Utf8 (codes "run") ∷ []

abbrev pub class_run : FileTree
class_run =
    file_with 0x0020 class_run_pool 19 2 (21 ∷ []) []
    (
    method 0x0000 5 6 23 1 1
    (hex (codes "2ab70001b1"))
    []
    ∷ method 0x0001 24 6 23 2 1
    (hex (codes "b200071063b6000db1"))
    []
    ∷ []
    )

abbrev pub class_shape_pool : List Entry
class_shape_pool =
    Method 2 3 ∷ Class 4 ∷ NameAndType 5 6 ∷ Utf8 (codes "Init") ∷ Utf8 (codes "say") ∷ Utf8 (codes "(I)I") ∷ Field 8 9 ∷ Class 10
    ∷ NameAndType 11 12 ∷ Utf8 (codes "Shape") ∷ Utf8 (codes "K") ∷ Utf8 (codes "I") ∷ Class 14 ∷ Utf8 (codes "java/lang/Object")
    ∷ Utf8 (codes "area") ∷ Utf8 (codes "<clinit>") ∷ Utf8 (codes "()V") ∷ Utf8 (codes "Code") ∷ []

abbrev pub class_shape : FileTree
class_shape =
    file_with 0x0600 class_shape_pool 8 13 []
    (
    field 0x0019 11 12 []
    ∷ []
    )
    (
    no_code 0x0401 15 6
    ∷ method 0x0008 16 17 18 1 0
    (hex (codes "101fb80001b30007b1"))
    []
    ∷ []
    )

abbrev pub class_square_pool : List Entry
class_square_pool =
    Method 2 3 ∷ Class 4 ∷ NameAndType 5 6 ∷ Utf8 (codes "Base") ∷ Utf8 (codes "<init>") ∷ Utf8 (codes "()V") ∷ Field 8 9 ∷ Class 10
    ∷ NameAndType 11 12 ∷ Utf8 (codes "Square") ∷ Utf8 (codes "x") ∷ Utf8 (codes "I") ∷ Field 14 15 ∷ Class 16 ∷ NameAndType 17 18
    ∷ Utf8 (codes "java/lang/System") ∷ Utf8 (codes "out") ∷ Utf8 (codes "Ljava/io/PrintStream;") ∷ Method 20 21 ∷ Class 22
    ∷ NameAndType 23 24 ∷ Utf8 (codes "java/io/PrintStream") ∷ Utf8 (codes "println") ∷ Utf8 (codes "(I)V") ∷ Method 2 26
    ∷ NameAndType 27 6 ∷ Utf8 (codes "init") ∷ Field 2 9 ∷ Method 2 30 ∷ NameAndType 31 32 ∷ Utf8 (codes "area") ∷ Utf8 (codes "(I)I")
    ∷ Method 34 35 ∷ Class 36 ∷ NameAndType 37 32 ∷ Utf8 (codes "Init") ∷ Utf8 (codes "say") ∷ Field 8 39 ∷ NameAndType 40 12
    ∷ Utf8 (codes "d") ∷ Class 42 ∷ Utf8 (codes "Named") ∷ Utf8 (codes "C") ∷ Utf8 (codes "ConstantValue") ∷ Integer 77
    ∷ Utf8 (codes "Code") ∷ Utf8 (codes "twice") ∷ Utf8 (codes "()I") ∷ Utf8 (codes "hidden") ∷ Utf8 (codes "name")
    ∷ Utf8 (codes "<clinit>") ∷ []

abbrev pub class_square : FileTree
class_square =
    file_with 0x0020 class_square_pool 8 2 (41 ∷ [])
    (
    field 0x0000 11 12 []
    ∷ field 0x0018 43 12 (ConstantOf 44 45 ∷ [])
    ∷ field 0x0008 40 12 []
    ∷ []
    )
    (
    method 0x0000 5 6 46 2 1
    (hex (codes "2ab700012a1009b50007b2000d2ab40007b60013b1"))
    []
    ∷ method 0x0000 27 6 46 3 1
    (hex (codes "b2000d10642ab4000760b600132ab70019b1"))
    []
    ∷ method 0x0000 47 48 46 2 1
    (hex (codes "052ab40007682ab4001c60ac"))
    []
    ∷ method 0x0002 49 48 46 1 1
    (hex (codes "1008ac"))
    []
    ∷ method 0x0001 50 48 46 1 1
    (hex (codes "06ac"))
    []
    ∷ method 0x0001 31 32 46 2 2
    (hex (codes "2a1bb7001d0460ac"))
    []
    ∷ method 0x0008 51 6 46 1 0
    (hex (codes "1014b80021b30026b1"))
    []
    ∷ []
    )

abbrev pub class_sub_pool : List Entry
class_sub_pool =
    Method 2 3 ∷ Class 4 ∷ NameAndType 5 6 ∷ Utf8 (codes "java/lang/Thread") ∷ Utf8 (codes "<init>") ∷ Utf8 (codes "()V") ∷ Field 8 9
    ∷ Class 10 ∷ NameAndType 11 12 ∷ Utf8 (codes "java/lang/System") ∷ Utf8 (codes "out") ∷ Utf8 (codes "Ljava/io/PrintStream;")
    ∷ Method 14 15 ∷ Class 16 ∷ NameAndType 17 18 ∷ Utf8 (codes "java/io/PrintStream") ∷ Utf8 (codes "println") ∷ Utf8 (codes "(I)V")
    ∷ Class 20 ∷ Utf8 (codes "MyEx") ∷ Method 19 22 ∷ NameAndType 5 18 ∷ Class 24 ∷ Utf8 (codes "Sub") ∷ Utf8 (codes "Code")
    ∷ Utf8 (codes "run") ∷ []

abbrev pub class_sub : FileTree
class_sub =
    file_with 0x0020 class_sub_pool 23 2 [] []
    (
    method 0x0000 5 6 25 1 1
    (hex (codes "2ab70001b1"))
    []
    ∷ method 0x0021 26 6 25 3 1
    (hex (codes "b200071062b6000dbb00135904b70015bf"))
    []
    ∷ []
    )
