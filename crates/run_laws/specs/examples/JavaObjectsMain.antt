-- The initial class of the program of JavaObjects, as javac compiles it.
use Rattle.std.specs.Prelude.{List, [], ◌∷◌, ◌++◌, codes}
use Rattle.model.specs.Tree.{Entry, Utf8, Integer, Class, String, Field, Method, InterfaceMethod, NameAndType, FileTree}
use Rattle.run_laws.specs.examples.Bytes.{hex}
use Rattle.run_laws.specs.examples.ClassFiles.{method, handler, file_with}

abbrev pub class_m_pool : List Entry
class_m_pool =
    Method 2 3 ∷ Class 4 ∷ NameAndType 5 6 ∷ Utf8 (codes "java/lang/Object") ∷ Utf8 (codes "<init>") ∷ Utf8 (codes "()V") ∷ Method 8 9
    ∷ Class 10 ∷ NameAndType 11 12 ∷ Utf8 (codes "M") ∷ Utf8 (codes "depth") ∷ Utf8 (codes "(I)I") ∷ Class 14 ∷ Utf8 (codes "Square")
    ∷ Field 13 16 ∷ NameAndType 17 18 ∷ Utf8 (codes "x") ∷ Utf8 (codes "I") ∷ Class 20 ∷ Utf8 (codes "MyEx") ∷ Method 19 22
    ∷ NameAndType 5 23 ∷ Utf8 (codes "(I)V") ∷ Method 8 25 ∷ NameAndType 26 27 ∷ Utf8 (codes "n") ∷ Utf8 (codes "()Ljava/lang/Object;")
    ∷ Method 8 29 ∷ NameAndType 30 31 ∷ Utf8 (codes "n2") ∷ Utf8 (codes "()Ljava/lang/RuntimeException;") ∷ Method 33 34 ∷ Class 35
    ∷ NameAndType 36 6 ∷ Utf8 (codes "BadInit") ∷ Utf8 (codes "f") ∷ Class 38 ∷ Utf8 (codes "[Ljava/lang/Object;") ∷ InterfaceMethod 40 41
    ∷ Class 42 ∷ NameAndType 43 12 ∷ Utf8 (codes "Shape") ∷ Utf8 (codes "area") ∷ Method 2 45 ∷ NameAndType 46 6 ∷ Utf8 (codes "wait")
    ∷ Class 48 ∷ Utf8 (codes "Other") ∷ Method 47 3 ∷ String 51 ∷ Utf8 (codes "t") ∷ Field 53 54 ∷ Class 55 ∷ NameAndType 56 57
    ∷ Utf8 (codes "java/lang/System") ∷ Utf8 (codes "out") ∷ Utf8 (codes "Ljava/io/PrintStream;") ∷ Method 59 60 ∷ Class 61
    ∷ NameAndType 62 23 ∷ Utf8 (codes "java/io/PrintStream") ∷ Utf8 (codes "println") ∷ Class 64 ∷ Utf8 (codes "java/lang/Thread")
    ∷ Method 63 3 ∷ Method 63 67 ∷ NameAndType 68 6 ∷ Utf8 (codes "start") ∷ Method 63 70 ∷ NameAndType 71 6 ∷ Utf8 (codes "join")
    ∷ Method 63 73 ∷ NameAndType 74 75 ∷ Utf8 (codes "currentThread") ∷ Utf8 (codes "()Ljava/lang/Thread;") ∷ Method 63 77
    ∷ NameAndType 78 6 ∷ Utf8 (codes "interrupt") ∷ Class 80 ∷ Utf8 (codes "java/lang/ArrayIndexOutOfBoundsException") ∷ Class 82
    ∷ Utf8 (codes "java/lang/NegativeArraySizeException") ∷ Class 84 ∷ Utf8 (codes "java/lang/ArrayStoreException") ∷ Class 86
    ∷ Utf8 (codes "java/lang/ClassCastException") ∷ Class 88 ∷ Utf8 (codes "java/lang/NullPointerException") ∷ Field 19 90
    ∷ NameAndType 91 18 ∷ Utf8 (codes "v") ∷ Class 93 ∷ Utf8 (codes "java/lang/ArithmeticException") ∷ Class 95
    ∷ Utf8 (codes "java/lang/ExceptionInInitializerError") ∷ Class 97 ∷ Utf8 (codes "java/lang/LinkageError") ∷ Class 99
    ∷ Utf8 (codes "java/lang/IllegalMonitorStateException") ∷ Class 101 ∷ Utf8 (codes "java/lang/IllegalThreadStateException") ∷ Class 103
    ∷ Utf8 (codes "java/lang/InterruptedException") ∷ Method 63 105 ∷ NameAndType 106 107 ∷ Utf8 (codes "interrupted") ∷ Utf8 (codes "()Z")
    ∷ Method 8 109 ∷ NameAndType 110 23 ∷ Utf8 (codes "p") ∷ Class 112 ∷ Utf8 (codes "Lazy") ∷ Field 111 90 ∷ Method 13 3 ∷ Field 116 16
    ∷ Class 117 ∷ Utf8 (codes "Base") ∷ Method 116 119 ∷ NameAndType 120 121 ∷ Utf8 (codes "twice") ∷ Utf8 (codes "()I") ∷ Method 116 123
    ∷ NameAndType 124 121 ∷ Utf8 (codes "callHidden") ∷ Method 13 126 ∷ NameAndType 127 121 ∷ Utf8 (codes "name") ∷ Method 116 129
    ∷ NameAndType 130 131 ∷ Utf8 (codes "stat") ∷ Utf8 (codes "(ILjava/lang/Object;)I") ∷ Method 13 129 ∷ Field 13 134 ∷ NameAndType 135 18
    ∷ Utf8 (codes "count") ∷ Field 13 137 ∷ NameAndType 138 139 ∷ Utf8 (codes "b") ∷ Utf8 (codes "B") ∷ Field 13 141 ∷ NameAndType 142 143
    ∷ Utf8 (codes "s") ∷ Utf8 (codes "S") ∷ Integer 65535 ∷ Field 13 146 ∷ NameAndType 147 148 ∷ Utf8 (codes "c") ∷ Utf8 (codes "C")
    ∷ Field 13 150 ∷ NameAndType 151 152 ∷ Utf8 (codes "z") ∷ Utf8 (codes "Z") ∷ Method 8 154 ∷ NameAndType 110 155 ∷ Utf8 (codes "(Z)V")
    ∷ Class 157 ∷ Utf8 (codes "[I") ∷ Class 159 ∷ Utf8 (codes "[[I") ∷ Class 161 ∷ Utf8 (codes "Named") ∷ Class 163
    ∷ Utf8 (codes "java/lang/Runnable") ∷ Class 165 ∷ Utf8 (codes "[LBase;") ∷ String 167 ∷ Utf8 (codes "abc") ∷ String 169
    ∷ Utf8 (codes "abd") ∷ Method 8 171 ∷ NameAndType 172 12 ∷ Utf8 (codes "tries") ∷ Class 174
    ∷ Utf8 (codes "java/lang/StackOverflowError") ∷ Method 8 176 ∷ NameAndType 177 23 ∷ Utf8 (codes "long_switch") ∷ Method 8 179
    ∷ NameAndType 180 6 ∷ Utf8 (codes "sync") ∷ Class 182 ∷ Utf8 (codes "Run") ∷ Method 181 3 ∷ Method 63 185 ∷ NameAndType 5 186
    ∷ Utf8 (codes "(Ljava/lang/Runnable;)V") ∷ Method 63 188 ∷ NameAndType 189 6 ∷ Utf8 (codes "run") ∷ Method 63 191 ∷ NameAndType 192 107
    ∷ Utf8 (codes "isAlive") ∷ Method 63 194 ∷ NameAndType 195 107 ∷ Utf8 (codes "isInterrupted") ∷ Method 63 197 ∷ NameAndType 198 6
    ∷ Utf8 (codes "yield") ∷ Class 200 ∷ Utf8 (codes "Sub") ∷ Method 199 3 ∷ Method 199 67 ∷ Method 2 204 ∷ NameAndType 205 6
    ∷ Utf8 (codes "notifyAll") ∷ Method 2 207 ∷ NameAndType 208 6 ∷ Utf8 (codes "notify") ∷ Utf8 (codes "Code")
    ∷ Utf8 (codes "StackMapTable") ∷ Class 212 ∷ Utf8 (codes "java/lang/Throwable") ∷ Utf8 (codes "main")
    ∷ Utf8 (codes "([Ljava/lang/String;)V") ∷ Class 216 ∷ Utf8 (codes "[Ljava/lang/String;") ∷ Class 218 ∷ Utf8 (codes "[B") ∷ Class 220
    ∷ Utf8 (codes "[C") ∷ Class 222 ∷ Utf8 (codes "[S") ∷ Class 224 ∷ Utf8 (codes "[Z") ∷ Class 226 ∷ Utf8 (codes "[LShape;") ∷ []

abbrev pub class_m : FileTree
class_m =
    file_with 0x0020 class_m_pool 8 2 [] []
    (
    method 0x0000 5 6 209 1 1
    (hex (codes "2ab70001b1"))
    []
    ∷ method 0x0008 11 12 209 3 1
    (hex (codes "1a9a000703a7000b041a0464b8000760ac"))
    []
    ∷ method 0x0008 172 12 209 4 6
    (hex (codes "1a9a000b05bc0a4c2b05044f1a04a0000702bc0a4c1a05a0001204bd000d4c2b03bb000259b70001531a06a00010bb000259b700014c2bc0")
    ++ hex (codes "000d4d1a07a0000a014c2b04b5000f1a08a0000dbb001359102ab70015bf1a1006a00009033c061b703c1a1007a00009014c2b02034f1a10")
    ++ hex (codes "08a00013b80018594cc22bc3a700084e2bc32dbf1a1009a00007b8001cbf1a100aa00006b800201a100ba00006b800201a100ca0000c04bc")
    ++ hex (codes "0a4c2bc000254d1a100da0000d014c2b04b900270200571a100ea0000dbb000259b70001b6002c1a100fa0000b04bc084c2b0406541a1010")
    ++ hex (codes "a0001705bd00284c2b03bb002f59b70031532b041232531a1011a000111103e83cb200341a74b6003a1bac1a1012a00017bb003f59b70041")
    ++ hex (codes "4c2bb600422bb600452bb600421a1013a0001fb80048b6004c1208594cc21208b6002c2bc3a7000a3a042bc31904bfb200341a74b6003aa7")
    ++ hex (codes "00c04c043db200341a74b6003a1cac4c053db200341a74b6003a1cac4c063db200341a74b6003a1cac4c073db200341a74b6003a1cac4c08")
    ++ hex (codes "3db200341a74b6003a1cac4c2bb400593db200341a74b6003a1cac4c10063db200341a74b6003a1cac4c10073db200341a74b6003a1cac4c")
    ++ hex (codes "10083db200341a74b6003a1cac4c10093db200341a74b6003a1cac4c100b3db200341a74b6003a1cac4cb80068990008100da70005100c3d")
    ++ hex (codes "b200341a74b6003a1cac3a05b200341a74b6003a1905bf03ac"))
    (
    handler 122 124 127 0 ∷ handler 127 130 127 0 ∷ handler 310 317 320 0 ∷ handler 320 324 320 0 ∷ handler 0 257 338 79
    ∷ handler 267 327 338 79 ∷ handler 0 257 351 81 ∷ handler 267 327 351 81 ∷ handler 0 257 364 83 ∷ handler 267 327 364 83
    ∷ handler 0 257 377 85 ∷ handler 267 327 377 85 ∷ handler 0 257 390 87 ∷ handler 267 327 390 87 ∷ handler 0 257 403 19
    ∷ handler 267 327 403 19 ∷ handler 0 257 419 92 ∷ handler 267 327 419 92 ∷ handler 0 257 433 94 ∷ handler 267 327 433 94
    ∷ handler 0 257 447 96 ∷ handler 267 327 447 96 ∷ handler 0 257 461 98 ∷ handler 267 327 461 98 ∷ handler 0 257 475 100
    ∷ handler 267 327 475 100 ∷ handler 0 257 489 102 ∷ handler 267 327 489 102 ∷ handler 0 257 514 0 ∷ handler 267 327 514 0
    ∷ handler 338 341 514 0 ∷ handler 351 354 514 0 ∷ handler 364 367 514 0 ∷ handler 377 380 514 0 ∷ handler 390 393 514 0
    ∷ handler 403 409 514 0 ∷ handler 419 423 514 0 ∷ handler 433 437 514 0 ∷ handler 447 451 514 0 ∷ handler 461 465 514 0
    ∷ handler 475 479 514 0 ∷ handler 489 504 514 0 ∷ handler 514 516 514 0
    ∷ []
    )
    ∷ method 0x0008 26 27 209 1 0
    (hex (codes "01b0"))
    []
    ∷ method 0x0008 30 31 209 1 0
    (hex (codes "01b0"))
    []
    ∷ method 0x0008 110 23 209 2 1
    (hex (codes "b200341ab6003ab1"))
    []
    ∷ method 0x0008 110 155 209 2 1
    (hex (codes "b200341a99000704a7000403b6003ab1"))
    []
    ∷ method 0x0009 213 214 209 4 16
    (hex (codes "2abeb8006c1042b8006c06b30071b20071b8006cbb000d59b700724c2b4d2b4e2bb4000fb8006c2cb40073b8006c2cb60076b8006c2cb600")
    ++ hex (codes "7ab8006c2d07b900270200b8006c2bb6007db8006c0401b80080b8006c042bb80084b8006c104db8006cb20085b8006c2b10c8b500882b11")
    ++ hex (codes "9c40b5008c2b1290b500912b04b500952bb40088b8006c2bb4008cb8006c2bb40091b8006c2bb40095b8009906bc083a04190404102c5419")
    ++ hex (codes "040433b8006c1904beb8006c04bc053a051905031111705519050334b8006c04bc093a061906031111705619060335b8006c05bc043a0719")
    ++ hex (codes "0704045419070333b8009919070433b8009907bc0a3a0803360915091908bea200131908150915091509684f840901a7ffeb1908062eb800")
    ++ hex (codes "6c05bd00283a091909032b53190904bb002f59b700315303360a150a05a200181909150a32100ab900270200b8006c840a01a7ffe805bd00")
    ++ hex (codes "9c3a0a190a04190853190a0432052eb8006c190a0332c7000704a7000403b80099190a3a0b190bc10025b80099190bc1009eb80099190bc1")
    ++ hex (codes "009cb800992bc100a0b800992bc100a2b8009901c10002b800991909c10025b800991909c100a4b8009912a612a6a6000704a7000403b800")
    ++ hex (codes "9912a612a8a6000704a7000403b8009912081208a6000704a7000403b8009912081274a6000704a7000403b800991014b80007b8006c0336")
    ++ hex (codes "0c150c1013a3002003360d150cb800aa360da700083a0e02360d150db8006c840c01a7ffdf06b800af10fbb800af1103e8b800af03360c84")
    ++ hex (codes "0c03150c0778360c150c0882360c150c0282360c150cb8006c150c101c7cb8006c150c057ab8006c10fdb8006c02b8006cb800b2bb000259")
    ++ hex (codes "b70001bb000259b70001a6000704a7000403b80099bb00b559b700b73a0dbb003f59190db700b8b600bbbb003f59190db700b83a0e190eb6")
    ++ hex (codes "00beb80099190eb60042190eb60045a700053a0f190eb600beb80099190eb600c1b80099b80048190ea6000704a7000403b80099b800c4b8")
    ++ hex (codes "0048b6004cb80048b600c1b80099b80068b80099b80068b80099bb00c759b700c9b600cab1"))
    (handler 515 522 525 173 ∷ handler 682 687 690 102 ∷ [])
    ∷ method 0x0028 180 6 209 2 2
    (hex (codes "1208594bc21058b8006c2ac3a700084c2ac32bbf1208b600cb1208b600ceb1"))
    (handler 5 12 15 0 ∷ handler 15 18 15 0 ∷ [])
    ∷ method 0x0008 177 23 209 1 1
    (hex (codes "1aab00000000004e0000000500000001000000330000000200000037000000030000003b0000000400000040000003e80000004704b8006c")
    ++ hex (codes "05b8006c1021b8006c07b8006ca7000f08b8006ca700081006b8006cb1"))
    []
    ∷ []
    )
