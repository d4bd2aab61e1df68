-- Jumps backwards and forwards: a sum of squares in a loop, and switches that are met for each int from -3 to 3.
use Rattle.std.specs.Prelude.{ℕ, pos, negsuc, List, [], ◌∷◌, ◌++◌, codes}
use Rattle.run_laws.specs.examples.Bytes.{hex}
use Rattle.run_laws.specs.examples.Runs.{Prints}
use Rattle.run_laws.specs.examples.Printing as printing
use Rattle.run_laws.specs.examples.IntArithmetic as ints

abbrev pub loop_code : List ℕ
loop_code =
    -- 0 iconst_0, 1 istore_1, 2 iconst_0, 3 istore_2, 4 goto 16
    hex (codes "03 3c 03 3d a7000c")
    -- 7 iload_1, 8 iload_2, 9 dup, 10 imul, 11 iadd, 12 istore_1, 13 iinc 2 1
    ++ hex (codes "1b 1c 59 68 60 3c 840201")
    -- 16 iload_2, 17 iconst_5, 18 if_icmplt 7
    ++ hex (codes "1c 08 a1fff5")
    -- 21 getstatic System.out, 24 iload_1, 25 invokevirtual println
    ++ hex (codes "b20006 1b b6000c")
    -- 28 getstatic System.out, 31 bipush 10, 33 iconst_3, 34 swap, 35 isub, 36 dup, 37 pop, 38 invokevirtual println, 41 return
    ++ hex (codes "b20006 100a 06 5f 64 59 57 b6000c b1")

abbrev pub switches_code : List ℕ
switches_code =
    -- 0 bipush -3, 2 istore_1
    hex (codes "10fd 3c")
    -- 3 iload_1, 4 tableswitch from -1 to 1: 32, 37, 43, default 50
    ++ hex (codes "1b aa000000 0000002e ffffffff 00000001 0000001c 00000021 00000027")
    -- 32 bipush 11, 34 goto 89; 37 sipush -300, 40 goto 89; 43 ldc_w 2147483647, 46 ineg, 47 goto 89
    ++ hex (codes "100b a70037 11fed4 a70031 13000e 74 a7002a")
    -- 50 iload_1, 51 lookupswitch: -3 to 76, 2 to 81, default 88
    ++ hex (codes "1b ab 00000025 00000002 fffffffd 00000019 00000002 0000001e")
    -- 76 iload_1, 77 i2c, 78 goto 89; 81 sipush 200, 84 i2b, 85 goto 89; 88 iconst_m1
    ++ hex (codes "1b 92 a7000b 1100c8 91 a70004 02")
    -- 89 wide istore 2, 93 getstatic System.out, 96 wide iload 2, 100 invokevirtual println
    ++ hex (codes "c4360002 b20006 c4150002 b6000d")
    -- 103 iinc 1 1, 106 iload_1, 107 iconst_4, 108 if_icmpge 116, 111 goto_w 3, 116 return
    ++ hex (codes "840101 1b 07 a20008 c8ffffff94 b1")

-- 0 + 1 + 4 + 9 + 16, and 3 - 10
abbrev pub Loop : Type 0
Loop = Prints (printing.bytes_with (hex (codes "00000036 0003 0003 0000002a")) loop_code) (printing.file_with 3 3 loop_code) 74 (pos 30 ∷ negsuc 6 ∷ []) (codes "30\n-7\nthread 0 ended\nevents 74\nend quiet\n")

-- for -3 its low 16 bits; for -2 and 3 -1; for -1 11; for 0 -300; for 1 -2147483647; for 2 the low 8 bits of 200
abbrev pub Switches : Type 0
Switches = Prints (ints.bytes_with (hex (codes "00000081 0002 0003 00000075")) switches_code) (ints.file_with 2 3 switches_code) 106 (pos 65533 ∷ negsuc 0 ∷ pos 11 ∷ negsuc 299 ∷ negsuc 2147483646 ∷ negsuc 55 ∷ negsuc 0 ∷ []) (codes "65533\n-1\n11\n-300\n-2147483647\n-56\n-1\nthread 0 ended\nevents 106\nend quiet\n")
