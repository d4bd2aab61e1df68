-- A wide iinc, and a lookupswitch at each of the four places from which its operands are aligned.
use Rattle.std.specs.Prelude.{ℕ, pos, negsuc, List, [], ◌∷◌, codes}
use Rattle.run_laws.specs.examples.Bytes.{hex}
use Rattle.run_laws.specs.examples.Runs.{Prints}
use Rattle.run_laws.specs.examples.Printing.{bytes_with, file_with}

-- iconst_0, istore_1, wide iinc 1 -32768, getstatic System.out, iload_1, invokevirtual println, return
abbrev pub wide_code : List ℕ
wide_code = hex (codes "03 3c c48400018000 b20006 1b b6000c b1")

-- So many nops, iconst_5, and a lookupswitch that leads for 5 to where 5 is printed, and else to a return. The switch stands
-- at 1, 2, 3 and 4, and its operands begin at 4, 4, 4 and 8.
abbrev pub code_0 : List ℕ
code_0 = hex (codes "08 ab0000 0000001b 00000001 00000005 00000013 b20006 08 b6000c b1 b1")

abbrev pub code_1 : List ℕ
code_1 = hex (codes "00 08 ab00 0000001a 00000001 00000005 00000012 b20006 08 b6000c b1 b1")

abbrev pub code_2 : List ℕ
code_2 = hex (codes "00 00 08 ab 00000019 00000001 00000005 00000011 b20006 08 b6000c b1 b1")

abbrev pub code_3 : List ℕ
code_3 = hex (codes "00 00 00 08 ab000000 0000001c 00000001 00000005 00000014 b20006 08 b6000c b1 b1")

pub record WideAndSwitch : Type 0 where
  pub wide : Prints (bytes_with (hex (codes "0000001c 0002 0002 00000010")) wide_code) (file_with 2 2 wide_code) 11 (negsuc 32767
      ∷ []) (codes "-32768\nthread 0 ended\nevents 11\nend quiet\n")
  pub after_0 : Prints (bytes_with (hex (codes "00000029 0002 0001 0000001d")) code_0) (file_with 2 1 code_0) 10 (pos 5
      ∷ []) (codes "5\nthread 0 ended\nevents 10\nend quiet\n")
  pub after_1 : Prints (bytes_with (hex (codes "00000029 0002 0001 0000001d")) code_1) (file_with 2 1 code_1) 11 (pos 5
      ∷ []) (codes "5\nthread 0 ended\nevents 11\nend quiet\n")
  pub after_2 : Prints (bytes_with (hex (codes "00000029 0002 0001 0000001d")) code_2) (file_with 2 1 code_2) 12 (pos 5
      ∷ []) (codes "5\nthread 0 ended\nevents 12\nend quiet\n")
  pub after_3 : Prints (bytes_with (hex (codes "0000002d 0002 0001 00000021")) code_3) (file_with 2 1 code_3) 13 (pos 5
      ∷ []) (codes "5\nthread 0 ended\nevents 13\nend quiet\n")
