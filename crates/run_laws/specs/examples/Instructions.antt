-- The instruction that some bytes hold at an offset, with its length.
use Rattle.std.specs.Prelude.{◌≡◌, ℕ, pos, negsuc, List, [], ◌∷◌, ◌++◌, Option, Some, None, true, false, map, replicate, codes}
use Rattle.model.specs.declared.instr.Kind.TheVariants as kinds
use Rattle.model.specs.declared.instr.ArrayKind.TheVariants as arrays
use Rattle.model.specs.declared.instr.Arithmetic.TheVariants.{Add, Subtract, Multiply, Divide, Remainder, ShiftLeft, ShiftRight, UnsignedShiftRight, And, Or, ExclusiveOr}
use Rattle.model.specs.declared.instr.Conversion.TheVariants.{ToByte, ToChar, ToShort}
use Rattle.model.specs.declared.instr.Comparison.TheVariants.{Equal, NotEqual, Less, GreaterOrEqual, Greater, LessOrEqual}
use Rattle.model.specs.declared.instr.StackMove.TheVariants.{Pop, Pop2, Dup, DupX1, DupX2, Dup2, Dup2X1, Dup2X2, Swap}
use Rattle.model.specs.declared.instr.Returned.TheVariants as returned
use Rattle.model.specs.declared.instr.FieldAccess.TheVariants.{GetStatic, PutStatic, GetField, PutField}
use Rattle.model.specs.declared.instr.Invocation.TheVariants.{Virtual, Special, Static}
use Rattle.model.specs.declared.instr.Instr.{Instr}
use Rattle.model.specs.declared.instr.Instr.TheVariants.{Nop, Null, Const, LoadConstant, Load, Store, LoadElement, StoreElement, Move, Compute, Negate, Increment, Convert, If, IfInts, IfReferences, IfNull, Goto, TableSwitch, LookupSwitch, Return, Field, Invoke, InvokeInterface, New, NewArray, NewReferenceArray, ArrayLength, Throw, CheckCast, InstanceOf, MonitorEnter, MonitorExit}
use Rattle.model.specs.Instruction.{sized_at, instr_at, length_at, table_jump, lookup_pair}
use Rattle.model.specs.InstructionStarts.{starts}
use Rattle.run_laws.specs.examples.Bytes.{hex}

-- at an offset of a code an instruction begins that has so many bytes
abbrev pub Reads : List ℕ → ℕ → Instr → ℕ → Type 0
Reads code offset instr length = sized_at code offset ≡ Some (instr, length)

abbrev pub BeginsNone : List ℕ → ℕ → Type 0
BeginsNone code offset = sized_at code offset ≡ None

pub record Instructions : Type 0 where
  -- iload_2, iload 2 and wide iload 2 are one
  pub iload_2 : Reads (hex (codes "1c")) 0 (Load kinds.Int 2) 1
  pub iload : Reads (hex (codes "1502")) 0 (Load kinds.Int 2) 2
  pub wide_iload : Reads (hex (codes "c4150002")) 0 (Load kinds.Int 2) 4
  pub wide_aload : Reads (hex (codes "c419ffff")) 0 (Load kinds.Reference 65535) 4
  pub wide_istore : Reads (hex (codes "c4360100")) 0 (Store kinds.Int 256) 4
  pub wide_astore : Reads (hex (codes "c43a0100")) 0 (Store kinds.Reference 256) 4
  pub astore_3 : Reads (hex (codes "4e")) 0 (Store kinds.Reference 3) 1
  -- operands with a sign, and without one
  pub iconst_m1 : Reads (hex (codes "02")) 0 (Const (negsuc 0)) 1
  pub iconst_5 : Reads (hex (codes "08")) 0 (Const (pos 5)) 1
  pub bipush : Reads (hex (codes "1080")) 0 (Const (negsuc 127)) 2
  pub sipush : Reads (hex (codes "118000")) 0 (Const (negsuc 32767)) 3
  pub ldc : Reads (hex (codes "12ff")) 0 (LoadConstant 255) 2
  pub ldc_w : Reads (hex (codes "13ffff")) 0 (LoadConstant 65535) 3
  pub iinc : Reads (hex (codes "84ffff")) 0 (Increment 255 (negsuc 0)) 3
  pub wide_iinc : Reads (hex (codes "033cc48400018000")) 2 (Increment 1 (negsuc 32767)) 6
  pub if_icmple : Reads (hex (codes "a4fff5")) 0 (IfInts LessOrEqual (negsuc 10)) 3
  pub goto : Reads (hex (codes "a77fff")) 0 (Goto (pos 32767)) 3
  pub goto_w : Reads (hex (codes "c8ffff7fff")) 0 (Goto (negsuc 32768)) 5
  pub invokeinterface : Reads (hex (codes "b901020300")) 0 (InvokeInterface 258 3 0) 5
  -- a lookupswitch at 1: its default is 28, and one pair leads for 5 to 20
  pub lookupswitch : Reads (hex (codes "08ab00000000001b000000010000000500000013b2000608b6000cb1b1")) 1 (LookupSwitch (pos 27) 1 12) 19
  pub lookup : lookup_pair (hex (codes "08ab00000000001b000000010000000500000013b2000608b6000cb1b1")) 12 0 ≡ (pos 5, pos 19)
  -- a tableswitch at 3, with no padding, and whatever stands in the padding of one at 0
  pub tableswitch : Reads (hex (codes "000000aa 00000010 ffffffff 00000000 00000011 00000012"))
      3 (TableSwitch (pos 16) (negsuc 0) (pos 0) 16) 21
  pub second_jump : table_jump (hex (codes "000000aa 00000010 ffffffff 00000000 00000011 00000012")) 16 1 ≡ pos 18
  pub padding : Reads (hex (codes "aaffffff 00000010 00000005 00000005 00000011")) 0 (TableSwitch (pos 16) (pos 5) (pos 5) 16) 20
  -- no instruction: lload, breakpoint, wide ret, wide iadd, nothing, and what the end cuts
  pub lload : BeginsNone (hex (codes "1600")) 0
  pub breakpoint : BeginsNone (hex (codes "ca")) 0
  pub wide_ret : BeginsNone (hex (codes "c4a90000")) 0
  pub wide_iadd : BeginsNone (hex (codes "c4600000")) 0
  pub past_the_end : BeginsNone (hex (codes "00")) 1
  pub cut_bipush : BeginsNone (hex (codes "10")) 0
  pub cut_goto : BeginsNone (hex (codes "a700")) 0
  pub cut_wide : BeginsNone (hex (codes "c484000180")) 0
  pub cut_switch : BeginsNone (hex (codes "aa000000 00000010 00000005 00000005 000000")) 0
  pub reversed_table : BeginsNone (hex (codes "aa000000 00000010 00000006 00000005")) 0
  pub negative_count : BeginsNone (hex (codes "ab000000 00000010 ffffffff")) 0
  -- iconst_0, bipush 7, the unknown byte ca, and return
  pub boundaries : starts (hex (codes "031007cab1")) ≡ true ∷ true ∷ false ∷ true ∷ true ∷ []

-- the instructions of bytes that are opcodes without operands
abbrev pub plain : List ℕ → List (Option Instr)
plain opcodes = map (λ opcode. instr_at (opcode ∷ []) 0) opcodes

-- those of opcodes with an operand of two bytes, 00 and 20
abbrev pub with_short : List ℕ → List (Option Instr)
with_short opcodes = map (λ opcode. instr_at (opcode ∷ hex (codes "0014")) 0) opcodes

abbrev pub some : List Instr → List (Option Instr)
some instrs = map (λ i. Some i) instrs

-- the lengths of opcodes before 16 bytes
abbrev pub lengths : List ℕ → List (Option ℕ)
lengths opcodes = map (λ opcode. length_at (opcode ∷ replicate 16 0) 0) opcodes

-- opcodes by families, and all by their lengths
pub record Opcodes : Type 0 where
  pub arithmetic : plain (hex (codes "60 64 68 6c 70 78 7a 7c 7e 80 82"))
      ≡ some (map (λ op. Compute op) (Add ∷ Subtract ∷ Multiply ∷ Divide ∷ Remainder ∷ ShiftLeft ∷ ShiftRight ∷ UnsignedShiftRight ∷ And
      ∷ Or ∷ ExclusiveOr ∷ []))
  pub conversions : plain (hex (codes "91 92 93")) ≡ some (map (λ to. Convert to) (ToByte ∷ ToChar ∷ ToShort ∷ []))
  pub moves : plain (hex (codes "57 58 59 5a 5b 5c 5d 5e 5f"))
      ≡ some (map (λ move. Move move) (Pop ∷ Pop2 ∷ Dup ∷ DupX1 ∷ DupX2 ∷ Dup2 ∷ Dup2X1 ∷ Dup2X2 ∷ Swap ∷ []))
  pub constants : plain (hex (codes "02 03 04 05 06 07 08"))
      ≡ some (map (λ n. Const n) (negsuc 0 ∷ pos 0 ∷ pos 1 ∷ pos 2 ∷ pos 3 ∷ pos 4 ∷ pos 5 ∷ []))
  pub loads : plain (hex (codes "1a 1b 1c 1d 2a 2b 2c 2d"))
      ≡ some (map (λ local. Load kinds.Int local) (0 ∷ 1 ∷ 2 ∷ 3 ∷ []) ++ map (λ local. Load kinds.Reference local) (0 ∷ 1 ∷ 2 ∷ 3 ∷ []))
  pub stores : plain (hex (codes "3b 3c 3d 3e 4b 4c 4d 4e"))
      ≡ some (map (λ local. Store kinds.Int local) (0 ∷ 1 ∷ 2 ∷ 3 ∷ []) ++ map (λ local. Store kinds.Reference local) (0 ∷ 1 ∷ 2 ∷ 3 ∷ []))
  pub elements : plain (hex (codes "2e 32 33 34 35 4f 53 54 55 56"))
      ≡ some (map (λ of. LoadElement of) (arrays.Int ∷ arrays.Reference ∷ arrays.ByteOrBoolean ∷ arrays.Char ∷ arrays.Short ∷ [])
      ++ map (λ of. StoreElement of) (arrays.Int ∷ arrays.Reference ∷ arrays.ByteOrBoolean ∷ arrays.Char ∷ arrays.Short ∷ []))
  pub returns : plain (hex (codes "ac b0 b1"))
      ≡ some (map (λ what. Return what) (returned.Int ∷ returned.Reference ∷ returned.Nothing ∷ []))
  pub others : plain (hex (codes "00 01 74 be bf c2 c3"))
      ≡ some (Nop ∷ Null ∷ Negate ∷ ArrayLength ∷ Throw ∷ MonitorEnter ∷ MonitorExit ∷ [])
  pub ifs : with_short (hex (codes "99 9a 9b 9c 9d 9e"))
      ≡ some (map (λ comparison. If comparison (pos 20)) (Equal ∷ NotEqual ∷ Less ∷ GreaterOrEqual ∷ Greater ∷ LessOrEqual ∷ []))
  pub if_icmps : with_short (hex (codes "9f a0 a1 a2 a3 a4"))
      ≡ some (map (λ comparison. IfInts comparison (pos 20)) (Equal ∷ NotEqual ∷ Less ∷ GreaterOrEqual ∷ Greater ∷ LessOrEqual ∷ []))
  pub jumps : with_short (hex (codes "a5 a6 c6 c7 a7"))
      ≡ some (IfReferences true (pos 20) ∷ IfReferences false (pos 20) ∷ IfNull true (pos 20) ∷ IfNull false (pos 20) ∷ Goto (pos 20) ∷ [])
  pub fields : with_short (hex (codes "b2 b3 b4 b5"))
      ≡ some (map (λ access. Field access 20) (GetStatic ∷ PutStatic ∷ GetField ∷ PutField ∷ []))
  pub invocations : with_short (hex (codes "b6 b7 b8")) ≡ some (map (λ invocation. Invoke invocation 20) (Virtual ∷ Special ∷ Static ∷ []))
  pub of_classes : with_short (hex (codes "bb bd c0 c1")) ≡ some (New 20 ∷ NewReferenceArray 20 ∷ CheckCast 20 ∷ InstanceOf 20 ∷ [])
  pub newarray : Reads (hex (codes "bc0a")) 0 (NewArray 10) 2
  pub of_one_byte : lengths (hex (codes "00 01 02 03 04 05 06 07 08 1a 1b 1c 1d 2a 2b 2c 2d 2e 32 33 34 35 3b 3c 3d 3e 4b 4c 4d 4e 4f 53 54 55 56 57 58 59 5a 5b 5c 5d 5e 5f 60 64 68 6c 70 74 78 7a 7c 7e 80 82 91 92 93 ac b0 b1 be bf c2 c3")) ≡ replicate 66 (Some 1)
  pub of_two_bytes : lengths (hex (codes "10 12 15 19 36 3a bc")) ≡ replicate 7 (Some 2)
  pub of_three_bytes : lengths (hex (codes "11 13 84 99 9a 9b 9c 9d 9e 9f a0 a1 a2 a3 a4 a5 a6 a7 b2 b3 b4 b5 b6 b7 b8 bb bd c0 c1 c6 c7"))
      ≡ replicate 31 (Some 3)
  pub of_five_bytes : lengths (hex (codes "b9 c8")) ≡ replicate 2 (Some 5)
  -- those of long, float and double, ldc2_w, jsr, ret, invokedynamic, multianewarray, jsr_w, breakpoint, and bytes that are no opcodes
  pub of_none : lengths (hex (codes "09 0a 0b 0c 0d 0e 0f 14 16 17 18 1e 1f 20 21 22 23 24 25 26 27 28 29 2f 30 31 37 38 39 3f 40 41 42 43 44 45 46 47 48 49 4a 50 51 52 61 62 63 65 66 67 69 6a 6b 6d 6e 6f 71 72 73 75 76 77 79 7b 7d 7f 81 83 85 86 87 88 89 8a 8b 8c 8d 8e 8f 90 94 95 96 97 98 a8 a9 ad ae af ba c5 c9 ca cb cc cd ce cf fe ff")) ≡ replicate 101 None
