-- Where the jumps lead: to their target or on to the next instruction.
use Rattle.std.specs.Prelude.{◌≡◌, ℕ, ℤ, pos, negsuc, List, [], ◌∷◌, Option, Some, Bool, true, false, if◌then◌else◌, map, codes}
use Rattle.std.specs.Option.{option_map}
use Rattle.model.specs.declared.instr.Comparison.TheVariants.{Equal, NotEqual, Less, GreaterOrEqual, Greater, LessOrEqual}
use Rattle.model.specs.declared.instr.Instr.{Instr}
use Rattle.model.specs.declared.instr.Instr.TheVariants.{If, IfInts, Goto, TableSwitch, LookupSwitch}
use Rattle.model.specs.declared.value.Value.{Value}
use Rattle.model.specs.declared.value.Value.TheVariants.{Int}
use Rattle.model.specs.Ints.{bits_of}
use Rattle.model.specs.Operands.{word_of}
use Rattle.model.specs.Rows.{row_target, local_row}
use Rattle.run_laws.specs.examples.Bytes.{hex}

-- where an instruction at 100 of a code leads, whose next one is at 103, by its operands, the top first
abbrev pub target_in : List ℕ → Instr → List Value → Option ℕ
target_in code instr operands = option_map (λ row. row_target row (map word_of operands)) (local_row [] code 100 103 instr)

-- by which of these operands an instruction jumps, whose jump is 20
abbrev pub Jumps : Instr → List (List Value) → List Bool → Type 0
Jumps instr operands jumps = map (target_in [] instr) operands ≡ map (λ jump. Some (if jump then 120 else 103)) jumps

-- value -1, 0, 1
abbrev pub single : List (List Value)
single = (Int 0xffffffff ∷ []) ∷ (Int 0 ∷ []) ∷ (Int 1 ∷ []) ∷ []

-- value1 below, at and above value2, which is on top: 1 and 2, 2 and 2, 2 and 1, and -1 and 1
abbrev pub couples : List (List Value)
couples = (Int 2 ∷ Int 1 ∷ []) ∷ (Int 2 ∷ Int 2 ∷ []) ∷ (Int 1 ∷ Int 2 ∷ []) ∷ (Int 1 ∷ Int 0xffffffff ∷ []) ∷ []

-- jumps of a tableswitch, or matches and jumps of a lookupswitch
abbrev pub jumps : List ℕ
jumps = hex (codes "0000000a 00000014 fffffff6")

abbrev pub pairs : List ℕ
pairs = hex (codes "80000000 0000000a ffffffff 00000014 00000007 fffffff6")

-- where a switch leads for some ints
abbrev pub Switches : List ℕ → Instr → List ℤ → List ℕ → Type 0
Switches code instr keys targets = map (λ key. target_in code instr (Int (bits_of key) ∷ [])) keys ≡ map (λ to. Some to) targets

pub record Branches : Type 0 where
  pub ifeq : Jumps (If Equal (pos 20)) single (false ∷ true ∷ false ∷ [])
  pub ifne : Jumps (If NotEqual (pos 20)) single (true ∷ false ∷ true ∷ [])
  pub iflt : Jumps (If Less (pos 20)) single (true ∷ false ∷ false ∷ [])
  pub ifge : Jumps (If GreaterOrEqual (pos 20)) single (false ∷ true ∷ true ∷ [])
  pub ifgt : Jumps (If Greater (pos 20)) single (false ∷ false ∷ true ∷ [])
  pub ifle : Jumps (If LessOrEqual (pos 20)) single (true ∷ true ∷ false ∷ [])
  pub if_icmpeq : Jumps (IfInts Equal (pos 20)) couples (false ∷ true ∷ false ∷ false ∷ [])
  pub if_icmpne : Jumps (IfInts NotEqual (pos 20)) couples (true ∷ false ∷ true ∷ true ∷ [])
  pub if_icmplt : Jumps (IfInts Less (pos 20)) couples (true ∷ false ∷ false ∷ true ∷ [])
  pub if_icmpge : Jumps (IfInts GreaterOrEqual (pos 20)) couples (false ∷ true ∷ true ∷ false ∷ [])
  pub if_icmpgt : Jumps (IfInts Greater (pos 20)) couples (false ∷ false ∷ true ∷ false ∷ [])
  pub if_icmple : Jumps (IfInts LessOrEqual (pos 20)) couples (true ∷ true ∷ false ∷ true ∷ [])
  pub goto : Jumps (Goto (pos 20)) ([] ∷ []) (true ∷ [])
  pub backwards : target_in [] (Goto (negsuc 99)) [] ≡ Some 0
  -- from -1 to 1; for -3, -2, -1, 0, 1, 2 and the least and the greatest int
  pub tableswitch : Switches jumps (TableSwitch (pos 50) (negsuc 0) (pos 1) 0) (negsuc 2 ∷ negsuc 1 ∷ negsuc 0 ∷ pos 0 ∷ pos 1 ∷ pos 2
      ∷ negsuc 2147483647 ∷ pos 2147483647 ∷ []) (150 ∷ 150 ∷ 110 ∷ 120 ∷ 90 ∷ 150 ∷ 150 ∷ 150 ∷ [])
  -- of the least int, -1 and 7; for these, 0, 8 and the greatest int
  pub lookupswitch : Switches pairs (LookupSwitch (pos 50) 3 0) (negsuc 2147483647 ∷ negsuc 0 ∷ pos 7 ∷ pos 0 ∷ pos 8 ∷ pos 2147483647
      ∷ []) (110 ∷ 120 ∷ 90 ∷ 150 ∷ 150 ∷ 150 ∷ [])
