-- The opcodes of the instructions that this machine knows, with their mnemonics and operands (JVMS 6.5, chapter 7). The opcodes
-- that stand in no row, those of long, float and double and jsr, ret, breakpoint and the like, begin no instruction (own).
use Rattle.std.specs.Prelude.{ℕ, ◌+◌, ◌-◌, ◌++◌, ℤ, pos, negsuc, List, [], ◌∷◌, Option, Some, None, Bool, true, false, nat_lt, nat_le, ◌&&◌, if◌then◌else◌, codes}
use Rattle.model.specs.declared.instr.Kind.TheVariants as kinds
use Rattle.model.specs.declared.instr.ArrayKind.TheVariants as arrays
use Rattle.model.specs.declared.instr.Arithmetic.TheVariants.{Add, Subtract, Multiply, Divide, Remainder, ShiftLeft, ShiftRight, UnsignedShiftRight, And, Or, ExclusiveOr}
use Rattle.model.specs.declared.instr.Conversion.TheVariants.{ToByte, ToChar, ToShort}
use Rattle.model.specs.declared.instr.Comparison.TheVariants.{Equal, NotEqual, Less, GreaterOrEqual, Greater, LessOrEqual}
use Rattle.model.specs.declared.instr.StackMove.TheVariants.{Pop, Pop2, Dup, DupX1, DupX2, Dup2, Dup2X1, Dup2X2, Swap}
use Rattle.model.specs.declared.instr.Returned.TheVariants as returned
use Rattle.model.specs.declared.instr.FieldAccess.TheVariants.{GetStatic, PutStatic, GetField, PutField}
use Rattle.model.specs.declared.instr.Invocation.TheVariants.{Virtual, Special, Static}
use Rattle.model.specs.declared.instr.Instr.{Instr}
use Rattle.model.specs.declared.instr.Instr.TheVariants.{Nop, Null, Const, LoadConstant, Load, Store, LoadElement, StoreElement, Move, Compute, Negate, Increment, Convert, If, IfInts, IfReferences, IfNull, Goto, Return, Field, Invoke, InvokeInterface, New, NewArray, NewReferenceArray, ArrayLength, Throw, CheckCast, InstanceOf, MonitorEnter, MonitorExit}

-- the operands that stand behind an opcode, and the instruction that they make
pub data Form : Type 0 where
  Plain : Instr → Form
  -- one byte, or two, high byte first
  Byte : (ℕ → Instr) → Form
  Short : (ℕ → Instr) → Form
  -- signed: one byte, two or four
  SignedByte : (ℤ → Instr) → Form
  SignedShort : (ℤ → Instr) → Form
  SignedWord : (ℤ → Instr) → Form
  -- the index of a local variable and a constant (`iinc`)
  ByteAndSignedByte : (ℕ → ℤ → Instr) → Form
  -- an index, a count and a last byte (`invokeinterface`)
  ShortAndTwoBytes : (ℕ → ℕ → ℕ → Instr) → Form
  TableSwitched : Form
  LookupSwitched : Form
  Widened : Form
  NoForm : Form

-- the opcodes from one to another, with the mnemonic and the form of each by how far it is from the first
pub record Row : Type 0 where
  pub first : ℕ
  pub last : ℕ
  pub mnemonic : ℕ → List ℕ
  pub form : ℕ → Form

-- a row of one opcode
abbrev pub op : ℕ → List ℕ → Form → Row
op opcode mnemonic form = record { first = opcode; last = opcode; mnemonic = λ _. mnemonic; form = λ _. form }

-- the character of a decimal digit
abbrev pub digit : ℕ → ℕ
digit k = 48 + k

-- a row whose mnemonics end in a digit from 0 on, as `iload_0` to `iload_3`
abbrev pub ops : ℕ → ℕ → List ℕ → (ℕ → Form) → Row
ops first last mnemonic form = record { first = first; last = last; mnemonic = λ k. mnemonic ++ digit k ∷ []; form = form }

-- JVMS 7: constants and loads
abbrev pub constants_and_loads : List Row
constants_and_loads =
    op 0x00 (codes "nop") (Plain Nop)
    ∷ op 0x01 (codes "aconst_null") (Plain Null)
    ∷ op 0x02 (codes "iconst_m1") (Plain (Const (negsuc 0)))
    ∷ ops 0x03 0x08 (codes "iconst_") (λ k. Plain (Const (pos k)))
    ∷ op 0x10 (codes "bipush") (SignedByte (λ n. Const n))
    ∷ op 0x11 (codes "sipush") (SignedShort (λ n. Const n))
    ∷ op 0x12 (codes "ldc") (Byte (λ index. LoadConstant index))
    ∷ op 0x13 (codes "ldc_w") (Short (λ index. LoadConstant index))
    ∷ op 0x15 (codes "iload") (Byte (λ local. Load kinds.Int local))
    ∷ op 0x19 (codes "aload") (Byte (λ local. Load kinds.Reference local))
    ∷ ops 0x1a 0x1d (codes "iload_") (λ local. Plain (Load kinds.Int local))
    ∷ ops 0x2a 0x2d (codes "aload_") (λ local. Plain (Load kinds.Reference local))
    ∷ op 0x2e (codes "iaload") (Plain (LoadElement arrays.Int))
    ∷ op 0x32 (codes "aaload") (Plain (LoadElement arrays.Reference))
    ∷ op 0x33 (codes "baload") (Plain (LoadElement arrays.ByteOrBoolean))
    ∷ op 0x34 (codes "caload") (Plain (LoadElement arrays.Char))
    ∷ op 0x35 (codes "saload") (Plain (LoadElement arrays.Short))
    ∷ []

-- JVMS 7: stores and stack
abbrev pub stores_and_stack : List Row
stores_and_stack =
    op 0x36 (codes "istore") (Byte (λ local. Store kinds.Int local))
    ∷ op 0x3a (codes "astore") (Byte (λ local. Store kinds.Reference local))
    ∷ ops 0x3b 0x3e (codes "istore_") (λ local. Plain (Store kinds.Int local))
    ∷ ops 0x4b 0x4e (codes "astore_") (λ local. Plain (Store kinds.Reference local))
    ∷ op 0x4f (codes "iastore") (Plain (StoreElement arrays.Int))
    ∷ op 0x53 (codes "aastore") (Plain (StoreElement arrays.Reference))
    ∷ op 0x54 (codes "bastore") (Plain (StoreElement arrays.ByteOrBoolean))
    ∷ op 0x55 (codes "castore") (Plain (StoreElement arrays.Char))
    ∷ op 0x56 (codes "sastore") (Plain (StoreElement arrays.Short))
    ∷ op 0x57 (codes "pop") (Plain (Move Pop))
    ∷ op 0x58 (codes "pop2") (Plain (Move Pop2))
    ∷ op 0x59 (codes "dup") (Plain (Move Dup))
    ∷ op 0x5a (codes "dup_x1") (Plain (Move DupX1))
    ∷ op 0x5b (codes "dup_x2") (Plain (Move DupX2))
    ∷ op 0x5c (codes "dup2") (Plain (Move Dup2))
    ∷ op 0x5d (codes "dup2_x1") (Plain (Move Dup2X1))
    ∷ op 0x5e (codes "dup2_x2") (Plain (Move Dup2X2))
    ∷ op 0x5f (codes "swap") (Plain (Move Swap))
    ∷ []

-- JVMS 7: math and conversions
abbrev pub math_and_conversions : List Row
math_and_conversions =
    op 0x60 (codes "iadd") (Plain (Compute Add))
    ∷ op 0x64 (codes "isub") (Plain (Compute Subtract))
    ∷ op 0x68 (codes "imul") (Plain (Compute Multiply))
    ∷ op 0x6c (codes "idiv") (Plain (Compute Divide))
    ∷ op 0x70 (codes "irem") (Plain (Compute Remainder))
    ∷ op 0x74 (codes "ineg") (Plain Negate)
    ∷ op 0x78 (codes "ishl") (Plain (Compute ShiftLeft))
    ∷ op 0x7a (codes "ishr") (Plain (Compute ShiftRight))
    ∷ op 0x7c (codes "iushr") (Plain (Compute UnsignedShiftRight))
    ∷ op 0x7e (codes "iand") (Plain (Compute And))
    ∷ op 0x80 (codes "ior") (Plain (Compute Or))
    ∷ op 0x82 (codes "ixor") (Plain (Compute ExclusiveOr))
    ∷ op 0x84 (codes "iinc") (ByteAndSignedByte (λ local by. Increment local by))
    ∷ op 0x91 (codes "i2b") (Plain (Convert ToByte))
    ∷ op 0x92 (codes "i2c") (Plain (Convert ToChar))
    ∷ op 0x93 (codes "i2s") (Plain (Convert ToShort))
    ∷ []

-- JVMS 7: comparisons
abbrev pub comparisons : List Row
comparisons =
    op 0x99 (codes "ifeq") (SignedShort (λ by. If Equal by))
    ∷ op 0x9a (codes "ifne") (SignedShort (λ by. If NotEqual by))
    ∷ op 0x9b (codes "iflt") (SignedShort (λ by. If Less by))
    ∷ op 0x9c (codes "ifge") (SignedShort (λ by. If GreaterOrEqual by))
    ∷ op 0x9d (codes "ifgt") (SignedShort (λ by. If Greater by))
    ∷ op 0x9e (codes "ifle") (SignedShort (λ by. If LessOrEqual by))
    ∷ op 0x9f (codes "if_icmpeq") (SignedShort (λ by. IfInts Equal by))
    ∷ op 0xa0 (codes "if_icmpne") (SignedShort (λ by. IfInts NotEqual by))
    ∷ op 0xa1 (codes "if_icmplt") (SignedShort (λ by. IfInts Less by))
    ∷ op 0xa2 (codes "if_icmpge") (SignedShort (λ by. IfInts GreaterOrEqual by))
    ∷ op 0xa3 (codes "if_icmpgt") (SignedShort (λ by. IfInts Greater by))
    ∷ op 0xa4 (codes "if_icmple") (SignedShort (λ by. IfInts LessOrEqual by))
    ∷ op 0xa5 (codes "if_acmpeq") (SignedShort (λ by. IfReferences true by))
    ∷ op 0xa6 (codes "if_acmpne") (SignedShort (λ by. IfReferences false by))
    ∷ []

-- JVMS 7: control
abbrev pub control : List Row
control =
    op 0xa7 (codes "goto") (SignedShort (λ by. Goto by))
    ∷ op 0xaa (codes "tableswitch") TableSwitched
    ∷ op 0xab (codes "lookupswitch") LookupSwitched
    ∷ op 0xac (codes "ireturn") (Plain (Return returned.Int))
    ∷ op 0xb0 (codes "areturn") (Plain (Return returned.Reference))
    ∷ op 0xb1 (codes "return") (Plain (Return returned.Nothing))
    ∷ []

-- JVMS 7: references
abbrev pub references : List Row
references =
    op 0xb2 (codes "getstatic") (Short (λ index. Field GetStatic index))
    ∷ op 0xb3 (codes "putstatic") (Short (λ index. Field PutStatic index))
    ∷ op 0xb4 (codes "getfield") (Short (λ index. Field GetField index))
    ∷ op 0xb5 (codes "putfield") (Short (λ index. Field PutField index))
    ∷ op 0xb6 (codes "invokevirtual") (Short (λ index. Invoke Virtual index))
    ∷ op 0xb7 (codes "invokespecial") (Short (λ index. Invoke Special index))
    ∷ op 0xb8 (codes "invokestatic") (Short (λ index. Invoke Static index))
    ∷ op 0xb9 (codes "invokeinterface") (ShortAndTwoBytes (λ index count last. InvokeInterface index count last))
    ∷ op 0xbb (codes "new") (Short (λ index. New index))
    ∷ op 0xbc (codes "newarray") (Byte (λ code. NewArray code))
    ∷ op 0xbd (codes "anewarray") (Short (λ index. NewReferenceArray index))
    ∷ op 0xbe (codes "arraylength") (Plain ArrayLength)
    ∷ op 0xbf (codes "athrow") (Plain Throw)
    ∷ op 0xc0 (codes "checkcast") (Short (λ index. CheckCast index))
    ∷ op 0xc1 (codes "instanceof") (Short (λ index. InstanceOf index))
    ∷ op 0xc2 (codes "monitorenter") (Plain MonitorEnter)
    ∷ op 0xc3 (codes "monitorexit") (Plain MonitorExit)
    ∷ []

-- JVMS 7: extended
abbrev pub extended : List Row
extended =
    op 0xc4 (codes "wide") Widened
    ∷ op 0xc6 (codes "ifnull") (SignedShort (λ by. IfNull true by))
    ∷ op 0xc7 (codes "ifnonnull") (SignedShort (λ by. IfNull false by))
    ∷ op 0xc8 (codes "goto_w") (SignedWord (λ by. Goto by))
    ∷ []

abbrev pub is_of : Row → ℕ → Bool
is_of r opcode = nat_le r.first opcode && nat_le opcode r.last

-- the form of an opcode by some rows
abbrev pub form_in : List Row → ℕ → Form
form_in [] opcode = NoForm
form_in (r ∷ rows) opcode = if is_of r opcode then r.form (opcode - r.first) else form_in rows opcode

-- the mnemonic of an opcode by some rows
abbrev pub mnemonic_in : List Row → ℕ → Option (List ℕ)
mnemonic_in [] opcode = None
mnemonic_in (r ∷ rows) opcode = if is_of r opcode then Some (r.mnemonic (opcode - r.first)) else mnemonic_in rows opcode

-- the rows among which an opcode stands: those below 0x99, and those from there on
unfoldable pub low_form : ℕ → Form
low_form opcode =
    if nat_lt opcode 0x36 then form_in constants_and_loads opcode
    else if nat_lt opcode 0x60 then form_in stores_and_stack opcode
    else form_in math_and_conversions opcode

unfoldable pub high_form : ℕ → Form
high_form opcode =
    if nat_lt opcode 0xa7 then form_in comparisons opcode
    else if nat_lt opcode 0xb2 then form_in control opcode
    else if nat_lt opcode 0xc4 then form_in references opcode
    else form_in extended opcode

-- the form of an opcode
abbrev pub form_of : ℕ → Form
form_of opcode = if nat_lt opcode 0x99 then low_form opcode else high_form opcode

unfoldable pub low_mnemonic : ℕ → Option (List ℕ)
low_mnemonic opcode =
    if nat_lt opcode 0x36 then mnemonic_in constants_and_loads opcode
    else if nat_lt opcode 0x60 then mnemonic_in stores_and_stack opcode
    else mnemonic_in math_and_conversions opcode

unfoldable pub high_mnemonic : ℕ → Option (List ℕ)
high_mnemonic opcode =
    if nat_lt opcode 0xa7 then mnemonic_in comparisons opcode
    else if nat_lt opcode 0xb2 then mnemonic_in control opcode
    else if nat_lt opcode 0xc4 then mnemonic_in references opcode
    else mnemonic_in extended opcode

-- the mnemonic of an opcode
abbrev pub mnemonic_of : ℕ → Option (List ℕ)
mnemonic_of opcode = if nat_lt opcode 0x99 then low_mnemonic opcode else high_mnemonic opcode
