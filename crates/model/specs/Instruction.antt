-- Which instruction the bytes of a method's code hold at an offset (JVMS 4.7.3, 4.9.1, 6.5). Offsets count from the method's start.
use Rattle.std.specs.Prelude.{ℕ, ◌+◌, ◌≤◌, ◌-◌, ◌*◌, ◌%◌, ◌^◌, ℤ, pos, ◌-ℤ◌, unsigned_abs, List, length, drop, Option, Some, None, nat_lt, ◌==◌, if◌then◌else◌, option_map, unwrap_or}
use Rattle.std.specs.Int.{Width, w8, w16, w32, byte_len, cast_signed}
use lib.Signed.{le_z}
use Rattle.byteorder.specs.Endian.{big_number}
use Rattle.model.specs.declared.instr.Kind.TheVariants as kinds
use Rattle.model.specs.declared.instr.Instr.{Instr}
use Rattle.model.specs.declared.instr.Instr.TheVariants.{Load, Store, Increment, TableSwitch, LookupSwitch}
use Rattle.model.specs.OpcodeTable.{Form, Plain, Byte, Short, SignedByte, SignedShort, SignedWord, ByteAndSignedByte, ShortAndTwoBytes, TableSwitched, LookupSwitched, Widened, NoForm, form_of}

infixl 10 ◌>>=◌
abbrev pub ◌>>=◌ : {A B : Type 0} → Option A → (A → Option B) → Option B
None >>= f = None
(Some x) >>= f = f x

-- the number in n bytes at an offset, if they are there
abbrev pub word_at : ℕ → List ℕ → ℕ → Option ℕ
word_at n code at = if nat_lt (length code) (at + n) then None else Some (big_number n (drop at code))

-- the same, in two's complement
abbrev pub signed_at : Width → List ℕ → ℕ → Option ℤ
signed_at w code at = if nat_lt (length code) (at + byte_len w) then None else Some (cast_signed w (big_number (byte_len w) (drop at code)))

-- an instruction, with its length in bytes
abbrev pub Sized : Type 0
Sized = Instr × ℕ

-- `wide`: two bytes for a local variable, and for a constant
unfoldable pub wide_at : List ℕ → ℕ → Option Sized
wide_at code pc = do
  opcode ← word_at 1 code (pc + 1)
  local ← word_at 2 code (pc + 2)
  if opcode == 0x15 then Some (Load kinds.Int local, 4)
      else if opcode == 0x19 then Some (Load kinds.Reference local, 4)
      else if opcode == 0x36 then Some (Store kinds.Int local, 4)
      else if opcode == 0x3a then Some (Store kinds.Reference local, 4)
      else if opcode == 0x84 then (do
        by ← signed_at w16 code (pc + 4)
        Some (Increment local by, 6))
      else None

-- where the operands of a switch begin: at the next multiple of four, whatever the bytes before it are
abbrev pub operands_of : ℕ → ℕ
operands_of pc = pc + 4 - pc % 4

-- how many jumps a `tableswitch` has
abbrev pub jump_count : ℤ → ℤ → ℕ
jump_count low high = unsigned_abs (high -ℤ low) + 1

-- an instruction that ends with the len bytes at an offset, if they are there
abbrev pub ending_at : List ℕ → ℕ → ℕ → ℕ → Instr → Option Sized
ending_at code pc at len i = if nat_lt (length code) (at + len) then None else Some (i, at + len - pc)

unfoldable pub table_switch_at : List ℕ → ℕ → Option Sized
table_switch_at code pc = do
  default ← signed_at w32 code (operands_of pc)
  low ← signed_at w32 code (operands_of pc + 4)
  high ← signed_at w32 code (operands_of pc + 8)
  if le_z low high then ending_at code pc (operands_of pc + 12) (4 * jump_count low high) (TableSwitch default low high (operands_of pc + 12)) else None

-- the count is signed, and is not to be negative
unfoldable pub lookup_switch_at : List ℕ → ℕ → Option Sized
lookup_switch_at code pc = do
  default ← signed_at w32 code (operands_of pc)
  pairs ← word_at 4 code (operands_of pc + 4)
  if nat_lt pairs (2 ^ 31) then ending_at code pc (operands_of pc + 8) (8 * pairs) (LookupSwitch default pairs (operands_of pc + 8)) else None

-- what a form makes of the bytes behind the opcode at pc
abbrev pub made_of : Form → List ℕ → ℕ → Option Sized
made_of (Plain i) code pc = Some (i, 1)
made_of (Byte make) code pc = do
  n ← word_at 1 code (pc + 1)
  Some (make n, 2)
made_of (Short make) code pc = do
  n ← word_at 2 code (pc + 1)
  Some (make n, 3)
made_of (SignedByte make) code pc = do
  n ← signed_at w8 code (pc + 1)
  Some (make n, 2)
made_of (SignedShort make) code pc = do
  n ← signed_at w16 code (pc + 1)
  Some (make n, 3)
made_of (SignedWord make) code pc = do
  n ← signed_at w32 code (pc + 1)
  Some (make n, 5)
made_of (ByteAndSignedByte make) code pc = do
  n ← word_at 1 code (pc + 1)
  by ← signed_at w8 code (pc + 2)
  Some (make n by, 3)
made_of (ShortAndTwoBytes make) code pc = do
  n ← word_at 2 code (pc + 1)
  a ← word_at 1 code (pc + 3)
  b ← word_at 1 code (pc + 4)
  Some (make n a b, 5)
made_of TableSwitched code pc = table_switch_at code pc
made_of LookupSwitched code pc = lookup_switch_at code pc
made_of Widened code pc = wide_at code pc
made_of NoForm code pc = None

-- the instruction at an offset with its length, if a whole one begins there
abbrev pub sized_at : List ℕ → ℕ → Option Sized
sized_at code pc = do
  opcode ← word_at 1 code pc
  made_of (form_of opcode) code pc

-- the instruction at an offset
abbrev pub instr_at : List ℕ → ℕ → Option Instr
instr_at code pc = option_map (λ (s : Sized). s.0) (sized_at code pc)

-- how many bytes it has
abbrev pub length_at : List ℕ → ℕ → Option ℕ
length_at code pc = option_map (λ (s : Sized). s.1) (sized_at code pc)

-- there is a byte, and n of them are in the code from an offset on
abbrev pub HasBytes : List ℕ → ℕ → ℕ → Type 0
HasBytes code pc n = (1 ≤ n) × (pc + n ≤ length code)

-- the kth jump of a `tableswitch` whose jumps begin at an offset; 0 where the bytes are not there
abbrev pub table_jump : List ℕ → ℕ → ℕ → ℤ
table_jump code at k = unwrap_or (signed_at w32 code (at + 4 * k)) (pos 0)

-- the kth match and jump of a `lookupswitch` whose pairs begin at an offset; 0 where the bytes are not there
abbrev pub lookup_pair : List ℕ → ℕ → ℕ → ℤ × ℤ
lookup_pair code at k = (unwrap_or (signed_at w32 code (at + 8 * k)) (pos 0), unwrap_or (signed_at w32 code (at + 8 * k + 4)) (pos 0))
