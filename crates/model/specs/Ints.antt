-- Ints by their 32 bits, and what is computed from them (JVMS 2.3.1, 2.11.3, 2.11.4).
use Rattle.std.specs.Prelude.{ℕ, ◌+◌, ◌-◌, ◌*◌, ◌/◌, ◌%◌, ◌^◌, ℤ, Bool, false, not, ◌==◌, bit_and, bit_or, bit_xor, int_lt, int_le, int_rem}
use Rattle.std.specs.Int.{w8, w16, w32, cast_signed, cast_unsigned, int_wrapping_div, int_shr}
use Rattle.model.specs.declared.instr.Arithmetic.{Arithmetic}
use Rattle.model.specs.declared.instr.Arithmetic.TheVariants.{Add, Subtract, Multiply, Divide, Remainder, ShiftLeft, ShiftRight, UnsignedShiftRight, And, Or, ExclusiveOr}
use Rattle.model.specs.declared.instr.Conversion.{Conversion}
use Rattle.model.specs.declared.instr.Conversion.TheVariants.{ToByte, ToChar, ToShort}
use Rattle.model.specs.declared.instr.Comparison.{Comparison}
use Rattle.model.specs.declared.instr.Comparison.TheVariants.{Equal, NotEqual, Less, GreaterOrEqual, Greater, LessOrEqual}

-- the int that 32 bits are in two's complement
abbrev pub signed : ℕ → ℤ
signed n = cast_signed w32 n

-- its bits
abbrev pub bits_of : ℤ → ℕ
bits_of z = cast_unsigned w32 z

-- value1 and value2 to the result, modulo 2^32: the quotient is rounded toward zero, and the least int
-- divided by -1 is itself; shifts use the low five bits of value2; what a division by 0 would be is never used
abbrev pub computed : Arithmetic → ℕ → ℕ → ℕ
computed Add a b = (a + b) % 2 ^ 32
computed Subtract a b = (a + (2 ^ 32 - b)) % 2 ^ 32
computed Multiply a b = (a * b) % 2 ^ 32
computed Divide a b = bits_of (int_wrapping_div w32 (signed a) (signed b))
computed Remainder a b = bits_of (int_rem (signed a) (signed b))
computed ShiftLeft a b = (a * 2 ^ (b % 32)) % 2 ^ 32
computed ShiftRight a b = bits_of (int_shr (signed a) (b % 32))
computed UnsignedShiftRight a b = a / 2 ^ (b % 32)
computed And a b = bit_and a b
computed Or a b = bit_or a b
computed ExclusiveOr a b = bit_xor a b

-- idiv and irem by 0 throw an ArithmeticException
abbrev pub cannot_compute : Arithmetic → ℕ → Bool
cannot_compute Add b = false
cannot_compute Subtract b = false
cannot_compute Multiply b = false
cannot_compute Divide b = b == 0
cannot_compute Remainder b = b == 0
cannot_compute ShiftLeft b = false
cannot_compute ShiftRight b = false
cannot_compute UnsignedShiftRight b = false
cannot_compute And b = false
cannot_compute Or b = false
cannot_compute ExclusiveOr b = false

-- ineg
abbrev pub negated : ℕ → ℕ
negated a = (2 ^ 32 - a) % 2 ^ 32

-- i2b and i2s keep the low bits with their sign, i2c without one
abbrev pub converted : Conversion → ℕ → ℕ
converted ToByte a = bits_of (cast_signed w8 (a % 2 ^ 8))
converted ToChar a = a % 2 ^ 16
converted ToShort a = bits_of (cast_signed w16 (a % 2 ^ 16))

-- value1 is compared with value2
abbrev pub holds : Comparison → ℕ → ℕ → Bool
holds Equal a b = a == b
holds NotEqual a b = not (a == b)
holds Less a b = int_lt (signed a) (signed b)
holds GreaterOrEqual a b = int_le (signed b) (signed a)
holds Greater a b = int_lt (signed b) (signed a)
holds LessOrEqual a b = int_le (signed a) (signed b)
