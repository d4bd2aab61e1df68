-- What is computed from ints at the edges, beside what `java` computes from them: a row for each first operand and a
-- column for each second one.
use Rattle.std.specs.Prelude.{◌≡◌, ℕ, zero, suc, ℤ, pos, negsuc, List, [], ◌∷◌, Bool, true, false, map}
use Rattle.model.specs.declared.instr.Arithmetic.{Arithmetic}
use Rattle.model.specs.declared.instr.Arithmetic.TheVariants.{Add, Subtract, Multiply, Divide, Remainder, ShiftLeft, ShiftRight, UnsignedShiftRight, And, Or, ExclusiveOr}
use Rattle.model.specs.declared.instr.Conversion.TheVariants.{ToByte, ToChar, ToShort}
use Rattle.model.specs.declared.instr.Comparison.{Comparison}
use Rattle.model.specs.declared.instr.Comparison.TheVariants.{Equal, NotEqual, Less, GreaterOrEqual, Greater, LessOrEqual}
use Rattle.model.specs.Ints.{bits_of, computed, cannot_compute, negated, converted, holds}

abbrev pub minus : ℕ → ℤ
minus zero = pos 0
minus (suc n) = negsuc n

-- ---- two ints

abbrev pub edges : List ℤ
edges = minus 2147483648 ∷ minus 7 ∷ minus 1 ∷ pos 2 ∷ pos 33 ∷ pos 2147483647 ∷ []

abbrev pub sums : List (List ℤ)
sums =
    (pos 0 ∷ pos 2147483641 ∷ pos 2147483647 ∷ minus 2147483646 ∷ minus 2147483615 ∷ minus 1 ∷ [])
    ∷ (pos 2147483641 ∷ minus 14 ∷ minus 8 ∷ minus 5 ∷ pos 26 ∷ pos 2147483640 ∷ [])
    ∷ (pos 2147483647 ∷ minus 8 ∷ minus 2 ∷ pos 1 ∷ pos 32 ∷ pos 2147483646 ∷ [])
    ∷ (minus 2147483646 ∷ minus 5 ∷ pos 1 ∷ pos 4 ∷ pos 35 ∷ minus 2147483647 ∷ [])
    ∷ (minus 2147483615 ∷ pos 26 ∷ pos 32 ∷ pos 35 ∷ pos 66 ∷ minus 2147483616 ∷ [])
    ∷ (minus 1 ∷ pos 2147483640 ∷ pos 2147483646 ∷ minus 2147483647 ∷ minus 2147483616 ∷ minus 2 ∷ [])
    ∷ []

abbrev pub differences : List (List ℤ)
differences =
    (pos 0 ∷ minus 2147483641 ∷ minus 2147483647 ∷ pos 2147483646 ∷ pos 2147483615 ∷ pos 1 ∷ [])
    ∷ (pos 2147483641 ∷ pos 0 ∷ minus 6 ∷ minus 9 ∷ minus 40 ∷ pos 2147483642 ∷ [])
    ∷ (pos 2147483647 ∷ pos 6 ∷ pos 0 ∷ minus 3 ∷ minus 34 ∷ minus 2147483648 ∷ [])
    ∷ (minus 2147483646 ∷ pos 9 ∷ pos 3 ∷ pos 0 ∷ minus 31 ∷ minus 2147483645 ∷ [])
    ∷ (minus 2147483615 ∷ pos 40 ∷ pos 34 ∷ pos 31 ∷ pos 0 ∷ minus 2147483614 ∷ [])
    ∷ (minus 1 ∷ minus 2147483642 ∷ minus 2147483648 ∷ pos 2147483645 ∷ pos 2147483614 ∷ pos 0 ∷ [])
    ∷ []

abbrev pub products : List (List ℤ)
products =
    (pos 0 ∷ minus 2147483648 ∷ minus 2147483648 ∷ pos 0 ∷ minus 2147483648 ∷ minus 2147483648 ∷ [])
    ∷ (minus 2147483648 ∷ pos 49 ∷ pos 7 ∷ minus 14 ∷ minus 231 ∷ minus 2147483641 ∷ [])
    ∷ (minus 2147483648 ∷ pos 7 ∷ pos 1 ∷ minus 2 ∷ minus 33 ∷ minus 2147483647 ∷ [])
    ∷ (pos 0 ∷ minus 14 ∷ minus 2 ∷ pos 4 ∷ pos 66 ∷ minus 2 ∷ [])
    ∷ (minus 2147483648 ∷ minus 231 ∷ minus 33 ∷ pos 66 ∷ pos 1089 ∷ pos 2147483615 ∷ [])
    ∷ (minus 2147483648 ∷ minus 2147483641 ∷ minus 2147483647 ∷ minus 2 ∷ pos 2147483615 ∷ pos 1 ∷ [])
    ∷ []

abbrev pub quotients : List (List ℤ)
quotients =
    (pos 1 ∷ pos 306783378 ∷ minus 2147483648 ∷ minus 1073741824 ∷ minus 65075262 ∷ minus 1 ∷ [])
    ∷ (pos 0 ∷ pos 1 ∷ pos 7 ∷ minus 3 ∷ pos 0 ∷ pos 0 ∷ [])
    ∷ (pos 0 ∷ pos 0 ∷ pos 1 ∷ pos 0 ∷ pos 0 ∷ pos 0 ∷ [])
    ∷ (pos 0 ∷ pos 0 ∷ minus 2 ∷ pos 1 ∷ pos 0 ∷ pos 0 ∷ [])
    ∷ (pos 0 ∷ minus 4 ∷ minus 33 ∷ pos 16 ∷ pos 1 ∷ pos 0 ∷ [])
    ∷ (pos 0 ∷ minus 306783378 ∷ minus 2147483647 ∷ pos 1073741823 ∷ pos 65075262 ∷ pos 1 ∷ [])
    ∷ []

abbrev pub remainders : List (List ℤ)
remainders =
    (pos 0 ∷ minus 2 ∷ pos 0 ∷ pos 0 ∷ minus 2 ∷ minus 1 ∷ [])
    ∷ (minus 7 ∷ pos 0 ∷ pos 0 ∷ minus 1 ∷ minus 7 ∷ minus 7 ∷ [])
    ∷ (minus 1 ∷ minus 1 ∷ pos 0 ∷ minus 1 ∷ minus 1 ∷ minus 1 ∷ [])
    ∷ (pos 2 ∷ pos 2 ∷ pos 0 ∷ pos 0 ∷ pos 2 ∷ pos 2 ∷ [])
    ∷ (pos 33 ∷ pos 5 ∷ pos 0 ∷ pos 1 ∷ pos 0 ∷ pos 33 ∷ [])
    ∷ (pos 2147483647 ∷ pos 1 ∷ pos 0 ∷ pos 1 ∷ pos 1 ∷ pos 0 ∷ [])
    ∷ []

abbrev pub left_shifts : List (List ℤ)
left_shifts =
    (minus 2147483648 ∷ pos 0 ∷ pos 0 ∷ pos 0 ∷ pos 0 ∷ pos 0 ∷ [])
    ∷ (minus 7 ∷ minus 234881024 ∷ minus 2147483648 ∷ minus 28 ∷ minus 14 ∷ minus 2147483648 ∷ [])
    ∷ (minus 1 ∷ minus 33554432 ∷ minus 2147483648 ∷ minus 4 ∷ minus 2 ∷ minus 2147483648 ∷ [])
    ∷ (pos 2 ∷ pos 67108864 ∷ pos 0 ∷ pos 8 ∷ pos 4 ∷ pos 0 ∷ [])
    ∷ (pos 33 ∷ pos 1107296256 ∷ minus 2147483648 ∷ pos 132 ∷ pos 66 ∷ minus 2147483648 ∷ [])
    ∷ (pos 2147483647 ∷ minus 33554432 ∷ minus 2147483648 ∷ minus 4 ∷ minus 2 ∷ minus 2147483648 ∷ [])
    ∷ []

abbrev pub right_shifts : List (List ℤ)
right_shifts =
    (minus 2147483648 ∷ minus 64 ∷ minus 1 ∷ minus 536870912 ∷ minus 1073741824 ∷ minus 1 ∷ [])
    ∷ (minus 7 ∷ minus 1 ∷ minus 1 ∷ minus 2 ∷ minus 4 ∷ minus 1 ∷ [])
    ∷ (minus 1 ∷ minus 1 ∷ minus 1 ∷ minus 1 ∷ minus 1 ∷ minus 1 ∷ [])
    ∷ (pos 2 ∷ pos 0 ∷ pos 0 ∷ pos 0 ∷ pos 1 ∷ pos 0 ∷ [])
    ∷ (pos 33 ∷ pos 0 ∷ pos 0 ∷ pos 8 ∷ pos 16 ∷ pos 0 ∷ [])
    ∷ (pos 2147483647 ∷ pos 63 ∷ pos 0 ∷ pos 536870911 ∷ pos 1073741823 ∷ pos 0 ∷ [])
    ∷ []

abbrev pub unsigned_right_shifts : List (List ℤ)
unsigned_right_shifts =
    (minus 2147483648 ∷ pos 64 ∷ pos 1 ∷ pos 536870912 ∷ pos 1073741824 ∷ pos 1 ∷ [])
    ∷ (minus 7 ∷ pos 127 ∷ pos 1 ∷ pos 1073741822 ∷ pos 2147483644 ∷ pos 1 ∷ [])
    ∷ (minus 1 ∷ pos 127 ∷ pos 1 ∷ pos 1073741823 ∷ pos 2147483647 ∷ pos 1 ∷ [])
    ∷ (pos 2 ∷ pos 0 ∷ pos 0 ∷ pos 0 ∷ pos 1 ∷ pos 0 ∷ [])
    ∷ (pos 33 ∷ pos 0 ∷ pos 0 ∷ pos 8 ∷ pos 16 ∷ pos 0 ∷ [])
    ∷ (pos 2147483647 ∷ pos 63 ∷ pos 0 ∷ pos 536870911 ∷ pos 1073741823 ∷ pos 0 ∷ [])
    ∷ []

abbrev pub conjunctions : List (List ℤ)
conjunctions =
    (minus 2147483648 ∷ minus 2147483648 ∷ minus 2147483648 ∷ pos 0 ∷ pos 0 ∷ pos 0 ∷ [])
    ∷ (minus 2147483648 ∷ minus 7 ∷ minus 7 ∷ pos 0 ∷ pos 33 ∷ pos 2147483641 ∷ [])
    ∷ (minus 2147483648 ∷ minus 7 ∷ minus 1 ∷ pos 2 ∷ pos 33 ∷ pos 2147483647 ∷ [])
    ∷ (pos 0 ∷ pos 0 ∷ pos 2 ∷ pos 2 ∷ pos 0 ∷ pos 2 ∷ [])
    ∷ (pos 0 ∷ pos 33 ∷ pos 33 ∷ pos 0 ∷ pos 33 ∷ pos 33 ∷ [])
    ∷ (pos 0 ∷ pos 2147483641 ∷ pos 2147483647 ∷ pos 2 ∷ pos 33 ∷ pos 2147483647 ∷ [])
    ∷ []

abbrev pub disjunctions : List (List ℤ)
disjunctions =
    (minus 2147483648 ∷ minus 7 ∷ minus 1 ∷ minus 2147483646 ∷ minus 2147483615 ∷ minus 1 ∷ [])
    ∷ (minus 7 ∷ minus 7 ∷ minus 1 ∷ minus 5 ∷ minus 7 ∷ minus 1 ∷ [])
    ∷ (minus 1 ∷ minus 1 ∷ minus 1 ∷ minus 1 ∷ minus 1 ∷ minus 1 ∷ [])
    ∷ (minus 2147483646 ∷ minus 5 ∷ minus 1 ∷ pos 2 ∷ pos 35 ∷ pos 2147483647 ∷ [])
    ∷ (minus 2147483615 ∷ minus 7 ∷ minus 1 ∷ pos 35 ∷ pos 33 ∷ pos 2147483647 ∷ [])
    ∷ (minus 1 ∷ minus 1 ∷ minus 1 ∷ pos 2147483647 ∷ pos 2147483647 ∷ pos 2147483647 ∷ [])
    ∷ []

abbrev pub exclusive_disjunctions : List (List ℤ)
exclusive_disjunctions =
    (pos 0 ∷ pos 2147483641 ∷ pos 2147483647 ∷ minus 2147483646 ∷ minus 2147483615 ∷ minus 1 ∷ [])
    ∷ (pos 2147483641 ∷ pos 0 ∷ pos 6 ∷ minus 5 ∷ minus 40 ∷ minus 2147483642 ∷ [])
    ∷ (pos 2147483647 ∷ pos 6 ∷ pos 0 ∷ minus 3 ∷ minus 34 ∷ minus 2147483648 ∷ [])
    ∷ (minus 2147483646 ∷ minus 5 ∷ minus 3 ∷ pos 0 ∷ pos 35 ∷ pos 2147483645 ∷ [])
    ∷ (minus 2147483615 ∷ minus 40 ∷ minus 34 ∷ pos 35 ∷ pos 0 ∷ pos 2147483614 ∷ [])
    ∷ (minus 1 ∷ minus 2147483642 ∷ minus 2147483648 ∷ pos 2147483645 ∷ pos 2147483614 ∷ pos 0 ∷ [])
    ∷ []

-- an arithmetic instruction, on each pair of edges
abbrev pub Computes : Arithmetic → List (List ℤ) → Type 0
Computes op results = map (λ a. map (λ b. computed op (bits_of a) (bits_of b)) edges) edges ≡ map (map bits_of) results

pub record Computed : Type 0 where
  pub iadd : Computes Add sums
  pub isub : Computes Subtract differences
  pub imul : Computes Multiply products
  pub idiv : Computes Divide quotients
  pub irem : Computes Remainder remainders
  pub ishl : Computes ShiftLeft left_shifts
  pub ishr : Computes ShiftRight right_shifts
  pub iushr : Computes UnsignedShiftRight unsigned_right_shifts
  pub iand : Computes And conjunctions
  pub ior : Computes Or disjunctions
  pub ixor : Computes ExclusiveOr exclusive_disjunctions
  -- by 0 only idiv and irem cannot be done, and by others all can
  pub by_zero : map (λ op. cannot_compute op 0) (Divide ∷ Remainder ∷ Add ∷ Subtract ∷ Multiply ∷ ShiftLeft ∷ ShiftRight
      ∷ UnsignedShiftRight ∷ And ∷ Or ∷ ExclusiveOr ∷ [])
      ≡ true ∷ true ∷ false ∷ false ∷ false ∷ false ∷ false ∷ false ∷ false ∷ false ∷ false ∷ []
  pub by_others : map (λ b. cannot_compute Divide (bits_of b)) edges ≡ false ∷ false ∷ false ∷ false ∷ false ∷ false ∷ []
  pub remainder_by_others : map (λ b. cannot_compute Remainder (bits_of b)) edges ≡ false ∷ false ∷ false ∷ false ∷ false ∷ false ∷ []

-- ---- two ints compared

abbrev pub compared_edges : List ℤ
compared_edges = minus 2147483648 ∷ minus 1 ∷ pos 0 ∷ pos 2147483647 ∷ []

abbrev pub equal : List (List Bool)
equal =
    (true ∷ false ∷ false ∷ false ∷ []) ∷ (false ∷ true ∷ false ∷ false ∷ []) ∷ (false ∷ false ∷ true ∷ false ∷ []) ∷ (false ∷ false ∷ false ∷ true ∷ []) ∷ []

abbrev pub not_equal : List (List Bool)
not_equal =
    (false ∷ true ∷ true ∷ true ∷ []) ∷ (true ∷ false ∷ true ∷ true ∷ []) ∷ (true ∷ true ∷ false ∷ true ∷ []) ∷ (true ∷ true ∷ true ∷ false ∷ []) ∷ []

abbrev pub less : List (List Bool)
less =
    (false ∷ true ∷ true ∷ true ∷ []) ∷ (false ∷ false ∷ true ∷ true ∷ []) ∷ (false ∷ false ∷ false ∷ true ∷ []) ∷ (false ∷ false ∷ false ∷ false ∷ []) ∷ []

abbrev pub greater_or_equal : List (List Bool)
greater_or_equal =
    (true ∷ false ∷ false ∷ false ∷ []) ∷ (true ∷ true ∷ false ∷ false ∷ []) ∷ (true ∷ true ∷ true ∷ false ∷ []) ∷ (true ∷ true ∷ true ∷ true ∷ []) ∷ []

abbrev pub greater : List (List Bool)
greater =
    (false ∷ false ∷ false ∷ false ∷ []) ∷ (true ∷ false ∷ false ∷ false ∷ []) ∷ (true ∷ true ∷ false ∷ false ∷ []) ∷ (true ∷ true ∷ true ∷ false ∷ []) ∷ []

abbrev pub less_or_equal : List (List Bool)
less_or_equal =
    (true ∷ true ∷ true ∷ true ∷ []) ∷ (false ∷ true ∷ true ∷ true ∷ []) ∷ (false ∷ false ∷ true ∷ true ∷ []) ∷ (false ∷ false ∷ false ∷ true ∷ []) ∷ []

abbrev pub Compares : Comparison → List (List Bool) → Type 0
Compares comparison results = map (λ a. map (λ b. holds comparison (bits_of a) (bits_of b)) compared_edges) compared_edges ≡ results

pub record Compared : Type 0 where
  pub eq : Compares Equal equal
  pub ne : Compares NotEqual not_equal
  pub lt : Compares Less less
  pub ge : Compares GreaterOrEqual greater_or_equal
  pub gt : Compares Greater greater
  pub le : Compares LessOrEqual less_or_equal

-- ---- one int

abbrev pub narrowed : List ℤ
narrowed =
    minus 2147483648 ∷ minus 32769 ∷ minus 32768 ∷ minus 129 ∷ minus 128 ∷ minus 1 ∷ pos 0 ∷ pos 127
    ∷ pos 128 ∷ pos 255 ∷ pos 256 ∷ pos 32767 ∷ pos 32768 ∷ pos 65535 ∷ pos 65536 ∷ pos 2147483647 ∷ []

abbrev pub negatives : List ℤ
negatives =
    minus 2147483648 ∷ pos 32769 ∷ pos 32768 ∷ pos 129 ∷ pos 128 ∷ pos 1 ∷ pos 0 ∷ minus 127
    ∷ minus 128 ∷ minus 255 ∷ minus 256 ∷ minus 32767 ∷ minus 32768 ∷ minus 65535 ∷ minus 65536 ∷ minus 2147483647 ∷ []

abbrev pub bytes : List ℤ
bytes =
    pos 0 ∷ minus 1 ∷ pos 0 ∷ pos 127 ∷ minus 128 ∷ minus 1 ∷ pos 0 ∷ pos 127
    ∷ minus 128 ∷ minus 1 ∷ pos 0 ∷ minus 1 ∷ pos 0 ∷ minus 1 ∷ pos 0 ∷ minus 1 ∷ []

abbrev pub chars : List ℤ
chars =
    pos 0 ∷ pos 32767 ∷ pos 32768 ∷ pos 65407 ∷ pos 65408 ∷ pos 65535 ∷ pos 0 ∷ pos 127
    ∷ pos 128 ∷ pos 255 ∷ pos 256 ∷ pos 32767 ∷ pos 32768 ∷ pos 65535 ∷ pos 0 ∷ pos 65535 ∷ []

abbrev pub shorts : List ℤ
shorts =
    pos 0 ∷ pos 32767 ∷ minus 32768 ∷ minus 129 ∷ minus 128 ∷ minus 1 ∷ pos 0 ∷ pos 127
    ∷ pos 128 ∷ pos 255 ∷ pos 256 ∷ pos 32767 ∷ minus 32768 ∷ minus 1 ∷ pos 0 ∷ minus 1 ∷ []

pub record Converted : Type 0 where
  pub ineg : map (λ a. negated (bits_of a)) narrowed ≡ map bits_of negatives
  pub i2b : map (λ a. converted ToByte (bits_of a)) narrowed ≡ map bits_of bytes
  pub i2c : map (λ a. converted ToChar (bits_of a)) narrowed ≡ map bits_of chars
  pub i2s : map (λ a. converted ToShort (bits_of a)) narrowed ≡ map bits_of shorts
