-- The texts that an object tells of itself have units of 16 bits.
use Rattle.std.proofs.Common.{◌<◌, ◌+◌, ◌^◌, ◌/◌, ◌%◌, ◌==◌, ℕ, [], ◌∷◌, Bool, true, false, if◌then◌else◌, arith}
use Rattle.std.specs.Prelude.{nat_lt}
use Rattle.std.proofs.lemmas.List.Elements.{All-append, All-cons, All-map, All-tail}
use Rattle.std.proofs.Math.Nat.{mod-lt}
use Rattle.model.specs.Names.{Name}
use Rattle.model.specs.ObjectMethods.{dotted, dotted_unit, description, hexadecimal, hexadecimal_digit, hexadecimal_digits, type_name, without_zeros}
use Rattle.model.specs.ReferenceTypes.{ReferenceType}
use Rattle.model.specs.Texts.{Text, decoded}
use Rattle.machine_state.specs.shown_objects.Shown.{AreUnits}
use Rattle.machine_state.proofs.shown_objects.Strings.{decoded_units}

abbrev Fits : ℕ → Type 0
Fits unit = unit < 2 ^ 16

dotted_fits : (unit : ℕ) → Fits unit → Fits (dotted_unit unit)
dotted_fits unit h = by (unit == 47)
  where
    by : (b : Bool) → Fits (if b then 46 else unit)
    by true = omega arith
    by false = h

pub dotted_units : (name : Name) → AreUnits (dotted name)
dotted_units name =
    All-map (λ unit. unit < 2 ^ 16) dotted_unit (decoded name) (λ k d within. dotted_fits _ (decoded_units name k d within))

digit_fits : (digit : ℕ) → digit < 16 → Fits (hexadecimal_digit digit)
digit_fits digit h = by (nat_lt digit 10)
  where
    by : (b : Bool) → Fits (if b then 48 + digit else 87 + digit)
    by true = omega (arith, h)
    by false = omega (arith, h)

digits_fit : (bits : ℕ) → AreUnits (hexadecimal_digits bits)
digits_fit bits =
    All-map (λ unit. unit < 2 ^ 16) (λ place. hexadecimal_digit (bits / 16 ^ place % 16)) (7 ∷ 6 ∷ 5 ∷ 4 ∷ 3 ∷ 2 ∷ 1 ∷ 0 ∷ [])
    (λ k d within. digit_fits _ (mod-lt _ (omega arith)))

stripped : (text : Text) → AreUnits text → AreUnits (without_zeros text)
stripped [] h = h
stripped (digit ∷ []) h = h
stripped (digit ∷ other ∷ digits) h = by (digit == 48) (stripped (other ∷ digits) (All-tail (λ unit. unit < 2 ^ 16) digit (other ∷ digits) h))
  where
    by : (b : Bool) → AreUnits (without_zeros (other ∷ digits)) → AreUnits (if b then without_zeros (other ∷ digits) else digit ∷ other ∷ digits)
    by true rest = rest
    by false rest = h

pub description_units : (type : ReferenceType) (bits : ℕ) → AreUnits (description type bits)
description_units type bits =
    All-append (λ unit. unit < 2 ^ 16) (dotted (type_name type)) (64 ∷ hexadecimal bits) (dotted_units (type_name type))
    (All-cons (λ unit. unit < 2 ^ 16) 64 (hexadecimal bits) (omega arith) (stripped (hexadecimal_digits bits) (digits_fit bits)))
