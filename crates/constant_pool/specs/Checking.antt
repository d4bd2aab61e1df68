-- What a check of a condition promises, and what a length does.
use Rattle.std.specs.Prelude.{◌≡◌, ℕ, ◌-◌, ◌^◌, Bool, true, false, min, Result, Ok, Err}
use Rattle.constant_pool.specs.declared.reading.fault.Cause.{Cause}
use Rattle.constant_pool.specs.declared.reading.fault.Malformed.{Malformed}

-- a check passes where its condition is met, and else answers a fault of this cause
abbrev pub Checks : {A : Type 0} → Cause → Result A Malformed → Bool → Type 0
Checks cause (Ok x) is_met = is_met ≡ true
Checks cause (Err e) is_met = (is_met ≡ false) × (e.cause ≡ cause)

-- the number, or the highest `usize` where it is above
abbrev pub saturated : ℕ → ℕ
saturated n = min n (2 ^ 64 - 1)
