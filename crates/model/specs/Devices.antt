-- What a call of a device leaves (own).
use Rattle.std.specs.Prelude.{◌≡◌, ℕ, ◌+◌, List, Option, Result, Ok, Err, ◌++◌}
use Rattle.std.specs.Io.KnownBytes.{Appends, Consumes}
use Rattle.model.specs.declared.device.DeviceFault.{DeviceFault}
use Rattle.model.specs.declared.device.DeviceFault.TheVariants.{Device, Memory}

-- the count of failures rises by one with the fault Device, and with no other
abbrev pub CountsFault : DeviceFault → ℕ → ℕ → Type 0
CountsFault Device old new = new ≡ old + 1
CountsFault Memory old new = new ≡ old

-- the count rises with the answer Device, and with no other
abbrev pub Counts : {A : Type 0} → Result A DeviceFault → ℕ → ℕ → Type 0
Counts (Ok value) old new = new ≡ old
Counts (Err fault) old new = CountsFault fault old new

-- of the bytes left to read, some at the front are gone
abbrev pub LosesFront : Option (List ℕ) → Option (List ℕ) → Type 0
LosesFront old new = (front : List ℕ) × Consumes old new front

-- behind what was held there is now a front of the bytes
abbrev pub AppendsFront : Option (List ℕ) → Option (List ℕ) → List ℕ → Type 0
AppendsFront old new bytes = (front rest : List ℕ) × (bytes ≡ front ++ rest) × Appends old new front

-- a call that is to write a text writes it behind what was held, and before an error a front of it
abbrev pub Writes : {A : Type 0} → Result A DeviceFault → List ℕ → Option (List ℕ) → Option (List ℕ) → Type 0
Writes (Ok value) text old new = Appends old new text
Writes (Err fault) text old new = AppendsFront old new text
