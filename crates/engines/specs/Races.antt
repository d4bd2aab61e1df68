-- What the engine of races answers where there is a fault, and what it writes then, by the bytes that its devices hold.
use Rattle.std.specs.Prelude.{◌≡◌, ◌⊎◌, ℕ, List, Option}
use Rattle.model.specs.Devices.{AppendsFront}
use Rattle.engines.specs.Opening.{IsKeptBy}
use Rattle.engines.specs.Theorem.{TellsRaces}
use Rattle.engines.specs.declared.fault.Fault.{Fault}
use Rattle.engines.specs.declared.fault.Fault.TheVariants as faults
use Rattle.engines.specs.declared.status.Status.{Status}
use Rattle.engines.specs.declared.recording.Conditions.{Conditions}

-- nothing is written, or a front of what is told of the races
abbrev pub RacesPart : Option (List ℕ) → List (Option (List ℕ)) → Conditions → Option (List ℕ) → Option (List ℕ) → Type 0
RacesPart left lefts options old new = (new ≡ old)
    ⊎ ((text : List ℕ) × (status : Status) × TellsRaces left lefts options text status × AppendsFront old new text)

-- When a fault is answered, and what is written then.
abbrev pub IsUnraced : Option (List ℕ) → List (Option (List ℕ)) → Conditions → Option (List ℕ) → Option (List ℕ) → Fault → Type 0
IsUnraced left lefts options old new faults.Device = RacesPart left lefts options old new
IsUnraced left lefts options old new faults.Memory = RacesPart left lefts options old new
IsUnraced left lefts options old new fault = (new ≡ old) × IsKeptBy left lefts options fault
