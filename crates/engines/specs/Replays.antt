-- What the engine of replays answers where there is a fault, and what it writes then, by the bytes that its devices hold.
use Rattle.std.specs.Prelude.{◌≡◌, ◌⊎◌, ℕ, List, Option}
use Rattle.model.specs.Devices.{AppendsFront}
use Rattle.engines.specs.Opening.{IsKeptBy}
use Rattle.engines.specs.Theorem.{Replays}
use Rattle.engines.specs.declared.fault.Fault.{Fault}
use Rattle.engines.specs.declared.fault.Fault.TheVariants as faults
use Rattle.engines.specs.declared.status.Status.{Status}
use Rattle.engines.specs.declared.recording.Conditions.{Conditions}

-- nothing is written, or a front of what the replay says
abbrev pub WritesPart : Option (List ℕ) → List (Option (List ℕ)) → Conditions → Option (List ℕ) → Option (List ℕ) → Type 0
WritesPart left lefts options old new = (new ≡ old)
    ⊎ ((text : List ℕ) × (status : Status) × Replays left lefts options text status × AppendsFront old new text)

-- When a fault is answered, and what is written then.
abbrev pub IsFaulty : Option (List ℕ) → List (Option (List ℕ)) → Conditions → Option (List ℕ) → Option (List ℕ) → Fault → Type 0
IsFaulty left lefts options old new faults.Device = WritesPart left lefts options old new
IsFaulty left lefts options old new faults.Memory = WritesPart left lefts options old new
IsFaulty left lefts options old new fault = (new ≡ old) × IsKeptBy left lefts options fault
