-- What engines read, and how they answer a fault. Where a device says nothing of its bytes, they are any that it may have
-- handed over.
use Rattle.std.specs.Prelude.{◌≡◌, ℕ, ◌+◌, List, [], ◌∷◌, Option, Some, None, Result, Ok, Err}
pub use Rattle.program_files.specs.Folders.{Reads}
use Rattle.link_conditions.specs.declared.refusal.why.Refusal.{Refusal}
use Rattle.link_conditions.specs.declared.refusal.why.RefusalKind.TheVariants as kinds
use Rattle.engines.specs.declared.fault.Fault.{Fault}
use Rattle.engines.specs.declared.fault.Fault.TheVariants as faults

-- the bytes of each of the sources, in order
abbrev pub ReadsEach : List (Option (List ℕ)) → List (List ℕ) → Type 0
ReadsEach [] [] = Unit {0}
ReadsEach (left ∷ lefts) (bytes ∷ files) = Reads left bytes × ReadsEach lefts files
ReadsEach [] (bytes ∷ files) = ⊥
ReadsEach (left ∷ lefts) [] = ⊥

-- there is no memory for the class file with this number
abbrev pub no_memory : ℕ → Refusal
no_memory number = record { kind = kinds.OutOfMemory; file = Some number; method = None; offset = None; cause = None }

-- the class file with this number can't be read: its device failed, or there is no memory for it
abbrev pub IsOfFile : ℕ → Fault → Type 0
IsOfFile number faults.Device = Unit {0}
IsOfFile number faults.Memory = ⊥
IsOfFile number (faults.Schedule fault) = ⊥
IsOfFile number (faults.Text fault) = ⊥
IsOfFile number (faults.Place missing) = ⊥
IsOfFile number (faults.Refusal refusal) = refusal ≡ no_memory number

-- a failure is counted with the fault Device, and with no other
abbrev pub CountsWith : Fault → ℕ → ℕ → Type 0
CountsWith faults.Device old new = new ≡ old + 1
CountsWith faults.Memory old new = new ≡ old
CountsWith (faults.Schedule fault) old new = new ≡ old
CountsWith (faults.Text fault) old new = new ≡ old
CountsWith (faults.Place missing) old new = new ≡ old
CountsWith (faults.Refusal refusal) old new = new ≡ old

-- and with no status
abbrev pub CountsFailure : {A : Type 0} → Result A Fault → ℕ → ℕ → Type 0
CountsFailure (Ok value) old new = new ≡ old
CountsFailure (Err fault) old new = CountsWith fault old new
