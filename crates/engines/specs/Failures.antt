-- When it is told that a device failed (own): where one did.
use Rattle.std.specs.Prelude.{◌≡◌, ◌⊎◌, ◌+◌, ◌≤◌, ℕ, Result, Ok, Err}
use Rattle.std.specs.IoError.{error_kind}
use Rattle.std.specs.declared.io.Error.{Error}
use Rattle.std.specs.declared.io.ErrorKind.TheVariants.{OutOfMemory}
pub use Rattle.program_files.specs.Folders.{FolderMayFail}
use Rattle.model.specs.declared.device.DeviceFault.{DeviceFault}
use Rattle.model.specs.declared.device.DeviceFault.TheVariants as devices
use Rattle.engines.specs.declared.complaint.Complaint.{Complaint}
use Rattle.engines.specs.declared.complaint.Complaint.TheVariants as complaints
use Rattle.engines.specs.declared.fault.Fault.{Fault}
use Rattle.engines.specs.declared.fault.Fault.TheVariants as faults

-- ---- of what a system answers

-- it is a want of memory, or else a failure
abbrev pub IsOfKind : Error → DeviceFault → Type 0
IsOfKind error devices.Device = error_kind error ≡ OutOfMemory → ⊥
IsOfKind error devices.Memory = error_kind error ≡ OutOfMemory

-- an answer without the system's reason
abbrev pub IsKept : {A : Type 0} → Result A Error → Result A DeviceFault → Type 0
IsKept (Ok value) kept = kept ≡ Ok value
IsKept (Err error) kept = (fault : DeviceFault) × (kept ≡ Err fault) × IsOfKind error fault

-- ---- of a command

-- a failure is told only where one was counted, or something else failed
abbrev pub TellsFailure : (elsewhere : Type 0) → Fault → (old new : ℕ) → Type 0
TellsFailure elsewhere faults.Device old new = (new ≡ old + 1) ⊎ elsewhere
TellsFailure elsewhere faults.Memory old new = new ≤ old
TellsFailure elsewhere (faults.Refusal refusal) old new = new ≤ old
TellsFailure elsewhere (faults.Schedule fault) old new = new ≤ old
TellsFailure elsewhere (faults.Text fault) old new = new ≤ old
TellsFailure elsewhere (faults.Place missing) old new = new ≤ old

-- and one that was counted is told
abbrev pub TellsFailures : {A : Type 0} → (elsewhere : Type 0) → Result A Fault → (old new : ℕ) → Type 0
TellsFailures elsewhere (Ok value) old new = new ≤ old
TellsFailures elsewhere (Err fault) old new = TellsFailure elsewhere fault old new

-- the same where words have no status
abbrev pub TellsComplaint : (elsewhere : Type 0) → Complaint → (old new : ℕ) → Type 0
TellsComplaint elsewhere (complaints.Usage usage) old new = new ≤ old
TellsComplaint elsewhere (complaints.Files fault) old new = new ≤ old
TellsComplaint elsewhere (complaints.Fault fault) old new = TellsFailure elsewhere fault old new
TellsComplaint elsewhere (complaints.Library fault name) old new = TellsFailure elsewhere fault old new
