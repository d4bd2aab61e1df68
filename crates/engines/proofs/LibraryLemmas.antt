-- Why class files are no library.
use Rattle.std.proofs.Common.{ℕ, ◌<◌, List, length, Option, inl, inr, refl}
use Rattle.model.specs.declared.device.DeviceFault.{DeviceFault}
use Rattle.model.specs.declared.device.DeviceFault.TheVariants as devices
use Rattle.library_files.specs.Adding.{LibraryFile}
use Rattle.engines.specs.Devices.{fault_of}
use Rattle.engines.specs.Engines.{IsOfFile}
use Rattle.engines.specs.Libraries.{IsUnacceptedLibrary, VerifiesLibraryFront}
use Rattle.engines.specs.declared.fault.Fault.{Fault}
use Rattle.engines.specs.declared.fault.Fault.TheVariants as faults

-- a class file isn't read, and nothing is written
pub unread_is_no_library : (fault : Fault) (given : ℕ) (own : List LibraryFile) (lefts : List (Option (List ℕ))) (held : Option (List ℕ)) (file : ℕ) → file < length lefts
    → IsOfFile file fault → IsUnacceptedLibrary given own lefts held held fault
unread_is_no_library faults.Device given own lefts held file within of_file = inl refl
unread_is_no_library faults.Memory given own lefts held file within of_file = absurd of_file
unread_is_no_library (faults.Schedule fault) given own lefts held file within of_file = absurd of_file
unread_is_no_library (faults.Text fault) given own lefts held file within of_file = absurd of_file
unread_is_no_library (faults.Place missing) given own lefts held file within of_file = absurd of_file
unread_is_no_library (faults.Refusal refusal) given own lefts held file within of_file = (refl, inl (file, within, of_file))

-- the writing stops
pub front_is_no_library : (fault : DeviceFault) (given : ℕ) (own : List LibraryFile) (lefts : List (Option (List ℕ))) (old new : Option (List ℕ))
    → VerifiesLibraryFront given own lefts old new → IsUnacceptedLibrary given own lefts old new (fault_of fault)
front_is_no_library devices.Device given own lefts old new front = inr front
front_is_no_library devices.Memory given own lefts old new front = front
