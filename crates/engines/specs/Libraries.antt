-- What the engine of verification answers and writes for a library, of which no class has to have a main (own): all is as
-- with a class that has one, and stands before the files.
use Rattle.std.specs.Prelude.{◌≡◌, ◌⊎◌, ℕ, ◌-◌, ◌==◌, List, ◌∷◌, length, Option, Some, None, if◌then◌else◌}
use Rattle.model.specs.Accepted.{IsAccepted}
use Rattle.model.specs.Classes.{Program}
use Rattle.model.specs.Devices.{AppendsFront}
use Rattle.link_conditions.specs.declared.refusal.why.Refusal.{Refusal}
use Rattle.library_files.specs.Adding.{LibraryFile}
use Rattle.engines.specs.Engines.{ReadsEach}
use Rattle.engines.specs.LibraryMain.{library_main}
use Rattle.engines.specs.Refusals.{IsRefused}
use Rattle.engines.specs.Verifications.{IsUnread, verified_text}
use Rattle.engines.specs.declared.fault.Fault.{Fault}
use Rattle.engines.specs.declared.fault.Fault.TheVariants as faults

-- behind that class the files are accepted
abbrev pub IsLibrary : List (List ℕ) → Program → Type 0
IsLibrary files trees = IsAccepted (library_main ∷ files) trees

-- the number of a file, counted without that class, which has none
abbrev pub file_without_main : Option ℕ → Option ℕ
file_without_main None = None
file_without_main (Some number) = if number == 0 then None else Some (number - 1)

-- behind that class the files are refused, and the file is named by its number without it
pub record IsRefusedLibrary (files : List (List ℕ)) (refusal : Refusal) : Type 0 where
  pub of_all : Refusal
  pub refused : IsRefused (library_main ∷ files) of_all
  pub told : refusal ≡ record of_all { file = file_without_main of_all.file }

-- the sources hold the bytes of a library, and this is told of them
abbrev pub VerifiesLibrary : (given : ℕ) → (own : List LibraryFile) → List (Option (List ℕ)) → List ℕ → Type 0
VerifiesLibrary given own lefts text = (files : List (List ℕ)) × (trees : Program) × ReadsEach lefts files × IsLibrary files trees × (text ≡ verified_text given own (length files))

-- a front of that is written, which may have no byte
abbrev pub VerifiesLibraryFront : (given : ℕ) → (own : List LibraryFile) → List (Option (List ℕ)) → Option (List ℕ) → Option (List ℕ) → Type 0
VerifiesLibraryFront given own lefts old new = (text : List ℕ) × VerifiesLibrary given own lefts text × AppendsFront old new text

-- When a fault is answered, and what is written then.
abbrev pub IsUnacceptedLibrary : (given : ℕ) → (own : List LibraryFile) → List (Option (List ℕ)) → Option (List ℕ) → Option (List ℕ) → Fault → Type 0
IsUnacceptedLibrary given own lefts old new faults.Device = (new ≡ old) ⊎ VerifiesLibraryFront given own lefts old new
-- memory is wanted for the text, or for its writing
IsUnacceptedLibrary given own lefts old new faults.Memory = VerifiesLibraryFront given own lefts old new
-- memory for the reading aside, the class files are refused
IsUnacceptedLibrary given own lefts old new (faults.Refusal refusal) = (new ≡ old) × (IsUnread (length lefts) refusal
    ⊎ ((files : List (List ℕ)) × ReadsEach lefts files × IsRefusedLibrary files refusal))
IsUnacceptedLibrary given own lefts old new (faults.Schedule fault) = ⊥
IsUnacceptedLibrary given own lefts old new (faults.Text fault) = ⊥
IsUnacceptedLibrary given own lefts old new (faults.Place missing) = ⊥
