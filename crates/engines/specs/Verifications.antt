-- What the engine of verification answers and writes, by the bytes that its devices hold. Where a device says nothing of
-- its bytes, they are any that it may have handed over.
use Rattle.std.specs.Prelude.{◌≡◌, ◌⊎◌, ℕ, ◌<◌, ◌-◌, ◌==◌, List, [], ◌∷◌, ◌++◌, length, min, codes, Option, if◌then◌else◌}
use Rattle.std.specs.List.{flat_map}
use Rattle.model.specs.Accepted.{IsAccepted}
use Rattle.model.specs.Classes.{Program}
use Rattle.model.specs.Devices.{AppendsFront}
use Rattle.model.specs.Report.{number}
use Rattle.link_conditions.specs.declared.refusal.why.Refusal.{Refusal}
use Rattle.library_files.specs.Adding.{LibraryFile}
use Rattle.engines.specs.Engines.{ReadsEach, no_memory}
use Rattle.engines.specs.Refusals.{IsRefused}
use Rattle.engines.specs.declared.fault.Fault.{Fault}
use Rattle.engines.specs.declared.fault.Fault.TheVariants as faults

-- `, M of the library`, where there are any
abbrev pub of_library : (added : ℕ) → List ℕ
of_library added = if added == 0 then [] else codes ", " ++ (number added ++ codes " of the library")

-- `verified N classes`, and how many the library adds
abbrev pub verified_line : (given added : ℕ) → List ℕ
verified_line given added = codes "verified " ++ (number given ++ (codes " classes" ++ (of_library added ++ codes "\n")))

-- the names of classes, each behind a space
abbrev pub own_names : List LibraryFile → List ℕ
own_names own = flat_map (λ (c : LibraryFile). 32 ∷ c.name) own

-- the classes of the library in whose place the files have their own, where there are any
abbrev pub own_line : List LibraryFile → List ℕ
own_line own = if length own == 0 then [] else codes "instead of the library's:" ++ (own_names own ++ codes "\n")

-- how many of so many class files are given: the first so many, unless they are fewer
abbrev pub given_count : (given count : ℕ) → ℕ
given_count given count = min given count

-- both lines, of so many class files: the library adds those that aren't given
abbrev pub verified_text : (given : ℕ) → (own : List LibraryFile) → (count : ℕ) → List ℕ
verified_text given own count = verified_line (given_count given count) (count - given_count given count) ++ own_line own

-- the sources hold the bytes of class files that are accepted, and this is told of them
abbrev pub Verifies : (given : ℕ) → (own : List LibraryFile) → List (Option (List ℕ)) → List ℕ → Type 0
Verifies given own lefts text = (files : List (List ℕ)) × (trees : Program) × ReadsEach lefts files × IsAccepted files trees × (text ≡ verified_text given own (length files))

-- a front of that is written, which may have no byte
abbrev pub VerifiesFront : (given : ℕ) → (own : List LibraryFile) → List (Option (List ℕ)) → Option (List ℕ) → Option (List ℕ) → Type 0
VerifiesFront given own lefts old new = (text : List ℕ) × Verifies given own lefts text × AppendsFront old new text

-- there is no memory for one of so many class files
abbrev pub IsUnread : ℕ → Refusal → Type 0
IsUnread count refusal = (file : ℕ) × (file < count) × (refusal ≡ no_memory file)

-- When a fault is answered, and what is written then.
abbrev pub IsUnaccepted : (given : ℕ) → (own : List LibraryFile) → List (Option (List ℕ)) → Option (List ℕ) → Option (List ℕ) → Fault → Type 0
IsUnaccepted given own lefts old new faults.Device = (new ≡ old) ⊎ VerifiesFront given own lefts old new
-- memory is wanted for the text, or for its writing
IsUnaccepted given own lefts old new faults.Memory = VerifiesFront given own lefts old new
-- memory for the reading aside, the class files are refused
IsUnaccepted given own lefts old new (faults.Refusal refusal) = (new ≡ old) × (IsUnread (length lefts) refusal
    ⊎ ((files : List (List ℕ)) × ReadsEach lefts files × IsRefused files refusal))
IsUnaccepted given own lefts old new (faults.Schedule fault) = ⊥
IsUnaccepted given own lefts old new (faults.Text fault) = ⊥
IsUnaccepted given own lefts old new (faults.Place missing) = ⊥
