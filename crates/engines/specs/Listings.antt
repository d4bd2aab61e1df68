-- What the engine of listings answers and writes, by the bytes that its devices hold. Where a device says nothing of its
-- bytes, they are any that it may have handed over.
use Rattle.std.specs.Prelude.{◌≡◌, ◌⊎◌, ℕ, List, length, Option}
use Rattle.model.specs.Classes.{Program}
use Rattle.model.specs.Devices.{AppendsFront}
use Rattle.model.specs.Linkable.{AreSpelled}
use Rattle.listings.specs.class_listings.Listings.{IsFirstMalformed, listings}
use Rattle.link_conditions.specs.declared.refusal.why.Refusal.{Refusal}
use Rattle.engines.specs.Engines.{ReadsEach}
use Rattle.engines.specs.Verifications.{IsUnread}
use Rattle.engines.specs.declared.fault.Fault.{Fault}
use Rattle.engines.specs.declared.fault.Fault.TheVariants as faults

-- the sources hold the bytes of class files, and these are the listings of their trees, one behind the other
abbrev pub Lists : List (Option (List ℕ)) → List ℕ → Type 0
Lists lefts text = (files : List (List ℕ)) × (trees : Program) × ReadsEach lefts files × AreSpelled files trees × (text ≡ listings trees)

-- a front of the listings is written, which may have no byte
abbrev pub ListsFront : List (Option (List ℕ)) → Option (List ℕ) → Option (List ℕ) → Type 0
ListsFront lefts old new = (text : List ℕ) × Lists lefts text × AppendsFront old new text

-- the first of the files that is no class file is refused
abbrev pub IsUndecoded : List (Option (List ℕ)) → Refusal → Type 0
IsUndecoded lefts refusal = (files : List (List ℕ)) × ReadsEach lefts files × IsFirstMalformed files refusal

-- When a fault is answered, and what is written then.
abbrev pub IsUnlisted : List (Option (List ℕ)) → Option (List ℕ) → Option (List ℕ) → Fault → Type 0
IsUnlisted lefts old new faults.Device = (new ≡ old) ⊎ ListsFront lefts old new
-- memory is wanted for the writing
IsUnlisted lefts old new faults.Memory = ListsFront lefts old new
-- memory for the reading aside, a file is no class file
IsUnlisted lefts old new (faults.Refusal refusal) = (new ≡ old) × (IsUnread (length lefts) refusal ⊎ IsUndecoded lefts refusal)
IsUnlisted lefts old new (faults.Schedule fault) = ⊥
IsUnlisted lefts old new (faults.Text fault) = ⊥
IsUnlisted lefts old new (faults.Place missing) = ⊥

-- ---- with names and line numbers, of whose text nothing is said

-- the sources hold the bytes of class files
abbrev pub AreClassFiles : List (Option (List ℕ)) → Type 0
AreClassFiles lefts = (files : List (List ℕ)) × (trees : Program) × ReadsEach lefts files × AreSpelled files trees

-- a front of some text is written, which may have no byte
abbrev pub NamesFront : List (Option (List ℕ)) → Option (List ℕ) → Option (List ℕ) → Type 0
NamesFront lefts old new = AreClassFiles lefts × (text : List ℕ) × AppendsFront old new text

-- When a fault is answered, and what is written then.
abbrev pub IsUnnamed : List (Option (List ℕ)) → Option (List ℕ) → Option (List ℕ) → Fault → Type 0
IsUnnamed lefts old new faults.Device = (new ≡ old) ⊎ NamesFront lefts old new
-- memory is wanted for the text, or for its writing
IsUnnamed lefts old new faults.Memory = NamesFront lefts old new
-- memory for the reading aside, a file is no class file
IsUnnamed lefts old new (faults.Refusal refusal) = (new ≡ old) × (IsUnread (length lefts) refusal ⊎ IsUndecoded lefts refusal)
IsUnnamed lefts old new (faults.Schedule fault) = ⊥
IsUnnamed lefts old new (faults.Text fault) = ⊥
IsUnnamed lefts old new (faults.Place missing) = ⊥
