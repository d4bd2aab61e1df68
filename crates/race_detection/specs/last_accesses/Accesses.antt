-- The last accesses of a variable by each thread that accessed it.
use Rattle.std.specs.Prelude.{◌≡◌, ℕ, ◌≤◌, ◌⊎◌, List, [], Option, Some, None, Result, Ok, Err, slice_get, slice_index, slice_index_or}
use Rattle.race_detection.specs.declared.last_accesses.Access.{Access}

-- x stands in the list
abbrev pub Has : {A : Type 0} → List A → A → Type 0
Has xs x = (k : ℕ) × (slice_get xs k ≡ Some x)

-- an access of another thread that a clock does not know
pub record IsUnknown (thread : ℕ) (clock : List ℕ) (access : Access) : Type 0 where
  pub other : access.thread ≡ thread → ⊥
  pub unknown : slice_index clock access.thread ≤ access.position

-- one of the accesses that a clock does not know, if there is one
abbrev pub IsFirstUnknown : List Access → ℕ → List ℕ → Option Access → Type 0
IsFirstUnknown accesses thread clock None = (access : Access) → Has accesses access → IsUnknown thread clock access → ⊥
IsFirstUnknown accesses thread clock (Some access) = Has accesses access × IsUnknown thread clock access

-- an access stands for those of its thread before it
pub record IsKept (old new : List Access) (access : Access) : Type 0 where
  pub has : Has new access
  pub stays : (other : Access) → Has old other → Has new other ⊎ (other.thread ≡ access.thread)
  pub only : (other : Access) → Has new other → Has old other ⊎ (other ≡ access)

abbrev pub IsKeptOr : {E : Type 0} → Result (Unit {0}) E → List Access → List Access → Access → Type 0
IsKeptOr (Ok done) old new access = IsKept old new access
IsKeptOr (Err e) old new access = new ≡ old

-- of a variable: the last reads, and the last writes
pub record AccessesOf : Type 0 where
  pub reads : List Access
  pub writes : List Access

abbrev pub no_accesses : AccessesOf
no_accesses = record { reads = []; writes = [] }

-- at this place of a list stands an access of a thread
pub record IsOfThread (accesses : List Access) (k thread : ℕ) : Type 0 where
  pub access : Access
  pub at : slice_get accesses k ≡ Some access
  pub is_of : access.thread ≡ thread

-- ---- of all variables

abbrev pub accesses_at : List AccessesOf → ℕ → AccessesOf
accesses_at variables variable = slice_index_or variables variable no_accesses

abbrev pub AreSameAccesses : List AccessesOf → List AccessesOf → Type 0
AreSameAccesses old new = (variable : ℕ) → accesses_at new variable ≡ accesses_at old variable

-- a read of a variable is kept, and the rest stays
pub record IsReadKept (old new : List AccessesOf) (variable : ℕ) (access : Access) : Type 0 where
  pub reads : IsKept (accesses_at old variable).reads (accesses_at new variable).reads access
  pub writes : (accesses_at new variable).writes ≡ (accesses_at old variable).writes
  pub others : (v : ℕ) → (v ≡ variable → ⊥) → accesses_at new v ≡ accesses_at old v

abbrev pub IsReadKeptOr : {E : Type 0} → Result (Unit {0}) E → List AccessesOf → List AccessesOf → ℕ → Access → Type 0
IsReadKeptOr (Ok done) old new variable access = IsReadKept old new variable access
IsReadKeptOr (Err e) old new variable access = AreSameAccesses old new

-- a write of it is kept, and the rest stays
pub record IsWriteKept (old new : List AccessesOf) (variable : ℕ) (access : Access) : Type 0 where
  pub writes : IsKept (accesses_at old variable).writes (accesses_at new variable).writes access
  pub reads : (accesses_at new variable).reads ≡ (accesses_at old variable).reads
  pub others : (v : ℕ) → (v ≡ variable → ⊥) → accesses_at new v ≡ accesses_at old v

abbrev pub IsWriteKeptOr : {E : Type 0} → Result (Unit {0}) E → List AccessesOf → List AccessesOf → ℕ → Access → Type 0
IsWriteKeptOr (Ok done) old new variable access = IsWriteKept old new variable access
IsWriteKeptOr (Err e) old new variable access = AreSameAccesses old new
