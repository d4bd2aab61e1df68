-- What files hold, and what lies in folders, by their paths (own). Where nothing is known of a file, any bytes may be in it.
use Rattle.std.specs.Prelude.{◌≡◌, ◌⊎◌, ℕ, Bool, IsTrue, List, Option, Some, None, IfSome, IsPermutation}
use Rattle.std.specs.IoError.{error_kind}
use Rattle.std.specs.declared.io.Error.{Error}
use Rattle.std.specs.declared.io.ErrorKind.TheVariants.{OutOfMemory}
use Rattle.std.specs.declared.string.String.{String}
use Rattle.std.specs.Global.{Global}

-- the path of a file or a folder, as its bytes
abbrev pub Path : Type 0
Path = List ℕ

-- what files hold, where that is known
abbrev pub Held : Type 0
Held = Path → Option (List ℕ)

-- the names of what lies in a folder, and none where there is no folder
abbrev pub Found : Type 0
Found = Option (List (String Global))

-- what lies in folders, where that is known
abbrev pub Listed : Type 0
Listed = Path → Option Found

-- ---- what is read

-- these bytes are those of a source that has these left
abbrev pub Reads : Option (List ℕ) → List ℕ → Type 0
Reads left bytes = IfSome left (λ known. bytes ≡ known)

-- these may be the names of what lies there, and there are none where there is no folder
abbrev pub IsListed : Option Found → Found → Type 0
IsListed None found = Unit {0}
IsListed (Some None) found = found ≡ None
IsListed (Some (Some names)) None = ⊥
IsListed (Some (Some names)) (Some found) = IsPermutation names found

-- ---- what is written

-- a file that is written, by its path and its bytes, if one is
abbrev pub Written : Type 0
Written = Option (Path × List ℕ)

-- what files hold once this is written: it holds these bytes, and each other one what it held
abbrev pub IsWith : (old new : Held) → Written → Type 0
IsWith old new None = (path : Path) → new path ≡ old path
IsWith old new (Some (path, bytes)) = Reads (new path) bytes × ((other : Path) → (other ≡ path → ⊥) → new other ≡ old other)

-- ---- what fails

-- an error is a want of memory, or of what may fail
abbrev pub IsFailure : (may_fail : Bool) → Error → Type 0
IsFailure may_fail error = (error_kind error ≡ OutOfMemory) ⊎ IsTrue may_fail

-- a folder may fail at a path
abbrev pub FolderMayFail : {F : Type 0} → (F → Path → Bool) → Type 0
FolderMayFail {F} may_fail = (folder : F) × (path : Path) × IsTrue (may_fail folder path)
