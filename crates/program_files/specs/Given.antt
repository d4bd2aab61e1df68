-- Which class files words stand for: files themselves, and folders for the class files in them (own).
use Rattle.std.specs.Prelude.{◌≡◌, ◌⊎◌, ℕ, zero, suc, Bool, not, List, [], ◌∷◌, ◌++◌, map, filter, codes, ◌==◌, Option, Some, None, Contains, string_bytes, string_cmp, IsPermutation, IsSorted}
use Rattle.std.specs.List.{ends_with, list_any}
use Rattle.std.specs.IoError.{error_kind}
use Rattle.std.specs.declared.io.Error.{Error}
use Rattle.std.specs.declared.io.ErrorKind.TheVariants.{OutOfMemory}
use Rattle.std.specs.declared.string.String.{String}
use Rattle.std.specs.Global.{Global}
use Rattle.command_line.specs.Paths.{is_same_path}
use Rattle.program_files.specs.declared.files_fault.FilesFault.{FilesFault}
use Rattle.program_files.specs.declared.files_fault.FilesFault.TheVariants as faults
use Rattle.program_files.specs.Folders.{Found, IsListed, Listed, Path}

-- how many folders may lie in one another
abbrev pub most_deep : ℕ
most_deep = 32

-- ---- the class files of a folder

-- the path ends in `.class`
abbrev pub is_class_path : Path → Bool
is_class_path path = ends_with (λ a b. a == b) path (codes ".class")

-- the path of a name in a folder
abbrev pub in_folder : Path → List ℕ → Path
in_folder folder name = folder ++ (codes "/" ++ name)

-- each of these gives a front of what is left, in their order
abbrev pub AreFronts : {A : Type 0} → (A → List Path → Type 0) → List A → List Path → Type 0
AreFronts Gives [] files = files ≡ []
AreFronts Gives (one ∷ others) files = (front rest : List Path) × Gives one front × AreFronts Gives others rest × (files ≡ front ++ rest)

-- The class files at a path, where this is found there: of a folder those of what lies in it, and else the file itself, where it is one.
-- So many folders may lie in one another.
unfoldable pub AreBelow : Listed → (depth : ℕ) → Path → Found → List Path → Type 0
AreBelow listed depth path None files = files ≡ filter is_class_path (path ∷ [])
AreBelow listed zero path (Some names) files = ⊥
AreBelow listed (suc depth) path (Some names) files = AreFronts (λ name front. (found : Found)
    × IsListed (listed (in_folder path (string_bytes name))) found × AreBelow listed depth (in_folder path (string_bytes name)) found front) names files

-- so it is at a name in a folder
abbrev pub AreAt : Listed → (depth : ℕ) → (folder : Path) → String Global → List Path → Type 0
AreAt listed depth folder name files = (found : Found) × IsListed (listed (in_folder folder (string_bytes name))) found
    × AreBelow listed depth (in_folder folder (string_bytes name)) found files

-- The class files of a folder in which these names lie, sorted by their paths, byte by byte.
pub record AreFilesOf (listed : Listed) (folder : Path) (names : List (String Global)) (files : List Path) : Type 0 where
  pub met : List Path
  pub below : AreBelow listed most_deep folder (Some names) met
  pub sorted : List (String Global)
  pub same : IsPermutation met (map string_bytes sorted)
  pub in_order : IsSorted string_cmp sorted
  pub are : files ≡ map string_bytes sorted

-- ---- the files of words

-- the path without the slash that may stand at its end
abbrev pub IsUnslashed : (path folder : Path) → Type 0
IsUnslashed path folder = (path ≡ folder ++ 0x2f ∷ []) ⊎ ((folder ≡ path) × ((front : Path) → path ≡ front ++ 0x2f ∷ [] → ⊥))

-- a file was given before, by this path or by one that leads the same way
abbrev pub is_given : (before : List Path) → Path → Bool
is_given before file = list_any (λ path. is_same_path path file) before

-- A folder stands for its class files, of which there is one at least, without those that were given before; each other word for itself.
abbrev pub IsGiven : Listed → (before : List Path) → (word : Path) → Found → List Path → Type 0
IsGiven listed before word None given = given ≡ word ∷ []
IsGiven listed before word (Some names) given = (folder : Path) × (files : List Path) × IsUnslashed word folder
    × AreFilesOf listed folder names files × (files ≡ [] → ⊥) × (given ≡ filter (λ file. not (is_given before file)) files)

-- so it is of each of the words, in their order, behind the files that were given before
abbrev pub AreGivenBehind : Listed → (before words given : List Path) → Type 0
AreGivenBehind listed before [] given = given ≡ before
AreGivenBehind listed before (word ∷ words) given = (found : Found) × (files : List Path)
    × IsListed (listed word) found × IsGiven listed before word found files × AreGivenBehind listed (before ++ files) words given

-- the files that words stand for
abbrev pub AreGiven : Listed → (words given : List Path) → Type 0
AreGiven listed words given = AreGivenBehind listed [] words given

-- ---- why there are none

-- a device failed, or memory was wanted
abbrev pub IsUnable : FilesFault → Type 0
IsUnable faults.Device = Unit {0}
IsUnable faults.Memory = Unit {0}
IsUnable (faults.Empty path) = ⊥
IsUnable (faults.TooDeep path) = ⊥
IsUnable (faults.Mains names) = ⊥
IsUnable (faults.NoClass name) = ⊥
IsUnable (faults.NoMain name) = ⊥

-- what the system's reason comes to
abbrev pub IsOfError : Error → FilesFault → Type 0
IsOfError error faults.Device = error_kind error ≡ OutOfMemory → ⊥
IsOfError error faults.Memory = error_kind error ≡ OutOfMemory
IsOfError error (faults.Empty path) = ⊥
IsOfError error (faults.TooDeep path) = ⊥
IsOfError error (faults.Mains names) = ⊥
IsOfError error (faults.NoClass name) = ⊥
IsOfError error (faults.NoMain name) = ⊥

-- a folder lies below a path, in more folders than there may be
unfoldable pub IsTooDeep : Listed → (depth : ℕ) → Path → Found → (deep : Path) → Type 0
IsTooDeep listed depth path None deep = ⊥
IsTooDeep listed zero path (Some names) deep = deep ≡ path
IsTooDeep listed (suc depth) path (Some names) deep = (name : String Global) × Contains names name × ((found : Found)
    × IsListed (listed (in_folder path (string_bytes name))) found × IsTooDeep listed depth (in_folder path (string_bytes name)) found deep)

-- so it is at a name in a folder, or at one of several
abbrev pub IsTooDeepAt : Listed → (depth : ℕ) → (folder : Path) → String Global → (deep : Path) → Type 0
IsTooDeepAt listed depth folder name deep = (found : Found) × IsListed (listed (in_folder folder (string_bytes name))) found
    × IsTooDeep listed depth (in_folder folder (string_bytes name)) found deep

abbrev pub IsTooDeepIn : Listed → (depth : ℕ) → (folder : Path) → List (String Global) → (deep : Path) → Type 0
IsTooDeepIn listed depth folder names deep = (name : String Global) × Contains names name × IsTooDeepAt listed depth folder name deep

-- a word at which this is found stands for no file: its folder has no class file, or folders lie too deep in it
abbrev pub IsNoFile : Listed → (word : Path) → Found → FilesFault → Type 0
IsNoFile listed word found faults.Device = Unit {0}
IsNoFile listed word found faults.Memory = Unit {0}
IsNoFile listed word None (faults.Empty path) = ⊥
IsNoFile listed word (Some names) (faults.Empty path) = (string_bytes path ≡ word)
    × ((folder : Path) × IsUnslashed word folder × AreFilesOf listed folder names [])
IsNoFile listed word found (faults.TooDeep deep) = (folder : Path) × IsUnslashed word folder × IsTooDeep listed most_deep folder found (string_bytes deep)
IsNoFile listed word found (faults.Mains names) = ⊥
IsNoFile listed word found (faults.NoClass name) = ⊥
IsNoFile listed word found (faults.NoMain name) = ⊥

-- one of the words stands for none
abbrev pub IsUngiven : Listed → (words : List Path) → FilesFault → Type 0
IsUngiven listed words fault = IsUnable fault
    ⊎ ((word : Path) × (found : Found) × Contains words word × IsListed (listed word) found × IsNoFile listed word found fault)
