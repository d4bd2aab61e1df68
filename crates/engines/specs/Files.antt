-- What files hold, by their paths, and what a command writes (own). Where nothing is known of a file, any bytes may be in it.
use Rattle.std.specs.Prelude.{◌≡◌, ◌⊎◌, ℕ, Bool, true, false, List, [], ◌∷◌, map, Option, Some, None, string_bytes}
use Rattle.std.specs.declared.string.String.{String}
use Rattle.std.specs.Global.{Global}
pub use Rattle.program_files.specs.Folders.{Held, Listed, Path}
use Rattle.program_files.specs.Folders as folders
use Rattle.schedule.specs.schedule_text.CommandWord.{IsScheduleWord}
use Rattle.place_texts.specs.CommandWord.{IsPlacesWord}
use Rattle.engines.specs.declared.named_file.Reading.{Reading}
use Rattle.engines.specs.declared.named_file.Reading.TheVariants.{Ahead, There, Behind, Failed}

-- ---- what is read

-- of the bytes of a file what is left to read
abbrev pub left_of : Option (List ℕ) → Reading → Option (List ℕ)
left_of held Ahead = held
left_of held (There bytes) = Some bytes.now
left_of held Behind = Some []
left_of held Failed = Some []

-- it failed
abbrev pub has_failed : Reading → Bool
has_failed Ahead = false
has_failed (There bytes) = false
has_failed Behind = false
has_failed Failed = true

-- how often it failed
abbrev pub failures_of : Reading → ℕ
failures_of Ahead = 0
failures_of (There bytes) = 0
failures_of Behind = 0
failures_of Failed = 1

-- a word is a schedule, which may have places
abbrev pub IsGivenWord : List ℕ → Type 0
IsGivenWord word = IsScheduleWord word ⊎ IsPlacesWord word

-- What the schedule holds that a word is, or whose path it is. A word with places is one, where there is memory to read it.
abbrev pub IsScheduleAt : Held → (word : List ℕ) → Option (List ℕ) → Type 0
IsScheduleAt held word left = (IsGivenWord word × (left ≡ Some word)) ⊎ ((IsScheduleWord word → ⊥) × (left ≡ held word))

-- this is so of it
abbrev pub OfSchedule : Held → (word : List ℕ) → (Option (List ℕ) → Type 0) → Type 0
OfSchedule held word Is = (left : Option (List ℕ)) × IsScheduleAt held word left × Is left

-- the files at these paths, in their order
abbrev pub held_at : (List ℕ → Option (List ℕ)) → List (List ℕ) → List (Option (List ℕ))
held_at held paths = map held paths

-- files of these bytes
abbrev pub known : List (List ℕ) → List (Option (List ℕ))
known files = map (λ bytes. Some bytes) files

-- ---- what is written

-- files that are written, by their paths and their bytes, if any are
abbrev pub Written : Type 0
Written = Option (List (Path × List ℕ))

-- what files hold once these are written, one after another
abbrev pub AreWith : (old new : Held) → List (Path × List ℕ) → Type 0
AreWith old new [] = folders.IsWith old new None
AreWith old new (file ∷ []) = folders.IsWith old new (Some file)
AreWith old new (file ∷ next ∷ files) = (between : Held) × folders.IsWith old between (Some file) × AreWith between new (next ∷ files)

abbrev pub IsWith : (old new : Held) → Written → Type 0
IsWith old new None = folders.IsWith old new None
IsWith old new (Some files) = AreWith old new files

-- a file at this path, where one is asked for and made
abbrev pub written_at : Option (String Global) → Option (List ℕ) → Written
written_at None file = None
written_at (Some path) None = None
written_at (Some path) (Some bytes) = Some ((string_bytes path, bytes) ∷ [])
