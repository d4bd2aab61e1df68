-- The schedules of the outcomes of a sweep, as files (own).
use Rattle.std.specs.Prelude.{◌++◌, ◌&&◌, ◌==◌, ℕ, suc, Bool, true, false, ◌≡◌, List, [], ◌∷◌, Option, Some, None, codes, string_bytes}
use Rattle.std.specs.List.{ends_with, filter, list_any, starts_with}
use Rattle.std.proofs.Math.Bool.{beq}
use Rattle.std.specs.declared.string.String.{String}
use Rattle.std.specs.Global.{Global}
use Rattle.model.specs.Report.{number}
use Rattle.schedule.specs.Files.{Recording}
use Rattle.schedule.specs.Joined.{RecordedFile}
use Rattle.command_line.specs.Paths.{is_absolute, steps_of}
use Rattle.sweeps.specs.Tallies.{Same}
use Rattle.sweeps.specs.Texts.{is_outcome}
use Rattle.engines.specs.Files.{Path, Written}

-- ---- where they are

-- the path in a folder of the outcome with this number
abbrev pub outcome_path : (folder : Path) → ℕ → Path
outcome_path folder i = folder ++ (codes "/outcome-" ++ (number i ++ codes ".schedule"))

-- steps begin so, and end as those of the schedules of outcomes
abbrev pub lead_to_outcome : (steps front : List ℕ) → Bool
lead_to_outcome steps front = starts_with (λ a b. a == b) steps front && ends_with (λ a b. a == b) steps (codes ".schedule")

-- a file in a folder may be that of an outcome: so its name begins and ends
abbrev pub may_be_outcome : (folder file : Path) → Bool
may_be_outcome folder file =
    beq (is_absolute (folder ++ codes "/outcome-")) (is_absolute file) && lead_to_outcome (steps_of file) (steps_of (folder ++ codes "/outcome-"))

-- one of these files may
abbrev pub has_outcome : (folder : Path) → (files : List Path) → Bool
has_outcome folder files = list_any (may_be_outcome folder) files

-- files of these bytes in a folder, numbered from i on
abbrev pub files_in : (folder : Path) → (i : ℕ) → List (List ℕ) → List (Path × List ℕ)
files_in folder i [] = []
files_in folder i (bytes ∷ others) = (outcome_path folder i, bytes) ∷ files_in folder (suc i) others

-- the same from 1 on, where a folder is asked for
abbrev pub written_in : Option (String Global) → List (List ℕ) → Written
written_in None files = None
written_in (Some folder) files = Some (files_in (string_bytes folder) 1 files)

-- ---- what they hold

-- the schedules of the first runs that show these, each in a file
abbrev pub AreFilesOf : Option Recording → List Same → List (List ℕ) → Type 0
AreFilesOf told [] [] = Unit {0}
AreFilesOf told [] (bytes ∷ files) = ⊥
AreFilesOf told (s ∷ same) [] = ⊥
AreFilesOf told (s ∷ same) (bytes ∷ files) = RecordedFile bytes told s.events × AreFilesOf told same files

abbrev pub outcomes_of : List Same → List Same
outcomes_of same = filter (λ s. is_outcome s.shown) same

-- those of the outcomes among what is shown, where they are asked for
abbrev pub AreOutcomeFiles : (asked : Bool) → Option Recording → List Same → List (List ℕ) → Type 0
AreOutcomeFiles true told same files = AreFilesOf told (outcomes_of same) files
AreOutcomeFiles false told same files = files ≡ []
