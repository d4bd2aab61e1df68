-- Which words name one file, whatever stands in the folders (own).
use Rattle.std.specs.Prelude.{◌≡◌, Bool, length, slice_index, [], ◌∷◌, ◌||◌, ◌&&◌, ◌==◌, codes, if◌then◌else◌, flat_map, Option, Some, None, IfSome, string_bytes}
use Rattle.std.proofs.Math.Bool.{beq}
use Rattle.std.specs.List.{slice_split}
use Rattle.std.specs.Str.{bytes_eq}
use Rattle.clap.specs.Words.{Text}
use Rattle.command_line.specs.declared.options.Goal.{Goal}
use Rattle.command_line.specs.declared.options.Goal.TheVariants as goals
use Rattle.command_line.specs.declared.options.SearchGoal.{SearchGoal}
use Rattle.command_line.specs.declared.options.SearchGoal.TheVariants as sought

-- what stands between two slashes, as a step of a path: with a slash before it. Nothing and a dot alone lead nowhere.
abbrev pub step_of : Text → Text
step_of part = if (length part == 0 || bytes_eq part (codes ".")) then [] else 0x2f ∷ part

-- the steps of a path; `..` is one of them, wherever it leads
abbrev pub steps_of : Text → Text
steps_of path = flat_map step_of (slice_split (λ b. b == 0x2f) path)

-- a path begins at the root
abbrev pub is_absolute : Text → Bool
is_absolute path = slice_index path 0 == 0x2f

-- two words are one path, but for what leads nowhere
pub record IsSamePath (one other : Text) : Type 0 where
  pub begin : is_absolute one ≡ is_absolute other
  pub steps : steps_of one ≡ steps_of other

-- whether they are
abbrev pub is_same_path : (one other : Text) → Bool
is_same_path one other = beq (is_absolute one) (is_absolute other) && bytes_eq (steps_of one) (steps_of other)

-- where a file is written, it is another one than this
abbrev pub IsApart : (written : Option Text) → (read : Text) → Type 0
IsApart written read = IfSome written (λ path. IsSamePath path read → ⊥)

-- it is another one than the file that outcomes of runs are compared with
abbrev pub IsGoalApart : (written : Option Text) → Option Goal → Type 0
IsGoalApart written None = Unit {0}
IsGoalApart written (Some goals.Deadlock) = Unit {0}
IsGoalApart written (Some goals.Uncaught) = Unit {0}
IsGoalApart written (Some (goals.Output ints)) = Unit {0}
IsGoalApart written (Some (goals.Text units)) = Unit {0}
IsGoalApart written (Some (goals.Differs path)) = IsApart written (string_bytes path)

-- it is another one than the file that a search compares with
abbrev pub IsSearchGoalApart : (written : Option Text) → Option SearchGoal → Type 0
IsSearchGoalApart written None = Unit {0}
IsSearchGoalApart written (Some sought.Race) = Unit {0}
IsSearchGoalApart written (Some sought.Uncaught) = Unit {0}
IsSearchGoalApart written (Some sought.Deadlock) = Unit {0}
IsSearchGoalApart written (Some sought.Endless) = Unit {0}
IsSearchGoalApart written (Some sought.Any) = Unit {0}
IsSearchGoalApart written (Some (sought.Output ints)) = Unit {0}
IsSearchGoalApart written (Some (sought.Text units)) = Unit {0}
IsSearchGoalApart written (Some (sought.Differs path)) = IsApart written (string_bytes path)
