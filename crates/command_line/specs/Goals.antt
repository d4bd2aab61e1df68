-- What a search is to find, and which outcome of a run, as a word of the command line (own).
use Rattle.std.specs.Prelude.{◌≡◌, ℤ, List, ◌∷◌, ◌++◌, Option, Some, None, map, codes, string_bytes}
use Rattle.std.specs.Int.{w32}
use Rattle.std.specs.Int.RustNames.{FitsSigned}
use Rattle.std.specs.List.{All, join_with_byte}
use Rattle.clap.specs.Words.{Text}
use Rattle.model.specs.Report.{signed_number}
use Rattle.command_line.specs.EscapedTexts.{units_of}
use Rattle.command_line.specs.declared.options.Goal.{Goal}
use Rattle.command_line.specs.declared.options.Goal.TheVariants as goals
use Rattle.command_line.specs.declared.options.SearchGoal.{SearchGoal}
use Rattle.command_line.specs.declared.options.SearchGoal.TheVariants as sought

-- a value of the type int (JVMS 2.3.1)
abbrev pub IsInt : ℤ → Type 0
IsInt number = FitsSigned w32 number

-- numbers in decimal, with commas between them: none are the empty text
abbrev pub numbers_text : List ℤ → Text
numbers_text numbers = join_with_byte 0x2c (map signed_number numbers)

-- the text spells these ints
pub record AreInts (text : Text) (ints : List ℤ) : Type 0 where
  pub each : All IsInt ints
  pub spelled : text ≡ numbers_text ints

-- the texts spell these ints, each one of them
pub record AreEachInt (texts : List Text) (ints : List ℤ) : Type 0 where
  pub each : All IsInt ints
  pub spelled : texts ≡ map signed_number ints

-- the word names this outcome
abbrev pub IsGoalWord : Text → Goal → Type 0
IsGoalWord word goals.Deadlock = word ≡ codes "deadlock"
IsGoalWord word goals.Uncaught = word ≡ codes "uncaught"
IsGoalWord word (goals.Output ints) = (text : Text) × (word ≡ codes "output" ++ 0x3d ∷ text) × AreInts text ints.items
IsGoalWord word (goals.Text units) = (text : Text) × (word ≡ codes "text" ++ 0x3d ∷ text) × (units_of text ≡ Some units.items)
IsGoalWord word (goals.Differs path) = word ≡ codes "differs" ++ 0x3d ∷ string_bytes path

-- so does the word of a name and a value with `=` between them
abbrev pub IsGoalWith : (name value : Text) → Goal → Type 0
IsGoalWith name value goals.Deadlock = ⊥
IsGoalWith name value goals.Uncaught = ⊥
IsGoalWith name value (goals.Output ints) = (name ≡ codes "output") × AreInts value ints.items
IsGoalWith name value (goals.Text units) = (name ≡ codes "text") × (units_of value ≡ Some units.items)
IsGoalWith name value (goals.Differs path) = (name ≡ codes "differs") × (value ≡ string_bytes path)

-- the outcome that is asked for, where one is
abbrev pub IsGoal : Option Text → Option Goal → Type 0
IsGoal None None = Unit {0}
IsGoal (Some word) (Some goal) = IsGoalWord word goal
IsGoal None (Some goal) = ⊥
IsGoal (Some word) None = ⊥

-- ---- what a search is to find

-- the word names it: a kind of states, or an outcome of runs that end
abbrev pub IsSearchGoalWord : Text → SearchGoal → Type 0
IsSearchGoalWord word sought.Race = word ≡ codes "race"
IsSearchGoalWord word sought.Uncaught = word ≡ codes "uncaught"
IsSearchGoalWord word sought.Deadlock = word ≡ codes "deadlock"
IsSearchGoalWord word sought.Endless = word ≡ codes "endless"
IsSearchGoalWord word sought.Any = word ≡ codes "any"
IsSearchGoalWord word (sought.Output ints) = (text : Text) × (word ≡ codes "output" ++ 0x3d ∷ text) × AreInts text ints.items
IsSearchGoalWord word (sought.Text units) = (text : Text) × (word ≡ codes "text" ++ 0x3d ∷ text) × (units_of text ≡ Some units.items)
IsSearchGoalWord word (sought.Differs path) = word ≡ codes "differs" ++ 0x3d ∷ string_bytes path

-- what is asked for, where something is
abbrev pub IsSearchGoal : Option Text → Option SearchGoal → Type 0
IsSearchGoal None None = Unit {0}
IsSearchGoal (Some word) (Some goal) = IsSearchGoalWord word goal
IsSearchGoal None (Some goal) = ⊥
IsSearchGoal (Some word) None = ⊥

-- what runs are searched for, too
abbrev pub search_goal : Goal → SearchGoal
search_goal goals.Deadlock = sought.Deadlock
search_goal goals.Uncaught = sought.Uncaught
search_goal (goals.Output ints) = sought.Output ints
search_goal (goals.Text units) = sought.Text units
search_goal (goals.Differs path) = sought.Differs path
