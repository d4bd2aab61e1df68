-- What a search is to find, and which outcome of runs, by the words that ask for it (own).
use Rattle.std.specs.Prelude.{◌≡◌, ℕ, ℤ, ◌==◌, ◌&&◌, Bool, not, List, [], ◌∷◌, ◌++◌, length, Option, Some, None, if◌then◌else◌, string_bytes}
use Rattle.std.specs.List.{ends_with, starts_with}
use Rattle.std.specs.declared.vec.Vec.{Vec}
use Rattle.std.specs.Global.{Global}
use Rattle.command_line.specs.declared.options.Goal.{Goal}
use Rattle.command_line.specs.declared.options.Goal.TheVariants as goals
use Rattle.command_line.specs.declared.options.SearchGoal.{SearchGoal}
use Rattle.command_line.specs.declared.options.SearchGoal.TheVariants as sought
use Rattle.search.specs.declared.kinds.Goal.{Goal as SearchesFor}
use Rattle.search.specs.declared.kinds.Goal.TheVariants as searches
use Rattle.search.specs.declared.kinds.Kind.TheVariants as kinds
use Rattle.search.specs.declared.run_outcomes.wanted.Wanted.{Wanted}
use Rattle.search.specs.declared.run_outcomes.wanted.Wanted.TheVariants as wanted
use Rattle.model.specs.Texts.{Text}
use Rattle.search.specs.run_outcomes.Outcomes.{printed_text}
use Rattle.engines.specs.Engines.{Reads}

-- a carriage return, and a line feed behind it
abbrev pub begins_return : List ℕ → Bool
begins_return bytes = starts_with (λ a b. a == b) bytes (0x0d ∷ 0x0a ∷ [])

-- without each carriage return that stands before a line feed
abbrev pub without_returns : List ℕ → List ℕ
without_returns [] = []
without_returns (byte ∷ bytes) = if begins_return (byte ∷ bytes) then without_returns bytes else byte ∷ without_returns bytes

-- there is a last line, and no line feed at its end
abbrev pub is_unended : List ℕ → Bool
is_unended bytes = not (length bytes == 0) && not (ends_with (λ a b. a == b) bytes (0x0a ∷ []))

-- the text of a file: its last line has a line feed at its end, too
abbrev pub text_of_file : List ℕ → List ℕ
text_of_file bytes = if is_unended (without_returns bytes) then without_returns bytes ++ 0x0a ∷ [] else without_returns bytes

-- the outcomes of runs that print this text, and no more
abbrev pub IsPrintedText : Text → Wanted → Type 0
IsPrintedText units want = (text : Vec ℕ Global) × (want ≡ wanted.Printed text) × (text.items ≡ units)

-- those of runs that print these numbers, in this order, and no others
abbrev pub IsPrinted : List ℤ → Wanted → Type 0
IsPrinted numbers want = IsPrintedText (printed_text numbers) want

-- those of runs that print something else than the file with a path has
abbrev pub IsPrintedOther : (List ℕ → Option (List ℕ)) → List ℕ → Wanted → Type 0
IsPrintedOther held path want = (text : Vec ℕ Global) × (bytes : List ℕ) × (want ≡ wanted.PrintedOther text) × Reads (held path) bytes
    × (text.items ≡ text_of_file bytes)

-- the outcome that runs are searched for, by what files hold
abbrev pub IsAskedFor : (List ℕ → Option (List ℕ)) → Option Goal → Wanted → Type 0
IsAskedFor held None want = want ≡ wanted.Nothing
IsAskedFor held (Some goals.Deadlock) want = want ≡ wanted.Stuck
IsAskedFor held (Some goals.Uncaught) want = want ≡ wanted.Uncaught
IsAskedFor held (Some (goals.Output numbers)) want = IsPrinted numbers.items want
IsAskedFor held (Some (goals.Text units)) want = IsPrintedText units.items want
IsAskedFor held (Some (goals.Differs path)) want = IsPrintedOther held (string_bytes path) want

-- what a search is to find, by what files hold
abbrev pub IsSearchedFor : (List ℕ → Option (List ℕ)) → Option SearchGoal → SearchesFor → Type 0
IsSearchedFor held None goal = goal ≡ searches.Outcome wanted.Nothing
IsSearchedFor held (Some sought.Race) goal = goal ≡ searches.Kind kinds.Race
IsSearchedFor held (Some sought.Uncaught) goal = goal ≡ searches.Kind kinds.Uncaught
IsSearchedFor held (Some sought.Deadlock) goal = goal ≡ searches.Kind kinds.Deadlock
IsSearchedFor held (Some sought.Endless) goal = goal ≡ searches.Kind kinds.Endless
IsSearchedFor held (Some sought.Any) goal = goal ≡ searches.AnyKind
IsSearchedFor held (Some (sought.Output numbers)) goal = (want : Wanted) × (goal ≡ searches.Outcome want) × IsPrinted numbers.items want
IsSearchedFor held (Some (sought.Text units)) goal = (want : Wanted) × (goal ≡ searches.Outcome want) × IsPrintedText units.items want
IsSearchedFor held (Some (sought.Differs path)) goal = (want : Wanted) × (goal ≡ searches.Outcome want) × IsPrintedOther held (string_bytes path) want
