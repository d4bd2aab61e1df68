-- Schedules as a word of a command line (own).
use Rattle.std.specs.Prelude.{◌≡◌, ◌<◌, ℕ, List, [], ◌∷◌, length, map, Bool, true, false, ◌==◌, ◌||◌}
use Rattle.std.specs.List.{AllByRecursion}
use Rattle.model.specs.declared.event.ScheduleEntry.{ScheduleEntry}
use Rattle.model.specs.Schedule.{EntryFits}
use Rattle.schedule.specs.schedule_text.Text.{entry_word, text_words}

-- `*`, `.`, `@` or a space
abbrev pub is_mark : ℕ → Bool
is_mark b = b == 42 || b == 46 || b == 64 || b == 32

-- what begins a comment
abbrev pub is_comment_mark : ℕ → Bool
is_comment_mark b = b == 35 || b == 47

-- some byte is such
abbrev pub has : (ℕ → Bool) → List ℕ → Bool
has is [] = false
has is (b ∷ bs) = is b || has is bs

-- It is no path: entries alone, at least one, with a mark in it.
pub record IsScheduleWord (word : List ℕ) : Type 0 where
  pub marked : has is_mark word ≡ true
  pub bare : has is_comment_mark word ≡ false
  pub entries : List ScheduleEntry
  pub fit : AllByRecursion EntryFits entries
  pub some : 0 < length entries
  pub spelled : text_words word ≡ map entry_word entries
