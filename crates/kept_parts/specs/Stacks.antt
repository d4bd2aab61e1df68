-- A stack as a row of words (own): how many entries it has, these, and its words, all with the top last.
use Rattle.std.specs.Prelude.{◌≡◌, ℕ, List, [], ◌∷◌, ◌++◌, length}
use Rattle.std.specs.List.{flat_map}
use Rattle.thread_stacks.specs.declared.entry.Phase.{Phase}
use Rattle.thread_stacks.specs.declared.entry.Phase.TheVariants as phase
use Rattle.thread_stacks.specs.declared.entry.EntryKind.{EntryKind}
use Rattle.thread_stacks.specs.declared.entry.EntryKind.TheVariants as kind
use Rattle.thread_stacks.specs.declared.entry.Entry.{Entry}
use Rattle.thread_stacks.specs.Stacks.{ShownEntry, shown}
use Rattle.kept_parts.specs.Rows.{option_row}

abbrev pub phase_code : Phase → ℕ
phase_code phase.Super = 1
phase_code phase.End = 2

abbrev pub entry_kind_row : EntryKind → List ℕ
entry_kind_row kind.Invocation = 0 ∷ 0 ∷ []
entry_kind_row (kind.Initialisation class phase) = phase_code phase ∷ class ∷ []

abbrev pub entry_row : Entry → List ℕ
entry_row entry =
    entry_kind_row entry.kind
    ++ entry.method ∷ (option_row entry.entered ++ entry.place ∷ entry.locals ∷ entry.operands ∷ [])

abbrev pub entries_row : List Entry → List ℕ
entries_row entries = flat_map entry_row entries

-- of entries over words
abbrev pub stack_row : List Entry → List ℕ → List ℕ
stack_row entries words = length entries ∷ (entries_row entries ++ words)

-- the row is that of entries over words that show the stack
pub record IsStackRow (row : List ℕ) (stack : List ShownEntry) : Type 0 where
  pub entries : List Entry
  pub words : List ℕ
  pub row_is : row ≡ stack_row entries words
  pub shown_is : stack ≡ shown (length words) words entries

-- the row of a stack was put behind other words
pub record IsStackPushed (old new : List ℕ) (stack : List ShownEntry) : Type 0 where
  pub words : List ℕ
  pub new_is : new ≡ old ++ words
  pub is_row : IsStackRow words stack
