-- What is kept of states by their numbers (own).
use Rattle.std.specs.Prelude.{◌≡◌, ℕ, List, [], ◌∷◌, ◌++◌, Some, ◌<◌, length, slice_get, slice_index_or}
use Rattle.word_table.specs.Lists.{StandsFor, Grows}
use Rattle.kept_parts.specs.Heaps.{IsHeapKept}
use Rattle.machine_state.specs.declared.state.Shared.{Shared}
use Rattle.heap.specs.java_threads.Table.{thread_at}
use Rattle.kept_states.specs.declared.numbered.Numbered.{Numbered}
use Rattle.kept_states.specs.declared.states.KeptStates.{KeptStates}
use Rattle.kept_states.specs.States.{globals_row, AreGlobals, AreThreads, IsStateRow, AreFat}

-- ---- a state with the numbers of its parts

pub record IsNumbered (parts : List (List ℕ)) (n : Numbered) : Type 0 where
  pub globals : StandsFor parts n.globals (globals_row n.shared n.numbers)
  pub each : AreGlobals parts n.numbers n.shared
  pub heap : StandsFor parts n.heap n.objects.items
  pub objects : IsHeapKept parts n.objects.items n.shared.heap
  pub threads : AreThreads parts n.threads.items n.shared.threads.threads n.shared.stacks.items
  pub fat : AreFat parts n.fat n.shared

-- the thread, with its stack, is the same in a state before, where it has this number
pub record IsThreadSame (s : Shared) (thread : ℕ) (before : Numbered) (number : ℕ) : Type 0 where
  pub number_is : slice_get before.threads.items thread ≡ Some number
  pub there : thread < length before.shared.threads.threads
  pub thread_is : thread_at before.shared.threads.threads thread ≡ thread_at s.threads.threads thread
  pub stack_is : slice_index_or before.shared.stacks.items thread [] ≡ slice_index_or s.stacks.items thread []

-- ---- states by their numbers

-- the state of a number: its row, and the flags of its inflated locks
pub record IsState (k : KeptStates) (number : ℕ) (s : Shared) : Type 0 where
  pub row : List ℕ
  pub row_is : slice_get k.states number ≡ Some row
  pub is : IsStateRow k.parts row s
  pub fat : ℕ
  pub fat_is : slice_get k.fat.items number ≡ Some fat
  pub are_fat : AreFat k.parts fat s

-- parts may have been added, and no state
pub record KeepsStates (old new : KeptStates) : Type 0 where
  pub parts : Grows old.parts new.parts
  pub states : new.states ≡ old.states
  pub fat : new.fat.items ≡ old.fat.items

-- the row of a state was made
pub record IsRowMade (s : Shared) (old new : KeptStates) : Type 0 where
  pub keeps : KeepsStates old new
  pub row : IsStateRow new.parts new.state.items s

-- the state whose row was made is kept, with the next number
pub record IsStateAdded (number : ℕ) (s : Shared) (old new : KeptStates) : Type 0 where
  pub number_is : number ≡ length old.states
  pub parts : Grows old.parts new.parts
  pub states : new.states ≡ old.states ++ old.state.items ∷ []
  pub flags : ℕ
  pub fat : new.fat.items ≡ old.fat.items ++ flags ∷ []
  pub are_fat : AreFat new.parts flags s

-- as many flags as states
abbrev pub AreWhole : KeptStates → Type 0
AreWhole k = length k.fat.items ≡ length k.states
