-- A state as a list of numbers of its parts (own).
use Rattle.std.specs.Prelude.{◌≡◌, ℕ, List, [], ◌∷◌, ◌++◌, take, slice_index_or}
use Rattle.model.specs.State.{Thread}
use Rattle.heap.specs.java_threads.Table.{ThreadTable, thread_at}
use Rattle.thread_stacks.specs.Stacks.{ShownEntry}
use Rattle.word_table.specs.Lists.{StandsFor, Grows}
use Rattle.kept_parts.specs.Rows.{flags_row}
use Rattle.kept_parts.specs.Heaps.{IsHeapKept, IsHeapRead}
use Rattle.kept_parts.specs.Threads.{IsThreadRow, IsThreadRead}
use Rattle.machine_state.specs.declared.state.Shared.{Shared}
use Rattle.kept_states.specs.declared.globals.Globals.{Globals}
use Rattle.kept_states.specs.declared.numbered.GlobalNumbers.{GlobalNumbers}
use Rattle.kept_states.specs.Rows.{statuses_row}

-- ---- threads

-- each number stands for a thread with its stack
abbrev pub AreThreads : List (List ℕ) → (numbers : List ℕ) → List Thread → List (List ShownEntry) → Type 0
AreThreads parts [] [] [] = Unit {0}
AreThreads parts (number ∷ numbers) (thread ∷ threads) (stack ∷ stacks) =
    ((row : List ℕ) × StandsFor parts number row × IsThreadRow row thread stack) × AreThreads parts numbers threads stacks
AreThreads parts numbers threads stacks = ⊥

-- threads with these numbers were put behind whatever threads there were
abbrev pub AreThreadsBehind : List (List ℕ) → (others : List ℕ) → (old : List Thread) → (old_stacks : List (List ShownEntry)) → (new : List Thread)
    → (new_stacks : List (List ShownEntry)) → Type 0
AreThreadsBehind parts others old old_stacks new new_stacks =
    (numbers : List ℕ) → AreThreads parts numbers old old_stacks → AreThreads parts (numbers ++ others) new new_stacks

-- the thread of a number has this one
abbrev pub HasThread : List (List ℕ) → (number : ℕ) → Shared → (thread : ℕ) → Type 0
HasThread parts number s thread =
    (row : List ℕ) × StandsFor parts number row × IsThreadRow row (thread_at s.threads.threads thread) (slice_index_or s.stacks.items thread [])

pub record IsThreadWritten (s : Shared) (thread number : ℕ) (old new : List (List ℕ)) : Type 0 where
  pub grows : Grows old new
  pub has : HasThread new number s thread

-- the first so many threads have numbers, put behind other words
pub record AreThreadsPushed (s : Shared) (count : ℕ) (before after : List ℕ) (old new : List (List ℕ)) : Type 0 where
  pub grows : Grows old new
  pub numbers : List ℕ
  pub after_is : after ≡ before ++ numbers
  pub are : AreThreads new numbers (take count s.threads.threads) (take count s.stacks.items)

-- ---- all else

abbrev pub globals_row : Shared → GlobalNumbers → List ℕ
globals_row s n =
    s.heap.opening ∷ s.heap.counted ∷ s.heap.object_limit ∷ s.heap.cell_limit ∷ s.heap.locks.limit ∷ s.threads.limit ∷ n.statics ∷ n.statuses ∷ n.ready ∷ n.printed ∷ n.interned ∷ s.unnamed ∷ []

pub record AreGlobals (parts : List (List ℕ)) (numbers : GlobalNumbers) (s : Shared) : Type 0 where
  pub statics : StandsFor parts numbers.statics s.statics.items
  pub statuses : StandsFor parts numbers.statuses (statuses_row s.statuses.items)
  pub ready : StandsFor parts numbers.ready (flags_row s.ready.items)
  pub printed : StandsFor parts numbers.printed s.printed.items
  pub interned : StandsFor parts numbers.interned s.interned.items

-- these numbers were written
pub record AreNumbersWritten (s : Shared) (numbers : GlobalNumbers) (old new : List (List ℕ)) : Type 0 where
  pub grows : Grows old new
  pub each : AreGlobals new numbers s

-- the number of the row of such numbers was written
pub record AreGlobalsWritten (s : Shared) (number : ℕ) (old new : List (List ℕ)) : Type 0 where
  pub grows : Grows old new
  pub numbers : GlobalNumbers
  pub stands : StandsFor new number (globals_row s numbers)
  pub each : AreGlobals new numbers s

-- ---- a state

-- the row of a state: the numbers of what stands beside objects and threads, of the list of its objects, and of its threads
pub record IsStateRow (parts : List (List ℕ)) (row : List ℕ) (s : Shared) : Type 0 where
  pub globals : ℕ
  pub heap : ℕ
  pub threads : List ℕ
  pub row_is : row ≡ globals ∷ heap ∷ threads
  pub numbers : GlobalNumbers
  pub globals_are : StandsFor parts globals (globals_row s numbers)
  pub each_is : AreGlobals parts numbers s
  pub objects : List ℕ
  pub heap_is : StandsFor parts heap objects
  pub objects_are : IsHeapKept parts objects s.heap
  pub threads_are : AreThreads parts threads s.threads.threads s.stacks.items

-- the number stands for the flags of the locks that are inflated
abbrev pub AreFat : List (List ℕ) → (number : ℕ) → Shared → Type 0
AreFat parts number s = StandsFor parts number (flags_row s.heap.locks.fat)

-- ---- what is the same

-- all that is kept of two states is the same
pub record AreTheSame (one other : Shared) : Type 0 where
  pub heap : one.heap ≡ other.heap
  pub statics : one.statics.items ≡ other.statics.items
  pub statuses : one.statuses.items ≡ other.statuses.items
  pub ready : one.ready.items ≡ other.ready.items
  pub threads : one.threads ≡ other.threads
  pub printed : one.printed.items ≡ other.printed.items
  pub interned : one.interned.items ≡ other.interned.items
  pub unnamed : one.unnamed ≡ other.unnamed
  pub stacks : one.stacks.items ≡ other.stacks.items

-- ---- read again

-- a state was read by the numbers of its objects and threads, and what is kept beside them
pub record IsSharedRead (parts : List (List ℕ)) (globals : Globals) (objects threads fat : List ℕ) (s : Shared) : Type 0 where
  pub heap : IsHeapRead parts globals.limits globals.opening globals.counted objects fat s.heap
  pub each : AreGlobals parts globals.numbers s
  pub limit : s.threads.limit ≡ globals.limits.threads
  pub unnamed : s.unnamed ≡ globals.unnamed
  pub threads_are : AreThreads parts threads s.threads.threads s.stacks.items

-- the thread of a number was put behind the others, with its stack
pub record IsThreadAdded (parts : List (List ℕ)) (number : ℕ) (old : ThreadTable) (stacks : List (List ShownEntry)) (new : ThreadTable)
    (new_stacks : List (List ShownEntry)) : Type 0 where
  pub row : List ℕ
  pub stands : StandsFor parts number row
  pub stack : List ShownEntry
  pub read : IsThreadRead row old new stack
  pub stacks_are : new_stacks ≡ stacks ++ stack ∷ []
