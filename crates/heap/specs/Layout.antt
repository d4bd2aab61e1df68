-- Where the words of the objects lie: those of each up to those of the next. No public clause cites this module.
use Rattle.std.specs.Prelude.{◌≡◌, ℕ, ◌+◌, ◌<◌, ◌≤◌, ◌^◌, List, [], ◌∷◌, ◌++◌, length, map, take, drop, slice_range}
use Rattle.heap.specs.declared.kind.ObjectKind.{ObjectKind}
use Rattle.heap.specs.declared.layout.Entry.{Entry}
use Rattle.heap.specs.monitor.Locks.{Locks}
use Rattle.heap.specs.Heap.{Object, Heap}

-- where the words of the first object begin; where there is none, at the end
abbrev pub first_start : List Entry → ℕ → ℕ
first_start [] end = end
first_start (entry ∷ entries) end = entry.start

abbrev pub object_of : Entry → ℕ → List ℕ → Object
object_of entry next cells = record { kind = entry.kind; words = slice_range cells entry.start next }

abbrev pub objects_of : List Entry → List ℕ → List Object
objects_of [] cells = []
objects_of (entry ∷ entries) cells =
    object_of entry (first_start entries (length cells)) cells ∷ objects_of entries cells

-- each has fewer than 2^32 words, up to the next or the end
abbrev pub AreLaid : List Entry → ℕ → Type 0
AreLaid [] end = Unit {0}
AreLaid (entry ∷ entries) end =
    (entry.start ≤ first_start entries end) × (first_start entries end < entry.start + 2 ^ 32) × AreLaid entries end

abbrev pub entry_kind : Entry → ObjectKind
entry_kind entry = entry.kind

-- where the words of the object of this reference begin
abbrev pub start_at : List Entry → ℕ → ℕ → ℕ
start_at entries end reference = first_start (drop reference entries) end

-- which cell has the word of this number of an object that has it
pub record IsPlace (place : ℕ) (entries : List Entry) (end reference number : ℕ) : Type 0 where
  pub is : place ≡ start_at entries end reference + number
  pub within : place < start_at entries end (reference + 1)
  pub there : place < end

-- what a heap shows
abbrev pub heap_of : List Entry → List ℕ → Locks → (opening counted object_limit cell_limit : ℕ) → Heap
heap_of entries cells locks opening counted object_limit cell_limit =
    record {
      objects = objects_of entries cells;
      locks = locks;
      opening = opening;
      counted = counted;
      object_limit = object_limit;
      cell_limit = cell_limit;
    }

-- what it keeps
pub record IsSound (entries : List Entry) (end monitors opening counted object_limit cell_limit : ℕ) : Type 0 where
  pub laid : AreLaid entries end
  pub monitored : monitors ≡ length entries
  pub opened : opening ≤ length entries
  pub opening_fits : opening ≤ 294967295
  pub objects_fit : length entries ≤ opening + object_limit
  pub limit_fits : object_limit ≤ 4000000000
  pub cells_fit : counted ≤ cell_limit

-- ---- more words of an object

-- where its words begin when so many cells were put before it
abbrev pub later : ℕ → Entry → Entry
later count entry = record entry { start = entry.start + count }

-- those behind the object of this reference begin later
abbrev pub moved : List Entry → (reference count : ℕ) → List Entry
moved entries reference count = take (reference + 1) entries ++ map (later count) (drop (reference + 1) entries)

-- cells put in at a place
abbrev pub inserted : List ℕ → (place : ℕ) → List ℕ → List ℕ
inserted cells place words = take place cells ++ (words ++ drop place cells)
