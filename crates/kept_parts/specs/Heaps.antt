-- A heap as a list of numbers, each of which stands for the row of an object with its monitor (own).
use Rattle.std.specs.Prelude.{◌≡◌, ℕ, List, [], ◌∷◌, ◌<◌, ◌≤◌, Option, IfSome, Bool, length, take}
use Rattle.model.specs.declared.limits.Limits.{Limits}
use Rattle.model.specs.State.{Monitor}
use Rattle.heap.specs.Heap.{Object, Heap}
use Rattle.word_table.specs.Lists.{StandsFor, Grows}
use Rattle.kept_parts.specs.Rows.{flag_code, flags_row}
use Rattle.kept_parts.specs.declared.heap_rows.NumberedHeap.{NumberedHeap}
use Rattle.kept_parts.specs.Objects.{object_row, IsObjectRead}

abbrev pub AreObjects : List (List ℕ) → (numbers : List ℕ) → List Object → List Monitor → Type 0
AreObjects parts [] [] [] = Unit {0}
AreObjects parts (number ∷ numbers) (object ∷ objects) (monitor ∷ monitors) =
    StandsFor parts number (object_row object monitor) × AreObjects parts numbers objects monitors
AreObjects parts numbers objects monitors = ⊥

abbrev pub IsHeapKept : List (List ℕ) → (numbers : List ℕ) → Heap → Type 0
IsHeapKept parts numbers heap = AreObjects parts numbers heap.objects heap.locks.monitors

-- the numbers were written, and this one stands for the list of them
pub record IsHeapWritten (heap : Heap) (number : ℕ) (numbers : List ℕ) (old new : List (List ℕ)) : Type 0 where
  pub grows : Grows old new
  pub are : IsHeapKept new numbers heap
  pub stands : StandsFor new number numbers

-- A heap was read under these limits, with flags of the locks that are inflated. So many objects belong to the opening
-- state, and so many cells of the others count.
pub record IsHeapRead (parts : List (List ℕ)) (limits : Limits) (opening counted : ℕ) (numbers fat : List ℕ)
    (heap : Heap) : Type 0 where
  pub are : IsHeapKept parts numbers heap
  pub fat_is : fat ≡ flags_row heap.locks.fat
  pub opening_is : heap.opening ≡ opening
  pub counted_is : heap.counted ≡ counted
  pub objects_limited : heap.object_limit ≡ limits.objects
  pub cells_limited : heap.cell_limit ≡ limits.cells
  pub monitors_limited : heap.locks.limit ≡ limits.monitors

-- ---- a heap before

-- the numbers stand for its objects, and this one for the list of them
pub record AreBefore (parts : List (List ℕ)) (before : NumberedHeap) : Type 0 where
  pub are : IsHeapKept parts before.objects.now before.heap.now
  pub stands : StandsFor parts before.number before.objects.now

-- the first so many objects have these numbers
abbrev pub AreFirst : List (List ℕ) → (numbers : List ℕ) → (count : ℕ) → Heap → Type 0
AreFirst parts numbers count heap = AreObjects parts numbers (take count heap.objects) (take count heap.locks.monitors)

-- numbers of the objects from this one up to another, as a heap before has them, are put behind those of the objects
-- before it
pub record GoOn (heap : Heap) (before : Option NumberedHeap) (object until : ℕ) (old new : List ℕ) : Type 0 where
  pub from : object ≤ until
  pub within : until ≤ length heap.objects
  pub first : (parts : List (List ℕ)) → IfSome before (AreBefore parts) → AreFirst parts old object heap
      → AreFirst parts new until heap

-- the objects from this one up to another have numbers, as those before it have, and one more has
pub record AreNumbered (heap : Heap) (object until : ℕ) (numbers : List ℕ) (old new : List (List ℕ)) : Type 0 where
  pub grows : Grows old new
  pub from : object < until
  pub within : until ≤ length heap.objects
  pub first : AreFirst new numbers until heap

-- ---- read again

-- an object was read by its number, and a flag says whether its lock is inflated
pub record IsNumberRead (parts : List (List ℕ)) (number : ℕ) (opening : Bool) (fat : ℕ) (old new : Heap) : Type 0 where
  pub row : List ℕ
  pub is_fat : Bool
  pub stands : StandsFor parts number row
  pub fat_is : fat ≡ flag_code is_fat
  pub read : IsObjectRead opening is_fat row old new
