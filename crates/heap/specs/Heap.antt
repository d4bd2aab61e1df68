-- Objects by their references, as lists of words, with their monitors (own): what each call of the heap makes of them.
use Rattle.std.specs.Prelude.{◌≡◌, ℕ, ◌+◌, ◌-◌, ◌<◌, ◌≤◌, ◌^◌, List, [], ◌∷◌, ◌++◌, Option, Some, None, Result, Ok, Err}
use Rattle.std.specs.Prelude.{false, length, replicate, slice_get, slice_index, slice_set}
use Rattle.model.specs.Monitors.{unlocked, monitor_at}
use Rattle.model.specs.declared.monitor_answer.MonitorAnswer.{MonitorAnswer}
use Rattle.heap.specs.monitor.Locks.{Locks, Answers}
use Rattle.heap.specs.declared.monitor.call.Call.{Call}
use Rattle.heap.specs.declared.monitor.refusal.MonitorRefusal.{MonitorRefusal}
use Rattle.heap.specs.declared.kind.ObjectKind.{ObjectKind}
use Rattle.heap.specs.declared.refusal.AllocRefusal.{AllocRefusal}
use Rattle.heap.specs.declared.refusal.AllocRefusal.TheVariants.{Objects, Cells, Memory}
use Rattle.heap.specs.Elements.{stored}

-- an object: what it is, and its fields or elements, each a word of 32 bits: an int by its bits, null 0, a reference r
-- as r + 1
pub record Object : Type 0 where
  pub kind : ObjectKind
  pub words : List ℕ

-- the objects and the locks by their references; how many of the objects belong to the opening state; how many cells
-- were counted of those that were allocated since; how many such objects there may be, and how many such cells
pub record Heap : Type 0 where
  pub objects : List Object
  pub locks : Locks
  pub opening : ℕ
  pub counted : ℕ
  pub object_limit : ℕ
  pub cell_limit : ℕ

-- ---- what was allocated since the opening

abbrev pub made : Heap → ℕ
made heap = length heap.objects - heap.opening

-- ---- a new object

-- its words are 0
abbrev pub fresh : ObjectKind → ℕ → Object
fresh kind count = record { kind = kind; words = replicate count 0 }

-- one more monitor, which no thread owns
abbrev pub with_lock : Locks → Locks
with_lock locks = record locks { monitors = locks.monitors ++ unlocked ∷ []; fat = locks.fat ++ false ∷ [] }

-- so many of its words count as cells
abbrev pub with_object : Heap → Object → (counted : ℕ) → Heap
with_object heap object counted = record heap {
  objects = heap.objects ++ object ∷ [];
  locks = with_lock heap.locks;
  counted = heap.counted + counted;
}

-- an object of so many words, of which so many count as cells, was allocated, and no limit stood: its reference r is
-- the next, and r + 1 is a word
pub record IsAllocated (reference : ℕ) (kind : ObjectKind) (count counted : ℕ) (old new : Heap) : Type 0 where
  pub answer : reference ≡ length old.objects
  pub fits : reference + 1 < 2 ^ 32
  pub opened : old.opening ≤ length old.objects
  pub objects : made old < old.object_limit
  pub cells : old.counted + counted ≤ old.cell_limit
  pub after : new ≡ with_object old (fresh kind count) counted

-- it was not, for this cause: nothing has changed; where both limits stand, it is Objects
abbrev pub IsRefused : AllocRefusal → ℕ → Heap → Heap → Type 0
IsRefused Objects counted old new = (old.object_limit ≤ made old) × (new ≡ old)
IsRefused Cells counted old new = (made old < old.object_limit) × (old.cell_limit < old.counted + counted) × (new ≡ old)
IsRefused Memory counted old new =
    (made old < old.object_limit) × (old.counted + counted ≤ old.cell_limit) × (new ≡ old)

abbrev pub Allocates : Result ℕ AllocRefusal → ObjectKind → (count counted : ℕ) → Heap → Heap → Type 0
Allocates (Ok reference) kind count counted old new = IsAllocated reference kind count counted old new
Allocates (Err refusal) kind count counted old new = IsRefused refusal counted old new

-- an object of the opening state was added, and all before it belong to the opening state: no cell counts
pub record IsOpened (reference : ℕ) (kind : ObjectKind) (count : ℕ) (old new : Heap) : Type 0 where
  pub answer : reference ≡ length old.objects
  pub fits : reference + 1 < 2 ^ 32
  pub after : new ≡ record (with_object old (fresh kind count) 0) { opening = length old.objects + 1; counted = 0 }

-- ---- fields and elements

abbrev pub kind_of : Object → ObjectKind
kind_of object = object.kind

abbrev pub words_of : Option Object → List ℕ
words_of None = []
words_of (Some object) = object.words

-- of an object that is not there, none
abbrev pub words_at : List Object → ℕ → List ℕ
words_at objects reference = words_of (slice_get objects reference)

-- a word that is not there is 0
abbrev pub word_at : List Object → (reference place : ℕ) → ℕ
word_at objects reference place = slice_index (words_at objects reference) place

abbrev pub changed : List Object → ℕ → (Object → Object) → Option Object → List Object
changed objects reference change None = objects
changed objects reference change (Some object) = slice_set objects reference (change object)

-- the other objects stay
abbrev pub change_at : List Object → ℕ → (Object → Object) → List Object
change_at objects reference change = changed objects reference change (slice_get objects reference)

-- the other words stay; a word that is not there is not written
abbrev pub with_word : (place word : ℕ) → Object → Object
with_word place word object = record object { words = slice_set object.words place word }

abbrev pub put_field : List Object → (reference field word : ℕ) → List Object
put_field objects reference field word = change_at objects reference (with_word field word)

-- an array keeps what its elements have room for
abbrev pub put_element : List Object → (reference index word : ℕ) → List Object
put_element objects reference index word =
    change_at objects reference (λ (array : Object). with_word index (stored array.kind word) array)

-- ---- more words

-- an object has more words, behind those that it had
abbrev pub with_more : List ℕ → Object → Object
with_more words object = record object { words = object.words ++ words }

abbrev pub extended : List Object → (reference : ℕ) → List ℕ → List Object
extended objects reference words = change_at objects reference (with_more words)

-- all of them count as cells
abbrev pub with_words : Heap → (reference : ℕ) → List ℕ → Heap
with_words heap reference words = record heap {
  objects = extended heap.objects reference words;
  counted = heap.counted + length words;
}

-- they were not added, for this cause, which is never the limit on objects: nothing has changed
abbrev pub IsNotExtended : AllocRefusal → ℕ → Heap → Heap → Type 0
IsNotExtended Objects counted old new = ⊥
IsNotExtended Cells counted old new = (old.cell_limit < old.counted + counted) × (new ≡ old)
IsNotExtended Memory counted old new = (old.counted + counted ≤ old.cell_limit) × (new ≡ old)

-- ---- monitors

-- the monitors answer, and the rest of the heap stays
pub record HandsOn (result : Result MonitorAnswer MonitorRefusal) (call : Call) (old new : Heap) : Type 0 where
  pub answers : Answers result call old.locks new.locks
  pub rest : new ≡ record old { locks = new.locks }

-- ---- two heaps

-- an object and its monitor are the same in both
pub record IsSameAt (object : ℕ) (one other : Heap) : Type 0 where
  pub objects : slice_get one.objects object ≡ slice_get other.objects object
  pub monitors : monitor_at one.locks.monitors object ≡ monitor_at other.locks.monitors object
