-- An object with its monitor as a row of words (own): what it is, how many words it has, these, and its monitor.
use Rattle.std.specs.Prelude.{◌≡◌, ℕ, ◌+◌, ◌<◌, List, [], ◌∷◌, ◌++◌, Option, Some, None, Bool, length, slice_set}
use Rattle.model.specs.State.{Monitor, Waiter}
use Rattle.model.specs.Monitors.{unlocked, owned, monitor_at}
use Rattle.heap.specs.declared.kind.NarrowKind.{NarrowKind}
use Rattle.heap.specs.declared.kind.NarrowKind.TheVariants as narrow
use Rattle.heap.specs.declared.kind.ObjectKind.{ObjectKind}
use Rattle.heap.specs.declared.kind.ObjectKind.TheVariants as kind
use Rattle.heap.specs.Heap.{Object, Heap}

abbrev pub narrow_row : NarrowKind → List ℕ
narrow_row narrow.Boolean = 3 ∷ 0 ∷ []
narrow_row narrow.Char = 4 ∷ 0 ∷ []
narrow_row narrow.Byte = 5 ∷ 0 ∷ []
narrow_row narrow.Short = 6 ∷ 0 ∷ []

abbrev pub kind_row : ObjectKind → List ℕ
kind_row (kind.Instance class) = 0 ∷ class ∷ []
kind_row (kind.References of) = 1 ∷ of ∷ []
kind_row kind.Ints = 2 ∷ 0 ∷ []
kind_row (kind.Narrow narrow) = narrow_row narrow

abbrev pub owner_code : Option ℕ → ℕ
owner_code None = 0
owner_code (Some thread) = thread + 1

abbrev pub waiters_row : List Waiter → List ℕ
waiters_row [] = []
waiters_row (waiter ∷ waiters) = waiter.thread ∷ waiter.count ∷ waiters_row waiters

abbrev pub monitor_row : Monitor → List ℕ
monitor_row monitor = owner_code monitor.owner ∷ monitor.count ∷ length monitor.waiters ∷ waiters_row monitor.waiters

abbrev pub object_row : Object → Monitor → List ℕ
object_row object monitor = kind_row object.kind ++ length object.words ∷ (object.words ++ monitor_row monitor)

-- ---- read again

-- another monitor of an object
abbrev pub with_monitor_at : ℕ → Monitor → Heap → Heap
with_monitor_at object monitor heap =
    record heap { locks = record heap.locks { monitors = slice_set heap.locks.monitors object monitor } }

-- the monitor of an object, whose lock may be inflated
abbrev pub with_monitor : ℕ → Monitor → Bool → Heap → Heap
with_monitor object monitor fat heap =
    record heap {
      locks = record heap.locks {
        monitors = slice_set heap.locks.monitors object monitor;
        fat = slice_set heap.locks.fat object fat;
      };
    }

-- a thread has entered so many times
pub record Enters (object thread count : ℕ) (old new : Heap) : Type 0 where
  pub there : object < length old.locks.monitors
  pub free : (monitor_at old.locks.monitors object).owner ≡ None
  pub after : new ≡ with_monitor_at object (owned (monitor_at old.locks.monitors object) thread count) old

-- a thread has joined the wait set
abbrev pub joined : (thread count : ℕ) → Monitor → Monitor
joined thread count monitor =
    record { owner = None; count = 0; waiters = monitor.waiters ++ record { thread = thread; count = count } ∷ [] }

pub record Joins (object thread count : ℕ) (old new : Heap) : Type 0 where
  pub there : object < length old.locks.monitors
  pub free : (monitor_at old.locks.monitors object).owner ≡ None
  pub after : new ≡ with_monitor object (joined thread count (monitor_at old.locks.monitors object)) Bool.true old

-- the lock is inflated, and no thread waits
pub record Inflates (object : ℕ) (old new : Heap) : Type 0 where
  pub there : object < length old.locks.monitors
  pub after : new ≡ with_monitor object unlocked Bool.true old

-- so many waiters were read, and those are all that wait for the object, which no thread owns
pub record AreWaitersRead (object : ℕ) (fat : Bool) (count : ℕ) (row rest : List ℕ) (old new : Heap) : Type 0 where
  pub waiters : List Waiter
  pub many : length waiters ≡ count
  pub row_is : row ≡ waiters_row waiters ++ rest
  pub after : new ≡ with_monitor object (record { owner = None; count = 0; waiters = waiters }) fat old

-- the monitor has the owner of a word, with so many entries
pub record IsOwnerRead (object word count : ℕ) (old new : Heap) : Type 0 where
  pub owner : Option ℕ
  pub word_is : word ≡ owner_code owner
  pub after : new
      ≡ with_monitor_at object (record (monitor_at old.locks.monitors object) { owner = owner; count = count }) old

-- a monitor was read, and is that of the object
pub record IsMonitorRead (object : ℕ) (fat : Bool) (row rest : List ℕ) (old new : Heap) : Type 0 where
  pub monitor : Monitor
  pub row_is : row ≡ monitor_row monitor ++ rest
  pub after : new ≡ with_monitor object monitor fat old

-- the object with its monitor is the last one of the heap
abbrev pub with_kept : Object → Monitor → Bool → Heap → Heap
with_kept object monitor fat heap =
    record heap {
      objects = heap.objects ++ object ∷ [];
      locks = record heap.locks { monitors = heap.locks.monitors ++ monitor ∷ []; fat = heap.locks.fat ++ fat ∷ [] };
    }

-- an object was read, and all before it belong to the opening state, too, if it does; no cell of these counts
abbrev pub opened : Bool → (count : ℕ) → Heap → Heap
opened Bool.false count heap = heap
opened Bool.true count heap = record heap { opening = count; counted = 0 }

pub record IsObjectRead (opening fat : Bool) (row : List ℕ) (old new : Heap) : Type 0 where
  pub object : Object
  pub monitor : Monitor
  pub row_is : row ≡ object_row object monitor
  pub after : new ≡ opened opening (length old.objects + 1) (with_kept object monitor fat old)
