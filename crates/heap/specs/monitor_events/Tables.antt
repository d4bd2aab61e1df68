-- The tables of a machine as the worlds of the definitions show them (JVMS 2.5; JLS 17.1): monitors in the heap,
-- and threads.
use Rattle.std.specs.Prelude.{◌≡◌, ℕ, ◌<◌, List, Bool, length}
use Rattle.model.specs.State.{ThreadStatus, Running, Waiting, Relock, Ended, WorldOf}
use Rattle.heap.specs.Heap.{Heap}
use Rattle.heap.specs.java_threads.Table.{ThreadTable, thread_at}

-- a world with the monitors of the heap
abbrev pub over : WorldOf ℕ → Heap → WorldOf ℕ
over world heap = record world { monitors = heap.locks.monitors }

-- a world with the threads of the table
abbrev pub among : WorldOf ℕ → ThreadTable → WorldOf ℕ
among world table = record world { threads = table.threads }

-- a world with both
abbrev pub shared : WorldOf ℕ → Heap → ThreadTable → WorldOf ℕ
shared world heap table = record world { monitors = heap.locks.monitors; threads = table.threads }

-- an event of the definitions makes the monitors what they are, and these locks are fat; the objects and the limits
-- stay
pub record MonitorsBecome (event : WorldOf ℕ → WorldOf ℕ) (fat : List Bool) (old new : Heap) : Type 0 where
  pub world : (world : WorldOf ℕ) → over world new ≡ event (over world old)
  pub fat_are : new.locks.fat ≡ fat
  pub limit : new.locks.limit ≡ old.locks.limit
  pub rest : new ≡ record old { locks = new.locks }

-- an event makes the threads what they are; their limit stays
pub record ThreadsBecome (event : WorldOf ℕ → WorldOf ℕ) (old new : ThreadTable) : Type 0 where
  pub world : (world : WorldOf ℕ) → among world new ≡ event (among world old)
  pub limit : new.limit ≡ old.limit

-- an event makes both what they are
pub record BothBecome (event : WorldOf ℕ → WorldOf ℕ) (fat : List Bool) (old new : Heap)
    (from to : ThreadTable) : Type 0 where
  pub world : (world : WorldOf ℕ) → shared world new to ≡ event (shared world old from)
  pub fat_are : new.locks.fat ≡ fat
  pub lock_limit : new.locks.limit ≡ old.locks.limit
  pub rest : new ≡ record old { locks = new.locks }
  pub thread_limit : to.limit ≡ from.limit

-- the object on which a thread waits is one of so many
abbrev pub IsStatusWithin : ℕ → ThreadStatus → Type 0
IsStatusWithin objects Running = Unit {0}
IsStatusWithin objects (Waiting object count) = object < objects
IsStatusWithin objects (Relock object count cause) = Unit {0}
IsStatusWithin objects (Ended exception) = Unit {0}

-- so is that of each thread
abbrev pub AreStatusesWithin : Heap → ThreadTable → Type 0
AreStatusesWithin heap table = (t : ℕ) → IsStatusWithin (length heap.locks.monitors) (thread_at table.threads t).status
