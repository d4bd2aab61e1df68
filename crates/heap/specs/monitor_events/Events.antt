-- What events do to monitors and threads (JLS 17.1, 17.2), and what they answer.
use Rattle.std.specs.Prelude.{◌≡◌, ℕ, Bool, true, false, Result, Ok, Err}
use Rattle.model.specs.State.{WorldOf, Waiter, WakeCause, Running}
use Rattle.model.specs.Monitors as monitors
use Rattle.model.specs.Worlds.{is_done, is_owner, may_enter, with_entry, with_monitors, with_status, woken, all_woken}
use Rattle.model.specs.BuiltInMethods.{waiting}
use Rattle.heap.specs.declared.monitor.call.Call.{Call}
use Rattle.heap.specs.declared.monitor.call.Call.TheVariants as calls
use Rattle.heap.specs.declared.monitor.refusal.MonitorRefusal.{MonitorRefusal}
use Rattle.heap.specs.monitor.Locks.{Locks, IsRefused, fat_after, is_table_full, is_count_full}
use Rattle.heap.specs.Heap.{Heap}
use Rattle.heap.specs.java_threads.Table.{ThreadTable}
use Rattle.heap.specs.monitor_events.Tables.{over, MonitorsBecome, ThreadsBecome, BothBecome}

-- ---- JLS 17.1: whether no other thread owns the monitor, and whether the thread does

abbrev pub SaysMayEnter : Bool → (object thread : ℕ) → Heap → Type 0
SaysMayEnter answer object thread heap = (world : WorldOf ℕ) → answer ≡ may_enter (over world heap) thread object

abbrev pub SaysOwner : Bool → (object thread : ℕ) → Heap → Type 0
SaysOwner answer object thread heap = (world : WorldOf ℕ) → answer ≡ is_owner (over world heap) thread object

-- no limit forbids a call: the lock would not become one of too many fat ones, and the count of entries is not full
pub record IsWithin (call : Call) (locks : Locks) : Type 0 where
  pub table : is_table_full call locks ≡ false
  pub count : is_count_full call locks ≡ false

-- one more entry, where the thread may; refused at a limit or for want of memory, and then nothing has changed
abbrev pub Enters : Result Bool MonitorRefusal → (object thread : ℕ) → Heap → Heap → Type 0
Enters (Ok entered) object thread old new =
    SaysMayEnter entered object thread old
    × MonitorsBecome (λ world. with_entry world thread object) (fat_after (calls.Enter object thread) old.locks) old new
    × IsWithin (calls.Enter object thread) old.locks
Enters (Err refusal) object thread old new = IsRefused refusal (calls.Enter object thread) old.locks new.locks
    × (new ≡ old)

-- ---- JLS 17.2

-- a thread that has left it is to enter its monitor again
abbrev pub IsWoken : (object : ℕ) → WakeCause → Waiter → ThreadTable → ThreadTable → Type 0
IsWoken object cause waiter = ThreadsBecome (λ world. woken object cause world waiter)

-- the members of the wait set of an object are to enter its monitor again
abbrev pub AreWoken : (object : ℕ) → WakeCause → Heap → ThreadTable → ThreadTable → Type 0
AreWoken object cause heap =
    ThreadsBecome (λ world. all_woken object cause world (monitors.monitor_at heap.locks.monitors object).waiters)

-- what only the owner does: for another thread nothing has changed
abbrev pub OwnerMakes : Bool → (WorldOf ℕ → WorldOf ℕ) → Heap → Heap → ThreadTable → ThreadTable → Type 0
OwnerMakes true event old new from to = BothBecome event old.locks.fat old new from to
OwnerMakes false event old new from to = (new ≡ old) × (to ≡ from)

-- the owner waits; refused at the limit of fat locks or for want of memory, and then nothing has changed
abbrev pub WaitsBy : Result Bool MonitorRefusal → (object thread : ℕ) → Heap → Heap → ThreadTable → ThreadTable → Type 0
WaitsBy (Ok true) object thread old new from to =
    SaysOwner true object thread old
    × BothBecome (λ world. waiting world thread object) (fat_after (calls.Wait object thread) old.locks) old new from to
    × IsWithin (calls.Wait object thread) old.locks
WaitsBy (Ok false) object thread old new from to = SaysOwner false object thread old × (new ≡ old) × (to ≡ from)
WaitsBy (Err refusal) object thread old new from to = IsRefused refusal (calls.Wait object thread) old.locks new.locks
    × (new ≡ old) × (to ≡ from)

-- a thread that has left a wait set enters the monitor again and runs
abbrev pub relocked : WorldOf ℕ → (object thread count : ℕ) → WorldOf ℕ
relocked world object thread count =
    with_status (with_monitors world (monitors.relock object thread count world.monitors)) thread Running

-- where no thread owns it; else nothing has changed
abbrev pub Relocks : Bool → (object thread count : ℕ) → Heap → Heap → ThreadTable → ThreadTable → Type 0
Relocks true object thread count old new from to =
    (is_done (monitors.relock object thread count old.locks.monitors).answer ≡ true)
    × BothBecome (λ world. relocked world object thread count) old.locks.fat old new from to
Relocks false object thread count old new from to =
    (is_done (monitors.relock object thread count old.locks.monitors).answer ≡ false) × (new ≡ old) × (to ≡ from)
