-- The locks of objects: their monitors, which of them are inflated, and what a call makes of both.
use Rattle.std.specs.Prelude.{◌≡◌, ℕ, ◌<◌, ◌≤◌, ◌==◌, ◌&&◌, nat_le, not, List, length, Bool, true, false, Result, Ok}
use Rattle.std.specs.Prelude.{Err, slice_index_or, slice_set, count_by, if◌then◌else◌}
use Rattle.model.specs.BuiltInNumbers.{most_threads}
use Rattle.model.specs.State.{Monitor}
use Rattle.model.specs.declared.monitor_answer.MonitorAnswer.{MonitorAnswer}
use Rattle.model.specs.Monitors.{Answered, owns, monitor_at, enter, exit, wait, notify, notify_all, wake_all, interrupt}
use Rattle.model.specs.Monitors.{relock, monitor_enter, monitor_exit, monitor_wait, monitor_notify, monitor_notify_all}
use Rattle.model.specs.Monitors.{monitor_wake_all, monitor_interrupt, monitor_relock}
use Rattle.model.specs.declared.monitor_answer.MonitorAnswer.TheVariants.{Done}
use Rattle.heap.specs.declared.monitor.call.Call.{Call}
use Rattle.heap.specs.declared.monitor.call.Call.TheVariants.{Enter, Exit, Wait, Notify, NotifyAll, WakeAll, Interrupt}
use Rattle.heap.specs.declared.monitor.call.Call.TheVariants.{Relock}
use Rattle.heap.specs.declared.monitor.refusal.MonitorRefusal.{MonitorRefusal}
use Rattle.heap.specs.declared.monitor.refusal.MonitorRefusal.TheVariants.{Monitors, LockCount, Memory}

-- the monitors of the objects by their references, which of their locks are fat, and how many may be
pub record Locks : Type 0 where
  pub monitors : List Monitor
  pub fat : List Bool
  pub limit : ℕ

abbrev pub is_fat_at : Locks → ℕ → Bool
is_fat_at locks object = slice_index_or locks.fat object false

abbrev pub fat_count : Locks → ℕ
fat_count locks = count_by (λ fat. fat) locks.fat

-- the object that a call names
abbrev pub object_of : Call → ℕ
object_of (Enter object thread) = object
object_of (Exit object thread) = object
object_of (Wait object thread) = object
object_of (Notify object thread pick) = object
object_of (NotifyAll object thread) = object
object_of (WakeAll object) = object
object_of (Interrupt object thread) = object
object_of (Relock object thread count) = object

-- what the monitors answer
abbrev pub answered : Call → List Monitor → Answered (List Monitor)
answered (Enter object thread) = enter object thread
answered (Exit object thread) = exit object thread
answered (Wait object thread) = wait object thread
answered (Notify object thread pick) = notify object thread pick
answered (NotifyAll object thread) = notify_all object thread
answered (WakeAll object) = wake_all object
answered (Interrupt object thread) = interrupt object thread
answered (Relock object thread count) = relock object thread count

-- the same, of the monitor of that object
abbrev pub answered_by : Call → Monitor → Answered Monitor
answered_by (Enter object thread) = monitor_enter thread
answered_by (Exit object thread) = monitor_exit thread
answered_by (Wait object thread) = monitor_wait thread
answered_by (Notify object thread pick) = monitor_notify thread pick
answered_by (NotifyAll object thread) = monitor_notify_all thread
answered_by (WakeAll object) = monitor_wake_all
answered_by (Interrupt object thread) = monitor_interrupt thread
answered_by (Relock object thread count) = monitor_relock thread count

-- what a caller keeps: the object is there, a thread is below 32,767, and a thread that enters again entered at least
-- once, and where the lock is thin at most 256 times
abbrev pub IsAllowed : Call → Locks → Type 0
IsAllowed (Enter object thread) locks = (object < length locks.monitors) × (thread < most_threads)
IsAllowed (Wait object thread) locks = (object < length locks.monitors) × (thread < most_threads)
IsAllowed (Relock object thread count) locks =
    (object < length locks.monitors) × (thread < most_threads) × (0 < count)
    × (is_fat_at locks object ≡ false → count ≤ 256)
IsAllowed call locks = object_of call < length locks.monitors

-- ---- inflation (own): the 257th entry of an owner and a wait that joins make the lock fat, and nothing else does

abbrev pub inflates : Call → Monitor → Bool
inflates (Enter object thread) monitor = owns thread monitor.owner && (monitor.count == 256)
inflates (Wait object thread) monitor = owns thread monitor.owner
inflates call monitor = false

abbrev pub inflates_in : Call → Locks → Bool
inflates_in call locks = inflates call (monitor_at locks.monitors (object_of call))

abbrev pub fat_after : Call → Locks → List Bool
fat_after call locks = if inflates_in call locks then slice_set locks.fat (object_of call) true else locks.fat

-- ---- refusals (own)

-- the lock would have to become fat, and as many are as may be
abbrev pub is_table_full : Call → Locks → Bool
is_table_full call locks =
    inflates_in call locks && (not (is_fat_at locks (object_of call)) && nat_le locks.limit (fat_count locks))

-- the owner has entered as often as can be counted
abbrev pub is_at_most_entries : ℕ → Monitor → Bool
is_at_most_entries thread monitor = owns thread monitor.owner && (monitor.count == 4294967295)

abbrev pub is_count_full_by : Call → Monitor → Bool
is_count_full_by (Enter object thread) monitor = is_at_most_entries thread monitor
is_count_full_by call monitor = false

abbrev pub is_count_full : Call → Locks → Bool
is_count_full call locks = is_count_full_by call (monitor_at locks.monitors (object_of call))

-- a thread joins the wait set
abbrev pub joins_by : Call → Monitor → Bool
joins_by (Wait object thread) monitor = owns thread monitor.owner
joins_by call monitor = false

-- the lock becomes fat, or a thread joins a wait set
abbrev pub takes_memory : Call → Locks → Bool
takes_memory (Wait object thread) locks = owns thread (monitor_at locks.monitors object).owner
takes_memory call locks = inflates_in call locks && not (is_fat_at locks (object_of call))

-- only what was done has changed something
abbrev pub KeptUnlessDone : MonitorAnswer → Locks → Locks → Type 0
KeptUnlessDone Done old new = Unit {0}
KeptUnlessDone answer old new = new ≡ old

-- a call was done, or answered that it can't be
pub record IsDone (answer : MonitorAnswer) (call : Call) (old new : Locks) : Type 0 where
  pub answers : answer ≡ (answered call old.monitors).answer
  pub monitors : new.monitors ≡ (answered call old.monitors).after
  pub fat : new.fat ≡ fat_after call old
  pub limit : new.limit ≡ old.limit
  pub kept : KeptUnlessDone answer old new
  pub table : is_table_full call old ≡ false
  pub count : is_count_full call old ≡ false

-- a call was refused: nothing has changed
abbrev pub IsRefused : MonitorRefusal → Call → Locks → Locks → Type 0
IsRefused Monitors call old new = (is_table_full call old ≡ true) × (new ≡ old)
IsRefused LockCount call old new = (is_count_full call old ≡ true) × (new ≡ old)
IsRefused Memory call old new = (takes_memory call old ≡ true) × (is_table_full call old ≡ false) × (new ≡ old)

abbrev pub Answers : Result MonitorAnswer MonitorRefusal → Call → Locks → Locks → Type 0
Answers (Ok answer) call old new = IsDone answer call old new
Answers (Err refusal) call old new = IsRefused refusal call old new
