-- What becomes of the monitors of objects (JLS 17.1, 17.2), and what they answer.
use Rattle.std.specs.Prelude.{ℕ, ◌+◌, ◌-◌, ◌==◌, List, [], ◌∷◌, ◌++◌, Option, Some, None, Bool, false, slice_index_or, slice_set, if◌then◌else◌}
use Rattle.std.specs.List.{remove}
use Rattle.model.specs.State.{Monitor, Waiter}
use Rattle.model.specs.declared.monitor_answer.MonitorAnswer.{MonitorAnswer}
use Rattle.model.specs.declared.monitor_answer.MonitorAnswer.TheVariants.{Done, Held, NotOwner}

-- an answer, and what there is after it
pub record Answered (A : Type 0) : Type 0 where
  pub answer : MonitorAnswer
  pub after : A

abbrev pub answers_done : {A : Type 0} → A → Answered A
answers_done after = record { answer = Done; after = after }

-- ---- one monitor

-- no thread owns it, and none waits
abbrev pub unlocked : Monitor
unlocked = record { owner = None; count = 0; waiters = [] }

-- the monitor with an owner that entered it so often
abbrev pub owned : Monitor → (thread count : ℕ) → Monitor
owned monitor thread count = record monitor { owner = Some thread; count = count }

-- the monitor with so many entries left; with no owner where there are none
abbrev pub released : Monitor → (count : ℕ) → Monitor
released monitor count = if count == 0 then record monitor { owner = None; count = 0 } else record monitor { count = count }

abbrev pub owns : ℕ → Option ℕ → Bool
owns thread None = false
owns thread (Some owner) = owner == thread

-- what only the owner may do
abbrev pub as_owner : ℕ → Monitor → Monitor → Answered Monitor
as_owner thread monitor after = if owns thread monitor.owner then answers_done after else record { answer = NotOwner; after = monitor }

-- what becomes of a monitor that a thread enters where there is no owner, and where it is the owner
abbrev pub as_entrant : ℕ → Option ℕ → Monitor → (free again : Answered Monitor) → Answered Monitor
as_entrant thread None monitor free again = free
as_entrant thread (Some owner) monitor free again = if owner == thread then again else record { answer = Held; after = monitor }

abbrev pub monitor_enter : ℕ → Monitor → Answered Monitor
monitor_enter thread monitor =
    as_entrant thread monitor.owner monitor (answers_done (owned monitor thread 1)) (answers_done (owned monitor thread (monitor.count + 1)))

abbrev pub monitor_exit : ℕ → Monitor → Answered Monitor
monitor_exit thread monitor = as_owner thread monitor (released monitor (monitor.count - 1))

-- JLS 17.2.1: the thread joins the wait set as last with its count, and there is no owner
abbrev pub monitor_wait : ℕ → Monitor → Answered Monitor
monitor_wait thread monitor =
    as_owner thread monitor (record { owner = None; count = 0; waiters = monitor.waiters ++ record { thread = thread; count = monitor.count } ∷ [] })

-- JLS 17.2.2: the member of this number, counted from 0, leaves the wait set, if there is one
abbrev pub monitor_notify : (thread pick : ℕ) → Monitor → Answered Monitor
monitor_notify thread pick monitor = as_owner thread monitor (record monitor { waiters = remove monitor.waiters pick })

abbrev pub monitor_notify_all : ℕ → Monitor → Answered Monitor
monitor_notify_all thread monitor = as_owner thread monitor (record monitor { waiters = [] })

-- every member leaves, whoever the owner is
abbrev pub monitor_wake_all : Monitor → Answered Monitor
monitor_wake_all monitor = answers_done (record monitor { waiters = [] })

-- a thread waits at most once in a wait set
abbrev pub without : ℕ → List Waiter → List Waiter
without thread [] = []
without thread (waiter ∷ waiters) = if waiter.thread == thread then waiters else waiter ∷ without thread waiters

-- JLS 17.2.3: the thread leaves the wait set, if it is a member
abbrev pub monitor_interrupt : ℕ → Monitor → Answered Monitor
monitor_interrupt thread monitor = answers_done (record monitor { waiters = without thread monitor.waiters })

abbrev pub relock_from : Option ℕ → Monitor → (free : Answered Monitor) → Answered Monitor
relock_from None monitor free = free
relock_from (Some owner) monitor free = record { answer = Held; after = monitor }

-- JLS 17.2.1: a thread that left the wait set enters as often as it had entered
abbrev pub monitor_relock : (thread count : ℕ) → Monitor → Answered Monitor
monitor_relock thread count monitor = relock_from monitor.owner monitor (answers_done (owned monitor thread count))

-- ---- the monitors of objects, by their references

abbrev pub monitor_at : List Monitor → ℕ → Monitor
monitor_at monitors object = slice_index_or monitors object unlocked

-- the others stay
abbrev pub with_answered : ℕ → List Monitor → Answered Monitor → Answered (List Monitor)
with_answered object monitors answered = record { answer = answered.answer; after = slice_set monitors object answered.after }

-- what the monitor of one object answers
abbrev pub at_object : ℕ → (Monitor → Answered Monitor) → List Monitor → Answered (List Monitor)
at_object object call monitors = with_answered object monitors (call (monitor_at monitors object))

abbrev pub enter : (object thread : ℕ) → List Monitor → Answered (List Monitor)
enter object thread = at_object object (monitor_enter thread)

abbrev pub exit : (object thread : ℕ) → List Monitor → Answered (List Monitor)
exit object thread = at_object object (monitor_exit thread)

abbrev pub wait : (object thread : ℕ) → List Monitor → Answered (List Monitor)
wait object thread = at_object object (monitor_wait thread)

abbrev pub notify : (object thread pick : ℕ) → List Monitor → Answered (List Monitor)
notify object thread pick = at_object object (monitor_notify thread pick)

abbrev pub notify_all : (object thread : ℕ) → List Monitor → Answered (List Monitor)
notify_all object thread = at_object object (monitor_notify_all thread)

abbrev pub wake_all : (object : ℕ) → List Monitor → Answered (List Monitor)
wake_all object = at_object object monitor_wake_all

abbrev pub interrupt : (object thread : ℕ) → List Monitor → Answered (List Monitor)
interrupt object thread = at_object object (monitor_interrupt thread)

abbrev pub relock : (object thread count : ℕ) → List Monitor → Answered (List Monitor)
relock object thread count = at_object object (monitor_relock thread count)
