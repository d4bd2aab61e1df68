-- The end of a thread, in two writes and a loop.
use Rattle.std.proofs.Common.{◌≡◌, ◌<◌, ℕ, List, length, slice_index_or, slice_set, Option, None, refl, ap, true, ◌∙◌}
use Rattle.std.proofs.lemmas.List.{set-set, get_or-set_same}
use Rattle.model.specs.State.{Thread, Ended, Notified, WorldOf, new_thread}
use Rattle.model.specs.Monitors as monitors
use Rattle.model.specs.Monitors.{monitor_at}
use Rattle.model.specs.Worlds.{thread_at, with_thread, all_woken}
use Rattle.model.specs.Step.{ended, with_end}
use Rattle.heap.specs.Heap.{Heap}
use Rattle.heap.specs.java_threads.Table as table
use Rattle.heap.specs.java_threads.Table.{ThreadTable}
use Rattle.heap.specs.monitor_events.Tables.{shared, among, ThreadsBecome}
use Rattle.heap.specs.monitor_events.Events.{AreWoken}
use Rattle.heap.proofs.monitor_events.Woken.{woken_over}

-- a second write to a place, by what the first wrote
pub written_twice : (threads : List Thread) (t : ℕ) (first : Thread) (change : Thread → Thread) → t < length threads
    → slice_set (slice_set threads t first) t (change (slice_index_or (slice_set threads t first) t (new_thread 0)))
    ≡ slice_set threads t (change first)
written_twice threads t first change there =
    rw (get_or-set_same threads t first (new_thread 0) there, set-set threads t first (change first)) refl

pub ended_over : (world : WorldOf ℕ) (old new : Heap) (from between to : ThreadTable) (thread object : ℕ)
    → object ≡ (table.thread_at from.threads thread).object
    → ThreadsBecome (λ w. with_thread w thread (ended (thread_at w thread))) from between
    → AreWoken object Notified old between to
    → new.locks.monitors ≡ (monitors.wake_all object old.locks.monitors).after
    → shared world new to ≡ with_end (shared world old from) thread true
ended_over world old new from between to thread object object_is has_ended woken_are is =
    woken_over object Notified world (monitors.wake_all object old.locks.monitors).after old new between to woken_are is
    ∙ ap (λ (w : WorldOf ℕ). all_woken object Notified (record
    w { monitors = (monitors.wake_all object old.locks.monitors).after })
    (monitor_at old.locks.monitors object).waiters)
    (has_ended.world world)
    ∙ ap (λ (o : ℕ). all_woken o Notified
    (record (with_thread (among world from) thread (ended (thread_at (among world from) thread)))
    { monitors = (monitors.wake_all o old.locks.monitors).after })
    (monitor_at old.locks.monitors o).waiters)
    object_is

pub ended_by_two : (t : ℕ) (old between new : ThreadTable) (pending : Option ℕ) → t < length old.threads
    → pending ≡ (table.thread_at old.threads t).pending
    → between ≡ table.with_thread old t (record (table.thread_at old.threads t) { pending = None })
    → new ≡ table.with_thread between t (record (table.thread_at between.threads t) { status = Ended pending })
    → ThreadsBecome (λ world. with_thread world t (ended (thread_at world t))) old new
ended_by_two t old between new pending there pending_is between_is new_is = record {
  world = λ world. ap (λ (threads : List Thread). record world { threads = threads }) threads_are;
  limit = ap (λ (x : ThreadTable). x.limit) new_is ∙ ap (λ (x : ThreadTable). x.limit) between_is;
}
  where
    threads_are : new.threads ≡ slice_set old.threads t (ended (table.thread_at old.threads t))
    threads_are =
        ap (λ (x : ThreadTable). x.threads) new_is
        ∙ ap (λ (x : ThreadTable). slice_set x.threads t (record
        (table.thread_at x.threads t) { status = Ended pending })) between_is
        ∙ written_twice old.threads t (record (table.thread_at old.threads t) { pending = None })
        (λ (x : Thread). record x { status = Ended pending }) there
        ∙ ap (λ (p : Option ℕ). slice_set old.threads t (record
        (table.thread_at old.threads t) { pending = None; status = Ended p })) pending_is
