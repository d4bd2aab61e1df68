-- A loop that wakes the members of a wait set one by one wakes them all.
use Rattle.std.proofs.Common.{◌≡◌, ◌≤◌, ◌<◌, ◌+◌, ℕ, List, [], ◌∷◌, ◌++◌, Option, Some, None, slice_get, length, take}
use Rattle.std.proofs.Common.{refl, ap, sym, ◌∙◌}
use Rattle.std.proofs.lemmas.List.{take_more, take_all}
use Rattle.std.proofs.lemmas.Option.{slice_get_within, slice_get-get_or, get_or_from_slice_get}
use Rattle.model.specs.State.{Waiter, Monitor, WakeCause, Notified, WorldOf}
use Rattle.model.specs.BuiltInMethods.{notified_one}
use Rattle.model.specs.Monitors.{monitor_at}
use Rattle.heap.specs.Heap.{Heap}
use Rattle.model.specs.Worlds.{woken, all_woken}
use Rattle.heap.specs.java_threads.Table.{ThreadTable}
use Rattle.heap.specs.monitor_events.Tables.{over, among, shared, ThreadsBecome}
use Rattle.heap.specs.monitor_events.Events.{IsWoken, AreWoken}

-- one more member
pub one_more_woken : (object : ℕ) (cause : WakeCause) (world : WorldOf ℕ) (waiters : List Waiter) (waiter : Waiter)
    → all_woken object cause world (waiters ++ waiter ∷ []) ≡ woken object cause (all_woken object cause world waiters)
    waiter
one_more_woken object cause world [] waiter = refl
one_more_woken object cause world (first ∷ waiters) waiter =
    one_more_woken object cause (woken object cause world first) waiters waiter

pub then_woken : (object : ℕ) (cause : WakeCause) (waiters : List Waiter) (waiter : Waiter)
    (old between new : ThreadTable)
    → ThreadsBecome (λ world. all_woken object cause world waiters) old between
    → IsWoken object cause waiter between new
    → ThreadsBecome (λ world. all_woken object cause world (waiters ++ waiter ∷ [])) old new
then_woken object cause waiters waiter old between new before then = record {
  world = λ world. then.world world ∙ ap (λ (w : WorldOf ℕ). woken object cause w waiter) (before.world world)
      ∙ sym (one_more_woken object cause (among world old) waiters waiter);
  limit = then.limit ∙ before.limit;
}

-- the member of the number at which the loop is
pub woken_at : (object : ℕ) (cause : WakeCause) (waiters : List Waiter) (pick : ℕ) (waiter : Waiter)
    (old between new : ThreadTable)
    → slice_get waiters pick ≡ Some waiter
    → ThreadsBecome (λ world. all_woken object cause world (take pick waiters)) old between
    → IsWoken object cause waiter between new
    → ThreadsBecome (λ world. all_woken object cause world (take (pick + 1) waiters)) old new
woken_at object cause waiters pick waiter old between new there before then =
    rw (
      take_more waiters pick waiter (slice_get_within waiters pick waiter there),
      get_or_from_slice_get waiters pick
          waiter waiter there,
    )
    (then_woken object cause (take pick waiters) waiter old between new before then)

-- all are woken where the loop ends
pub woken_to : (object : ℕ) (cause : WakeCause) (waiters : List Waiter) (pick : ℕ) (old new : ThreadTable)
    → length waiters ≤ pick
    → ThreadsBecome (λ world. all_woken object cause world (take pick waiters)) old new
    → ThreadsBecome (λ world. all_woken object cause world waiters) old new
woken_to object cause waiters pick old new past done = rw (take_all pick waiters past) at done

-- each number below their count has a member
pub no_member : {P : Type 0} (waiters : List Waiter) (pick : ℕ) → pick < length waiters → slice_get waiters pick ≡ None
    → P
no_member waiters pick within none = by (sym (slice_get-get_or waiters pick (record { thread = 0; count = 0 }) within)
    ∙ none)
  where
    by : {P : Type 0} {waiter : Waiter} → Some waiter ≡ None → P
    by e = absurd cc

-- all are woken, and the monitors are others
pub woken_over : (object : ℕ) (cause : WakeCause) (world : WorldOf ℕ) (after : List Monitor) (old new : Heap)
    (from to : ThreadTable)
    → AreWoken object cause old from to → new.locks.monitors ≡ after
    → shared world new to ≡ all_woken object
    cause (record world { monitors = after; threads = from.threads }) (monitor_at old.locks.monitors object).waiters
woken_over object cause world after old new from to woken_are is =
    woken_are.world (over world new)
    ∙ ap (λ (ms : List Monitor). all_woken object cause (record world { monitors = ms; threads = from.threads })
    (monitor_at old.locks.monitors object).waiters) is

-- the member that was picked is woken, and the monitors are others
pub one_over : (object : ℕ) (world : WorldOf ℕ) (after : List Monitor) (new : Heap) (from to : ThreadTable)
    (waiter : Waiter)
    (member : Option Waiter)
    → IsWoken object Notified waiter from to → new.locks.monitors ≡ after → Some waiter ≡ member
    → shared world new to ≡ notified_one (record world { monitors = after; threads = from.threads }) object member
one_over object world after new from to waiter member is_woken is there =
    is_woken.world (over world new)
    ∙ ap (λ (ms : List Monitor). woken object Notified (record world { monitors = ms; threads = from.threads }) waiter)
    is
    ∙ ap (λ (m : Option Waiter). notified_one (record world { monitors = after; threads = from.threads }) object m)
    there
