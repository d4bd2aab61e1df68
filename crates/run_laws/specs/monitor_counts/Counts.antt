-- Counts of monitors (JLS 17.1, 17.2), and which locks are inflated (own): what each event keeps of them, typed or not.
use Rattle.std.specs.Prelude.{◌≡◌, ℕ, ◌<◌, List, [], ◌∷◌, ◌++◌, Option, Some, None, Bool, ◌&&◌, ◌||◌, ◌==◌, slice_get, slice_index_or, IsTrue}
use Rattle.std.specs.List.{list_any}
use Rattle.model.specs.declared.event.Event.{Event}
use Rattle.model.specs.Classes.{Program}
use Rattle.model.specs.Operands.{Carrier, words, values}
use Rattle.model.specs.State.{Waiter, Monitor, ThreadStatus, Running, Waiting, Relock, Ended, Thread, WorldOf, StateOf, State}
use Rattle.model.specs.Outcomes.{Cost, Free, Makes, Fills, Starts, Enters, Joins}
use Rattle.model.specs.Monitors.{monitor_at}
use Rattle.model.specs.Worlds.{no_thread}
use Rattle.model.specs.Opening.{opening}
use Rattle.model.specs.Step.{Next, stepped}
use Rattle.model.specs.Run.{run}
use Rattle.model.specs.LimitStands.{is_inflating_entry, inflated_by, inflated}

-- ---- which locks are inflated, or fat

-- the lock of an object is one of those
abbrev pub is_inflated : List ℕ → ℕ → Bool
is_inflated objects object = list_any (λ o. o == object) objects

-- After an event there are those before it, and by what the event takes one more: the lock of which an owner with 256 entries
-- had one more, or the one on whose object a thread joined the wait set.
abbrev pub is_fat_after : Cost → (ℕ → Bool) → ℕ → Bool
is_fat_after Free fat = fat
is_fat_after (Makes cells) fat = fat
is_fat_after (Fills cells) fat = fat
is_fat_after Starts fat = fat
is_fat_after (Enters entered count) fat = λ object. fat object || (is_inflating_entry count && (entered == object))
is_fat_after (Joins joined) fat = λ object. fat object || (joined == object)

-- ---- counts

-- a thread that is to enter the monitor of an object again enters it at least once, and the lock is fat
pub record Returns (fat : ℕ → Bool) (object count : ℕ) : Type 0 where
  pub entries : 0 < count
  pub lock : IsTrue (fat object)

-- so does a thread in the wait set, and one that has left it (JLS 17.2.1)
abbrev pub IsStatusCounted : (ℕ → Bool) → ThreadStatus → Type 0
IsStatusCounted fat Running = Unit {0}
IsStatusCounted fat (Waiting object count) = Returns fat object count
IsStatusCounted fat (Relock object count cause) = Returns fat object count
IsStatusCounted fat (Ended exception) = Unit {0}

-- an owner has entered at least once; where there is none, there are no entries (JLS 17.1)
abbrev pub IsOwnerCounted : Option ℕ → ℕ → Type 0
IsOwnerCounted None count = count ≡ 0
IsOwnerCounted (Some owner) count = 0 < count

-- the monitor of an object
pub record IsMonitorCounted (fat : ℕ → Bool) (object : ℕ) (monitor : Monitor) : Type 0 where
  pub owner : IsOwnerCounted monitor.owner monitor.count
  pub waiters : (pick : ℕ) (waiter : Waiter) → slice_get monitor.waiters pick ≡ Some waiter → Returns fat object waiter.count

-- each monitor, and each thread
pub record AreCounted (fat : ℕ → Bool) (monitors : List Monitor) (threads : List Thread) : Type 0 where
  pub monitors_are : (object : ℕ) → IsMonitorCounted fat object (monitor_at monitors object)
  pub statuses_are : (t : ℕ) → IsStatusCounted fat (slice_index_or threads t no_thread).status

abbrev pub AreMonitorsCounted : {A : Type 0} → (ℕ → Bool) → WorldOf A → Type 0
AreMonitorsCounted fat world = AreCounted fat world.monitors world.threads

-- ---- the statements

-- in the opening state no thread waits, and no monitor is owned
abbrev pub IsOpeningCounted : {A : Type 0} → Carrier A → Type 0
IsOpeningCounted C = (files : Program) (fat : ℕ → Bool) → AreMonitorsCounted fat (opening C files).world

-- each event keeps counts, with the locks fat that are so after it
abbrev pub IsCountKept : {A : Type 0} → Carrier A → Type 0
IsCountKept {A} C =
    (files : Program) (frames : ℕ) (state : StateOf A) (event : Event) (cost : Cost) (next : StateOf A)
    → stepped C files frames state event ≡ Next cost next
    → (fat : ℕ → Bool) → AreMonitorsCounted fat state.world → AreMonitorsCounted (is_fat_after cost fat) next.world

-- over values and over words
pub record AreOpeningsCounted : Type 0 where
  pub of_values : IsOpeningCounted values
  pub of_words : IsOpeningCounted words

pub record AreCountsKept : Type 0 where
  pub of_values : IsCountKept values
  pub of_words : IsCountKept words

-- one more event of a run leads on from its state, and inflates by what it takes
pub record IsLonger (files : Program) (frames : ℕ) (events : List Event) (event : Event) (cost : Cost) (next : State) : Type 0 where
  pub reached : run files frames (events ++ event ∷ []) ≡ Some next
  pub inflated_are : inflated files frames (events ++ event ∷ []) ≡ inflated_by cost (inflated files frames events)
  pub fat_are : (object : ℕ) → is_inflated (inflated files frames (events ++ event ∷ [])) object
      ≡ is_fat_after cost (is_inflated (inflated files frames events)) object

abbrev pub AreRunsLonger : Type 0
AreRunsLonger =
    (files : Program) (frames : ℕ) (events : List Event) (state : State) (event : Event) (cost : Cost) (next : State)
    → run files frames events ≡ Some state → stepped values files frames state event ≡ Next cost next
    → IsLonger files frames events event cost next

-- in each state of a run counts are right, with the locks fat that its events inflated
abbrev pub AreRunsCounted : Type 0
AreRunsCounted =
    (files : Program) (frames : ℕ) (events : List Event) (state : State)
    → run files frames events ≡ Some state → AreMonitorsCounted (is_inflated (inflated files frames events)) state.world
