-- The locks that events inflate, as the calls of monitors keep them: a flag for each object; and what the calls answer and refuse.
use Rattle.std.specs.Prelude.{◌≡◌, ℕ, ◌<◌, List, [], ◌∷◌, ◌++◌, Option, Some, None, Result, Ok, Err, Bool, true, false, if◌then◌else◌, length, replicate, slice_get, slice_index_or, slice_set, count_by, IsTrue}
use Rattle.model.specs.BuiltInNumbers.{most_threads}
use Rattle.model.specs.declared.end.RunCause.{RunCause}
use Rattle.model.specs.declared.end.RunCause.TheVariants as cause
use Rattle.model.specs.declared.monitor_answer.MonitorAnswer.{MonitorAnswer}
use Rattle.model.specs.declared.monitor_answer.MonitorAnswer.TheVariants.{Done}
use Rattle.model.specs.Classes.{Program}
use Rattle.model.specs.State.{WakeCause, Relock, Thread, StateOf}
use Rattle.model.specs.Outcomes.{Cost, Free, Makes, Fills, Starts, Enters, Joins}
use Rattle.model.specs.Monitors.{owns, monitor_at, enter}
use Rattle.model.specs.LimitStands.{is_inflating_entry, inflated_by, is_crowded, entry_limit}
use Rattle.model.specs.Words.{AreWellTypedWords}
use Rattle.heap.specs.declared.monitor.call.Call.{Call}
use Rattle.heap.specs.declared.monitor.call.Call.TheVariants as calls
use Rattle.heap.specs.declared.monitor.refusal.MonitorRefusal.{MonitorRefusal}
use Rattle.heap.specs.declared.monitor.refusal.MonitorRefusal.TheVariants.{Monitors, LockCount, Memory}
use Rattle.heap.specs.monitor.Locks.{Locks, IsAllowed, fat_after, is_table_full, is_count_full, Answers}
use Rattle.run_laws.specs.monitor_counts.Counts.{is_inflated, Returns, IsMonitorCounted, AreMonitorsCounted}

-- ---- flags

-- a flag says whether the lock of an object is inflated, and as many are set as are
pub record AreFlags (flags : List Bool) (objects : List ℕ) : Type 0 where
  pub same : (object : ℕ) → slice_index_or flags object false ≡ is_inflated objects object
  pub count : count_by (λ flag. flag) flags ≡ length objects

-- what an event makes of them, by what it takes
abbrev pub flags_after : Cost → List Bool → List Bool
flags_after Free flags = flags
flags_after (Makes cells) flags = flags ++ false ∷ []
flags_after (Fills cells) flags = flags
flags_after Starts flags = flags
flags_after (Enters object count) flags = if is_inflating_entry count then slice_set flags object true else flags
flags_after (Joins object) flags = slice_set flags object true

-- the object is one of so many
abbrev pub IsOneOf : Cost → ℕ → Type 0
IsOneOf Free objects = Unit {0}
IsOneOf (Makes cells) objects = Unit {0}
IsOneOf (Fills cells) objects = Unit {0}
IsOneOf Starts objects = Unit {0}
IsOneOf (Enters object count) objects = object < objects
IsOneOf (Joins object) objects = object < objects

-- ---- calls of monitors, where counts are right

-- why a call of `monitor` would be refused, memory aside; of both, the count is answered
abbrev pub call_limit : Call → Locks → Option RunCause
call_limit call locks =
    if is_count_full call locks then Some cause.LockCount
    else if is_table_full call locks then Some cause.Monitors
    else None

-- what an answer says of limits: where a call is done, or refused for want of memory, none stands
abbrev pub limit_told : Result MonitorAnswer MonitorRefusal → Option RunCause
limit_told (Ok answer) = None
limit_told (Err Monitors) = Some cause.Monitors
limit_told (Err LockCount) = Some cause.LockCount
limit_told (Err Memory) = None

-- it tells the limit that stands, whichever call it is
abbrev pub AreRefusalsLimits : Type 0
AreRefusalsLimits =
    (result : Result MonitorAnswer MonitorRefusal) (call : Call) (old new : Locks) → Answers result call old new → call_limit call old ≡ limit_told result

-- the locks keep the flags of what was inflated
pub record Shows (locks : Locks) (objects : List ℕ) (object : ℕ) : Type 0 where
  pub flags : AreFlags locks.fat objects
  pub counted : IsMonitorCounted (is_inflated objects) object (monitor_at locks.monitors object)

-- a call of a thread sets the flags as the event does by what it takes, and is refused at its limit
pub record IsAsTaken (cost : Cost) (limit : Option RunCause) (call : Call) (locks : Locks) : Type 0 where
  pub flags : fat_after call locks ≡ flags_after cost locks.fat
  pub refused : call_limit call locks ≡ limit

abbrev pub AreEntriesAsTaken : Type 0
AreEntriesAsTaken =
    (locks : Locks) (objects : List ℕ) (object thread : ℕ) → Shows locks objects object
    → (enter object thread locks.monitors).answer ≡ Done
    → IsAsTaken (Enters object (monitor_at locks.monitors object).count)
    (entry_limit (is_crowded locks.limit objects object) (monitor_at locks.monitors object).count) (calls.Enter object thread) locks

abbrev pub AreWaitsAsTaken : Type 0
AreWaitsAsTaken =
    (locks : Locks) (objects : List ℕ) (object thread : ℕ) → Shows locks objects object
    → IsTrue (owns thread (monitor_at locks.monitors object).owner)
    → IsAsTaken (Joins object) (if is_crowded locks.limit objects object then Some cause.Monitors else None) (calls.Wait object thread)
    locks

-- a thread that is to enter a monitor again may
abbrev pub AreRelocksAllowed : Type 0
AreRelocksAllowed =
    (locks : Locks) (objects : List ℕ) (object thread count : ℕ) → AreFlags locks.fat objects → Returns (is_inflated objects) object count
    → object < length locks.monitors → thread < most_threads → IsAllowed (calls.Relock object thread count) locks

-- At words of a well-typed state, with locks that show its monitors, so may each thread that has left a wait set (JLS 17.2.1).
abbrev pub AreRelocksAtWordsAllowed : Type 0
AreRelocksAtWordsAllowed =
    (files : Program) (at : StateOf ℕ) → AreWellTypedWords files at
    → (locks : Locks) (objects : List ℕ) → locks.monitors ≡ at.world.monitors → AreFlags locks.fat objects
    → AreMonitorsCounted (is_inflated objects) at.world
    → (t : ℕ) (thread : Thread) (object count : ℕ) (cause : WakeCause) → slice_get at.world.threads t ≡ Some thread
    → thread.status ≡ Relock object count cause → t < most_threads
    → IsAllowed (calls.Relock object t count) locks

-- ---- the statements

pub record AreFlagsKept : Type 0 where
  -- none is set where nothing was inflated
  pub none : (objects : ℕ) → AreFlags (replicate objects false) []
  pub after : (cost : Cost) (flags : List Bool) (objects : List ℕ) → AreFlags flags objects → IsOneOf cost (length flags)
      → AreFlags (flags_after cost flags) (inflated_by cost objects)

pub record AreCallsAsTaken : Type 0 where
  pub entries : AreEntriesAsTaken
  pub waits : AreWaitsAsTaken
  pub relocks : AreRelocksAllowed
  pub refusals : AreRefusalsLimits
