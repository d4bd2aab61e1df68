-- The start of threads, their interruption and their end (JLS 17, 17.2.3, 12.4.1; the API of Thread).
use Rattle.std.specs.Prelude.{◌≡◌, ℕ, ◌<◌, length, Bool, true, false, Result, Ok, Err, is_some}
use Rattle.model.specs.State.{WorldOf}
use Rattle.model.specs.Worlds.{is_alive, thread_of}
use Rattle.model.specs.BuiltInMethods.{with_started}
use Rattle.heap.specs.declared.java_threads.refusal.ThreadRefusal.{ThreadRefusal}
use Rattle.heap.specs.java_threads.Table.{ThreadTable, IsAdded}
use Rattle.heap.specs.monitor_events.Tables.{among, ThreadsBecome}

-- whether a thread of the object was started
abbrev pub SaysStarted : Bool → (object : ℕ) → ThreadTable → Type 0
SaysStarted answer object table = (world : WorldOf ℕ) → answer ≡ is_some (thread_of (among world table) object)

-- whether it was, and has not ended
abbrev pub SaysAlive : Bool → (object : ℕ) → ThreadTable → Type 0
SaysAlive answer object table = (world : WorldOf ℕ) → answer ≡ is_alive (among world table) object

-- a thread that was not started is, unless it is refused; nothing changes of one that was
abbrev pub StartsBy : Result Bool ThreadRefusal → (object : ℕ) → ThreadTable → ThreadTable → Type 0
StartsBy (Ok true) object old new =
    SaysStarted false object old × ThreadsBecome (λ world. with_started world object) old new
    × (length old.threads < old.limit)
StartsBy (Ok false) object old new = SaysStarted true object old × (new ≡ old)
StartsBy (Err refusal) object old new = SaysStarted false object old × IsAdded (Err refusal) object old new
