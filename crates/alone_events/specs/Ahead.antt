-- What became of the next event of a thread (own; JVMS 2.6; JLS 17).
use Rattle.std.specs.Prelude.{◌≡◌, ◌⊎◌, ◌≤◌, ℕ, List, [], ◌∷◌, ◌++◌, Option, Some, None, Bool, true, false, IsTrue, IsFalse}
use Rattle.model.specs.declared.event.Event.{Event}
use Rattle.model.specs.Accepted.{IsAccepted}
use Rattle.model.specs.Classes.{Program}
use Rattle.model.specs.LimitStands.{Bounds}
use Rattle.model.specs.Monitors.{owns, monitor_at}
use Rattle.linked_code.specs.declared.program.LinkedProgram.{LinkedProgram}
use Rattle.machine_state.specs.declared.state.Shared.{Shared}
use Rattle.machine_state.specs.linked_frames.Frames.{event_of}
use Rattle.machine_state.specs.shown_runs.Runs.{HasRun}
use Rattle.machine.specs.Machines.{MachineOf}
use Rattle.machine.specs.schedule_runs.Done.{HasDone}
use Rattle.alone_events.specs.declared.ahead.Ahead.{Ahead}
use Rattle.alone_events.specs.declared.ahead.Ahead.TheVariants as ahead
use Rattle.alone_events.specs.declared.ahead.Before.{Before}
use Rattle.alone_events.specs.declared.seen.Seen.{Seen}
use Rattle.alone_events.specs.Alone.{AreAloneAfter}
use Rattle.alone_events.specs.Seen.{RunsInFrame, HasMovedBy}

-- whatever run was shown, these events have been done behind it
pub record HasDoneBehind (more : List Event) (old new : MachineOf) : Type 0 where
  pub program : new.program ≡ old.program
  pub limits_are : new.limits ≡ old.limits
  pub done : (files : List (List ℕ)) (trees : Program) (events : List Event) → HasDone old files trees events → HasDone new files trees (events ++ more)

-- the next event of a thread was done, or none
abbrev pub DoesOrStays : Bool → ℕ → (old new : MachineOf) → Type 0
DoesOrStays true t old new = HasDoneBehind (event_of t ∷ []) old new
DoesOrStays false t old new = HasDoneBehind [] old new

-- ---- calls and returns

-- the thread ran in a frame before and after, and has called or returned, by which no monitor was entered or left
pub record HasCalledOrReturned (t : ℕ) (old new : Shared) : Type 0 where
  pub before : Seen
  pub was : RunsInFrame old t before
  pub after : Seen
  pub is : RunsInFrame new t after
  pub moved : HasMovedBy before after

-- so it is told, of one that was seen before
abbrev pub IsTold : Bool → Seen → Shared → ℕ → Type 0
IsTold true before new t = (after : Seen) × (RunsInFrame new t after × HasMovedBy before after)
IsTold false before new t = (after : Seen) → RunsInFrame new t after → HasMovedBy before after → ⊥

-- ---- monitors

-- the thread owns the monitor of the object, if there is one
abbrev pub IsOwned : Shared → ℕ → Option ℕ → Type 0
IsOwned shared t None = Unit {0}
IsOwned shared t (Some object) = IsTrue (owns t (monitor_at shared.heap.locks.monitors object).owner)

-- what was seen is so, if it was
abbrev pub IsLikely : Shared → ℕ → Option Before → Type 0
IsLikely shared t None = Unit {0}
IsLikely shared t (Some before) = RunsInFrame shared t before.frame × IsOwned shared t before.left

-- the thread runs in a frame, has no more entries on its stack than it had, and doesn't own the monitor
pub record HasLeftBy (before : Before) (new : Shared) (t : ℕ) : Type 0 where
  pub object : ℕ
  pub is_left : before.left ≡ Some object
  pub after : Seen
  pub is : RunsInFrame new t after
  pub no_deeper : after.entries ≤ before.frame.entries
  pub left : IsFalse (owns t (monitor_at new.heap.locks.monitors object).owner)

-- so it is told
abbrev pub IsLeftTold : Bool → Before → Shared → ℕ → Type 0
IsLeftTold true before new t = HasLeftBy before new t
IsLeftTold false before new t = Unit {0}

-- the thread ran in a frame before and after, and has left a monitor
pub record HasLeftMonitor (t : ℕ) (old new : Shared) : Type 0 where
  pub before : Before
  pub was : RunsInFrame old t before.frame
  pub owned : IsOwned old t before.left
  pub leaves : HasLeftBy before new t

-- ---- the event

abbrev pub Tells : Ahead → Before → Shared → ℕ → Type 0
Tells ahead.Stays before new t = ⊥
Tells ahead.Alone before new t = IsTold true before.frame new t ⊎ HasLeftBy before new t
Tells ahead.Past before new t = IsTold false before.frame new t

-- behind whatever run was shown, the event is alone
abbrev pub IsAloneBehind : ℕ → MachineOf → Type 0
IsAloneBehind t m =
    (files : List (List ℕ)) (trees : Program) (events : List Event) → HasDone m files trees events → AreAloneAfter trees m.limits.frames events (event_of t ∷ [])

abbrev pub GoesAhead : Ahead → ℕ → (old new : MachineOf) → Type 0
GoesAhead ahead.Stays t old new = HasDoneBehind [] old new
GoesAhead ahead.Alone t old new =
    HasDoneBehind (event_of t ∷ []) old new
    × ((HasCalledOrReturned t old.shared new.shared ⊎ HasLeftMonitor t old.shared new.shared) × IsAloneBehind t old)
GoesAhead ahead.Past t old new = HasDoneBehind (event_of t ∷ []) old new × (HasCalledOrReturned t old.shared new.shared → ⊥)

-- ---- the statements

-- what is seen of a thread before an event and after it tells that the event is alone
abbrev pub TellsAlone : (ℕ → (old new : Shared) → Type 0) → Type 0
TellsAlone P =
    (files : List (List ℕ)) (trees : Program) → IsAccepted files trees → (p : LinkedProgram) (bounds : Bounds) (old new : Shared) (t : ℕ) (events : List Event)
    → HasRun trees p bounds old events → HasRun trees p bounds new (events ++ event_of t ∷ []) → P t old new
    → AreAloneAfter trees bounds.frames events (event_of t ∷ [])

-- a call or a return
abbrev pub AreMovesAloneSeen : Type 0
AreMovesAloneSeen = TellsAlone HasCalledOrReturned

-- a monitor that is left
abbrev pub AreReleasesAloneSeen : Type 0
AreReleasesAloneSeen = TellsAlone HasLeftMonitor
