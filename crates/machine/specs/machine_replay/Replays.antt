-- What a replay is: the report means the events that were done, and the end says why no more were.
use Rattle.std.specs.Prelude.{◌≡◌, ℕ, List, [], ◌∷◌, ◌++◌, Some, length, map, IsTrue, IsFalse}
use Rattle.model.specs.declared.end.End.{End}
use Rattle.model.specs.declared.end.End.TheVariants as ends
use Rattle.model.specs.declared.end.RunCause.{RunCause}
use Rattle.model.specs.declared.end.RunCause.TheVariants as cause
use Rattle.model.specs.declared.event.Event.{Event}
use Rattle.model.specs.declared.limits.Limits.{Limits}
use Rattle.model.specs.declared.report.Report.{Report}
use Rattle.model.specs.Classes.{Program}
use Rattle.model.specs.LimitStands.{Bounds, bounds_of, limit_after, within_limits}
use Rattle.model.specs.Meaning.{meaning, thread_ends}
use Rattle.model.specs.Operands.{values}
use Rattle.model.specs.Report.{end_state_of, report_text}
use Rattle.model.specs.Run.{run, is_quiet}
use Rattle.model.specs.State.{State}
use Rattle.model.specs.Step.{WrongKind, stepped, is_enabled}
use Rattle.machine_state.specs.Memory.{takes_memory_after}

-- ---- why no more events were done

-- The cause stands at an enabled event after those that were done: the limit that it names forbids the event. Where memory was
-- wanted, no limit is named.
abbrev pub IsRefusedFor : Program → Bounds → (done : List Event) → Event → RunCause → Type 0
IsRefusedFor trees bounds done event cause.Objects = limit_after trees bounds done event ≡ Some cause.Objects
IsRefusedFor trees bounds done event cause.Cells = limit_after trees bounds done event ≡ Some cause.Cells
IsRefusedFor trees bounds done event cause.Monitors = limit_after trees bounds done event ≡ Some cause.Monitors
IsRefusedFor trees bounds done event cause.Threads = limit_after trees bounds done event ≡ Some cause.Threads
IsRefusedFor trees bounds done event cause.LockCount = limit_after trees bounds done event ≡ Some cause.LockCount
IsRefusedFor trees bounds done event cause.Memory = Unit {0}

-- memory is wanted only where the event takes some
abbrev pub MayWantMemory : Program → (frames : ℕ) → (done : List Event) → Event → RunCause → Type 0
MayWantMemory trees frames done event cause.Memory = IsTrue (takes_memory_after trees frames done event)
MayWantMemory trees frames done event why = Unit {0}

-- what is said of the next event, which is there
abbrev pub OfNext : List Event → (Event → Type 0) → Type 0
OfNext [] P = ⊥
OfNext (event ∷ events) P = P event

-- The end after the events that were done, in the state to which they led, with those that are left: none is, and some thread may
-- go on, or none may; or the next one is not enabled; or it is, and is refused, for want of memory only where it takes some.
abbrev pub EndFits : Program → Bounds → State → (done left : List Event) → End → Type 0
EndFits trees bounds state done left ends.Schedule = (left ≡ []) × IsFalse (is_quiet trees bounds.frames state)
EndFits trees bounds state done left ends.Quiet = (left ≡ []) × IsTrue (is_quiet trees bounds.frames state)
EndFits trees bounds state done left (ends.NotEnabled i) = (i ≡ length done) × OfNext left (λ event. IsFalse (is_enabled trees bounds.frames state event))
EndFits trees bounds state done left (ends.Refused i cause) =
    (i ≡ length done) × OfNext left (λ event. IsTrue (is_enabled trees bounds.frames state event) × IsRefusedFor trees bounds done event cause × MayWantMemory trees bounds.frames done event cause)
EndFits trees bounds state done left ends.Budget = ⊥

-- ---- what a run never meets

-- At each of these events to which a run by those before it comes, the one behind the last that was done too, its thread finds its
-- instruction, and the operands as they are wanted.
abbrev pub AreOperandsFound : Program → (frames : ℕ) → List Event → Type 0
AreOperandsFound trees frames events =
    (done : List Event) (event : Event) (left : List Event) (state : State) → events ≡ done ++ event ∷ left → run trees frames done ≡ Some state
    → stepped values trees frames state event ≡ WrongKind → ⊥

-- ---- the theorem

abbrev pub text_of : Report → End → List ℕ
text_of r end = report_text r.printed.items (map end_state_of r.threads.items) r.events end

-- A front of the events was done, at none of which a limit stood; the report is its meaning; and the end says why it is not longer.
-- Neither an event of the front nor the next one met an operand of a wrong kind.
pub record IsReplay (trees : Program) (events : List Event) (limits : Limits) (r : Report) (end : End) : Type 0 where
  pub front : List Event
  pub left : List Event
  pub events_are : events ≡ front ++ left
  pub state : State
  pub reached : run trees limits.frames front ≡ Some state
  pub within : IsTrue (within_limits trees (bounds_of limits) front)
  pub printed : r.printed.items ≡ state.world.printed
  pub threads : map end_state_of r.threads.items ≡ thread_ends trees limits.frames state
  pub count : r.events ≡ length front
  pub means : meaning trees limits.frames front end ≡ Some (text_of r end)
  pub ended : EndFits trees (bounds_of limits) state front left end
  pub found : AreOperandsFound trees limits.frames events
