-- The events of a thread of which nothing is chosen: with another pick than 0 they are not enabled (own).
use Rattle.std.specs.Prelude.{ℕ, List, [], ◌∷◌, Result, slice_get}
use Rattle.model.specs.declared.event.Event.{Event}
use Rattle.model.specs.Names.{Name}
use Rattle.model.specs.Classes.{Program}
use Rattle.model.specs.LimitStands.{Bounds}
use Rattle.model.specs.Operands.{words}
use Rattle.model.specs.State.{types_of, Initialisation, StackOf, StateOf, WakeCause}
use Rattle.model.specs.Step.{unpicked, begin_event, initialisation_event, pending_event, relock_event}
use Rattle.linked_code.specs.declared.program.LinkedProgram.{LinkedProgram}
use Rattle.linked_code.specs.Numbers.{IsClassAt}
use Rattle.thread_stacks.specs.declared.entry.Phase.{Phase}
use Rattle.thread_stacks.specs.Stacks.{ShownEntry}
use Rattle.machine_state.specs.shown_stacks.Shown.{phase_of}
use Rattle.machine_state.specs.declared.answers.Answer.{Answer}
use Rattle.machine_state.specs.declared.refusals.EventRefusal.{EventRefusal}
use Rattle.machine_state.specs.declared.state.Shared.{Shared}
use Rattle.machine_state.specs.Shown.{IsProgram, IsLent}
use Rattle.machine_state.specs.Events.{Becomes}
use Rattle.machine_threads.specs.thread_events.Events.{DoesIn}

-- it has left a wait set, and enters its monitor again (JLS 17.2.1)
abbrev pub DoesRelock : LinkedProgram → Result Answer EventRefusal → Event → (object count : ℕ) → WakeCause → (old new : Shared)
    (from to : List ShownEntry) → Type 0
DoesRelock p result event object count cause old new from to =
    DoesIn p event.thread (λ trees state own. unpicked event (relock_event words trees event.thread object count cause state.world own)) result old new from to

-- an exception is pending (JVMS 2.10)
abbrev pub DoesPending : LinkedProgram → Result Answer EventRefusal → Event → (exception : ℕ) → (old new : Shared) (from to : List ShownEntry)
    → Type 0
DoesPending p result event exception old new from to =
    DoesIn p event.thread
    (λ trees state own. unpicked event (pending_event words trees event.thread exception (slice_get (types_of state.world.heap) exception) state.world own))
    result old new from to

-- a class is on top, by its number and its phase (JVMS 5.5)
abbrev pub DoesInitialisation : LinkedProgram → Result Answer EventRefusal → Event → (number : ℕ) → Phase → (frames : ℕ) → (old new : Shared)
    (from to : List ShownEntry) → Type 0
DoesInitialisation p result event number phase frames old new from to =
    (trees : Program) (bounds : Bounds) (inflated : List ℕ) (state : StateOf ℕ) (class : Name) (rest : StackOf ℕ)
    → IsProgram trees p → IsLent trees p bounds inflated event.thread old from state (Initialisation class (phase_of phase) ∷ rest)
    → IsClassAt trees number class
    → Becomes trees p bounds inflated state.world
    (unpicked event (initialisation_event words trees frames event.thread class (phase_of phase) state.world rest)) result old new from to

-- its stack is empty: it begins (JVMS 5.2; JLS 17)
abbrev pub DoesBegin : LinkedProgram → Result Answer EventRefusal → Event → (frames : ℕ) → (old new : Shared) (from to : List ShownEntry)
    → Type 0
DoesBegin p result event frames old new from to =
    (trees : Program) (bounds : Bounds) (inflated : List ℕ) (state : StateOf ℕ) → IsProgram trees p → IsLent trees p bounds inflated event.thread old from state []
    → Becomes trees p bounds inflated state.world (unpicked event (begin_event words trees frames state.world event.thread)) result old new
    from to
