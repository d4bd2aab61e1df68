-- The event of a thread in which an exception is pending (JVMS 2.10, 5.5).
use Rattle.std.specs.Prelude.{◌≡◌, ℕ, List, ◌∷◌, Some, Result, IsFalse, slice_get}
use Rattle.model.specs.Names.{Name}
use Rattle.model.specs.Classes.{Program}
use Rattle.model.specs.LimitStands.{Bounds}
use Rattle.model.specs.Operands.{words}
use Rattle.model.specs.State as model
use Rattle.model.specs.State.{types_of, FrameOf, Phase, StackOf, StateOf}
use Rattle.model.specs.Worlds.{has_ended, thread_at}
use Rattle.model.specs.Step.{SteppedOf, PartOf, pending_event}
use Rattle.linked_code.specs.declared.program.LinkedProgram.{LinkedProgram}
use Rattle.linked_code.specs.Numbers.{IsClassAt}
use Rattle.thread_stacks.specs.Stacks.{ShownEntry}
use Rattle.machine_state.specs.declared.answers.Answer.{Answer}
use Rattle.machine_state.specs.declared.refusals.EventRefusal.{EventRefusal}
use Rattle.machine_state.specs.declared.state.Shared.{Shared}
use Rattle.machine_state.specs.Shown.{IsProgram, IsLent}
use Rattle.machine_state.specs.Events.{Becomes}

-- The exception is pending in the thread, which has not ended, and whose own stack is lent.
pub record IsPending (trees : Program) (p : LinkedProgram) (bounds : Bounds) (inflated : List ℕ) (t exception : ℕ) (shared : Shared)
    (stack : List ShownEntry) (state : StateOf ℕ) (own : StackOf ℕ) : Type 0 where
  pub program : IsProgram trees p
  pub lent : IsLent trees p bounds inflated t shared stack state own
  pub going : IsFalse (has_ended (thread_at state.world t).status)
  pub pending : (thread_at state.world t).pending ≡ Some exception

-- what becomes of its event
abbrev pub event_of_pending : Program → (t exception : ℕ) → StateOf ℕ → StackOf ℕ → SteppedOf (PartOf ℕ)
event_of_pending trees t exception state own = pending_event words trees t exception (slice_get (types_of state.world.heap) exception) state.world own

-- the result says it, in whatever state
abbrev pub DoesPending : LinkedProgram → (t exception : ℕ) → Result Answer EventRefusal → (old new : Shared) (from to : List ShownEntry) → Type 0
DoesPending p t exception result old new from to =
    (trees : Program) (bounds : Bounds) (inflated : List ℕ) (state : StateOf ℕ) (own : StackOf ℕ) → IsPending trees p bounds inflated t exception old from state own
    → Becomes trees p bounds inflated state.world (event_of_pending trees t exception state own) result old new from to

-- with a frame on top
abbrev pub DoesInFrame : LinkedProgram → (t exception : ℕ) → Result Answer EventRefusal → (old new : Shared) (from to : List ShownEntry) → Type 0
DoesInFrame p t exception result old new from to =
    (trees : Program) (bounds : Bounds) (inflated : List ℕ) (state : StateOf ℕ) (frame : FrameOf ℕ) (rest : StackOf ℕ) → IsPending trees p bounds inflated t exception old from state (model.Invocation frame ∷ rest)
    → Becomes trees p bounds inflated state.world (event_of_pending trees t exception state (model.Invocation frame
    ∷ rest)) result old new from to

-- with a class on top, by its number
abbrev pub DoesInClass : LinkedProgram → (t number exception : ℕ) → Result Answer EventRefusal → (old new : Shared) (from to : List ShownEntry)
    → Type 0
DoesInClass p t number exception result old new from to =
    (trees : Program) (bounds : Bounds) (inflated : List ℕ) (state : StateOf ℕ) (class : Name) (phase : Phase) (rest : StackOf ℕ) → IsClassAt trees number class
    → IsPending trees p bounds inflated t exception old from state (model.Initialisation class phase ∷ rest)
    → Becomes trees p bounds inflated state.world (event_of_pending trees t exception state (model.Initialisation class phase
    ∷ rest)) result old new from to
