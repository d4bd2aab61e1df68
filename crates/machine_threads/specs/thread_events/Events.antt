-- What becomes of an event of a thread, in whatever state (JVMS 2.6; JLS 17).
use Rattle.std.specs.Prelude.{◌≡◌, ℕ, List, Result, None, Some}
use Rattle.model.specs.declared.event.Event.{Event}
use Rattle.model.specs.Classes.{Program}
use Rattle.model.specs.LimitStands.{Bounds}
use Rattle.model.specs.Operands.{words}
use Rattle.model.specs.State.{Running, StackOf, StateOf}
use Rattle.model.specs.Step.{SteppedOf, PartOf, thread_at, running_event, going_event, thread_event, settled}
use Rattle.heap.specs.java_threads.Table.{thread_at as row_at}
use Rattle.linked_code.specs.declared.instruction.LinkedInstruction.{LinkedInstruction}
use Rattle.linked_code.specs.declared.program.LinkedProgram.{LinkedProgram}
use Rattle.machine_state.specs.linked_frames.Frames.{IsInstruction}
use Rattle.thread_stacks.specs.declared.entry.Top.TheVariants as top
use Rattle.thread_stacks.specs.Stacks.{ShownEntry, top_of}
use Rattle.machine_state.specs.declared.answers.Answer.{Answer}
use Rattle.machine_state.specs.declared.refusals.EventRefusal.{EventRefusal}
use Rattle.machine_state.specs.declared.state.Shared.{Shared}
use Rattle.machine_state.specs.Shown.{IsProgram, IsLent}
use Rattle.machine_state.specs.Events.{Becomes}

-- a thread, whose own stack is lent, in some state of some files: what a function that does its event may ask of its caller
pub record HasThread (p : LinkedProgram) (t : ℕ) (shared : Shared) (stack : List ShownEntry) : Type 0 where
  pub trees : Program
  pub bounds : Bounds
  pub inflated : List ℕ
  pub state : StateOf ℕ
  pub own : StackOf ℕ
  pub program : IsProgram trees p
  pub lent : IsLent trees p bounds inflated t shared stack state own

-- it runs, with no exception pending, and the frame on top of its stack stands at this instruction
abbrev pub RunsAt : LinkedProgram → (t : ℕ) → LinkedInstruction → Shared → List ShownEntry → Type 0
RunsAt p t instruction shared stack =
    ((row_at shared.threads.threads t).status ≡ Running) × ((row_at shared.threads.threads t).pending ≡ None)
    × (top.Invocation ≡ top_of stack) × IsInstruction p stack (Some instruction)

-- in whatever state its stack is lent, the result says what becomes of an event, as files, a state and the thread's own stack have it
abbrev pub DoesIn : LinkedProgram → (t : ℕ) → (Program → StateOf ℕ → StackOf ℕ → SteppedOf (PartOf ℕ)) → Result Answer EventRefusal
    → (old new : Shared) (from to : List ShownEntry) → Type 0
DoesIn p t stepped result old new from to =
    (trees : Program) (bounds : Bounds) (inflated : List ℕ) (state : StateOf ℕ) (own : StackOf ℕ) → IsProgram trees p → IsLent trees p bounds inflated t old from state own
    → Becomes trees p bounds inflated state.world (stepped trees state own) result old new from to

-- of a thread that runs, with no exception pending
abbrev pub DoesRunning : LinkedProgram → Result Answer EventRefusal → Event → (frames : ℕ) → (old new : Shared) (from to : List ShownEntry)
    → Type 0
DoesRunning p result event frames old new from to =
    DoesIn p event.thread (λ trees state own. running_event words trees frames event state.world own) result old new from to

-- of one that runs
abbrev pub DoesGoing : LinkedProgram → Result Answer EventRefusal → Event → (frames : ℕ) → (old new : Shared) (from to : List ShownEntry)
    → Type 0
DoesGoing p result event frames old new from to =
    DoesIn p event.thread (λ trees state own. going_event words trees frames event state.world own (thread_at state.world event.thread).pending) result old new from to

-- of any, but for the end of the thread that may belong to it
abbrev pub DoesUnsettled : LinkedProgram → Result Answer EventRefusal → Event → (frames : ℕ) → (old new : Shared) (from to : List ShownEntry)
    → Type 0
DoesUnsettled p result event frames old new from to =
    DoesIn p event.thread (λ trees state own. thread_event words trees frames event state.world own (thread_at state.world event.thread).status) result old new from to

-- the whole event of a thread
abbrev pub DoesEvent : LinkedProgram → Result Answer EventRefusal → Event → (frames : ℕ) → (old new : Shared) (from to : List ShownEntry)
    → Type 0
DoesEvent p result event frames old new from to =
    (trees : Program) (bounds : Bounds) (inflated : List ℕ) (state : StateOf ℕ) (own : StackOf ℕ) → IsProgram trees p → IsLent trees p bounds inflated event.thread old from state own
    → Becomes trees p bounds inflated state.world
    (settled event.thread (thread_event words trees frames event state.world own (thread_at state.world event.thread).status))
    result old new from to
