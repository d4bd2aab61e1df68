-- The first event of a thread (JVMS 5.2; JLS 17).
use Rattle.std.specs.Prelude.{ℕ, List, [], Result}
use Rattle.model.specs.Classes.{Program}
use Rattle.model.specs.LimitStands.{Bounds}
use Rattle.model.specs.Operands.{words}
use Rattle.model.specs.State.{StateOf}
use Rattle.model.specs.Step.{begin_event, run_event, thread_at}
use Rattle.linked_code.specs.declared.program.LinkedProgram.{LinkedProgram}
use Rattle.thread_stacks.specs.Stacks.{ShownEntry}
use Rattle.machine_state.specs.declared.answers.Answer.{Answer}
use Rattle.machine_state.specs.declared.refusals.EventRefusal.{EventRefusal}
use Rattle.machine_state.specs.declared.state.Shared.{Shared}
use Rattle.machine_state.specs.Shown.{IsProgram, IsLent}
use Rattle.machine_state.specs.Events.{Becomes}

-- a started thread calls run of its Thread object, in whatever state it is
abbrev pub BeginsStarted : LinkedProgram → Result Answer EventRefusal → (t frames : ℕ) → (old new : Shared) (from to : List ShownEntry) → Type 0
BeginsStarted p result t frames old new from to =
    (trees : Program) (bounds : Bounds) (inflated : List ℕ) (state : StateOf ℕ) → IsProgram trees p → IsLent trees p bounds inflated t old from state []
    → Becomes trees p bounds inflated state.world (run_event words trees frames t state.world (thread_at state.world t).object) result old
    new from to

-- the event Begin: what becomes of a thread with an empty stack that begins, the main thread or a started one
abbrev pub BeginsThread : LinkedProgram → Result Answer EventRefusal → (t frames : ℕ) → (old new : Shared) (from to : List ShownEntry) → Type 0
BeginsThread p result t frames old new from to =
    (trees : Program) (bounds : Bounds) (inflated : List ℕ) (state : StateOf ℕ) → IsProgram trees p → IsLent trees p bounds inflated t old from state []
    → Becomes trees p bounds inflated state.world (begin_event words trees frames state.world t) result old new from to
