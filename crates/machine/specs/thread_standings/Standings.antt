-- How a thread stands in a state that is shown (own; JVMS 2.6, 2.10, 5.5; JLS 17).
use Rattle.std.specs.Prelude.{◌≡◌, ℕ, List, Some, Bool, slice_get}
use Rattle.model.specs.Classes.{Program}
use Rattle.model.specs.LimitStands.{Bounds}
use Rattle.model.specs.Operands.{words}
use Rattle.model.specs.State.{Thread, StateOf}
use Rattle.run_laws.specs.word_reports.Reports.{may_step_of, thread_end_of}
use Rattle.linked_code.specs.declared.program.LinkedProgram.{LinkedProgram}
use Rattle.machine_state.specs.declared.state.Shared.{Shared}
use Rattle.machine_state.specs.Shown.{IsProgram}
use Rattle.machine_state.specs.state_events.Whole.{IsShown}
use Rattle.machine_threads.specs.declared.waiting_instructions.kinds.Standing.{Standing}
use Rattle.machine_threads.specs.waiting_instructions.Waits.{IsEnd}

-- in whatever state of whatever files is shown, where stacks have at most so many frames, the thread stands so
abbrev pub StandsSo : LinkedProgram → Shared → (t frames : ℕ) → Standing → Type 0
StandsSo p shared t frames result =
    (trees : Program) (bounds : Bounds) (inflated : List ℕ) (state : StateOf ℕ) → IsProgram trees p → IsShown trees p bounds inflated shared state
    → (thread : Thread) → slice_get state.world.threads t ≡ Some thread
    → IsEnd trees result (thread_end_of words trees frames state t thread.status)

-- there it has an event that is enabled, or has none
abbrev pub MaySo : LinkedProgram → Shared → (t frames : ℕ) → Bool → Type 0
MaySo p shared t frames result =
    (trees : Program) (bounds : Bounds) (inflated : List ℕ) (state : StateOf ℕ) → IsProgram trees p → IsShown trees p bounds inflated shared state
    → result ≡ may_step_of words trees frames state t
