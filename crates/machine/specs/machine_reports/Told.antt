-- What is told of a state that is shown (own; JVMS 2.10, 5.5; JLS 17).
use Rattle.std.specs.Prelude.{◌≡◌, ℕ, List, Bool, true, false, not, map}
use Rattle.std.specs.List.{list_any}
use Rattle.model.specs.declared.report.EndState.{EndState}
use Rattle.model.specs.declared.report.Report.{Report}
use Rattle.model.specs.Classes.{Program}
use Rattle.model.specs.LimitStands.{Bounds}
use Rattle.model.specs.Operands.{words}
use Rattle.model.specs.Report.{ThreadEnd, Ended, Threw, Blocked, Waiting, Joining, Initialising, Runnable, end_state_of}
use Rattle.model.specs.State.{StateOf}
use Rattle.run_laws.specs.word_reports.Reports.{is_quiet_of, thread_ends_of}
use Rattle.linked_code.specs.declared.program.LinkedProgram.{LinkedProgram}
use Rattle.machine_state.specs.declared.state.Shared.{Shared}
use Rattle.machine_state.specs.Shown.{IsProgram}
use Rattle.machine_state.specs.state_events.Whole.{IsShown}
use Rattle.machine_threads.specs.declared.waiting_instructions.kinds.Standing.{Standing}
use Rattle.machine_threads.specs.waiting_instructions.Waits.{IsEnd}

-- ---- how threads stand

-- a standing, with the name of the exception's class
abbrev pub IsTold : Program → Standing → EndState → Type 0
IsTold trees standing end = (of : ThreadEnd) → IsEnd trees standing of → end_state_of end ≡ of

-- those of all threads, in whatever state of the files is shown, where stacks have at most so many frames
abbrev pub TellEnds : Program → LinkedProgram → Shared → (frames : ℕ) → List EndState → Type 0
TellEnds trees p shared frames ends =
    (bounds : Bounds) (inflated : List ℕ) (state : StateOf ℕ) → IsProgram trees p → IsShown trees p bounds inflated shared state
    → map end_state_of ends ≡ thread_ends_of words trees frames state

-- ---- whether a thread may go on

abbrev pub is_runnable : ThreadEnd → Bool
is_runnable Ended = false
is_runnable (Threw name) = false
is_runnable Blocked = false
is_runnable Waiting = false
is_runnable Joining = false
is_runnable Initialising = false
is_runnable Runnable = true

-- none of them may
abbrev pub are_quiet : List ThreadEnd → Bool
are_quiet ends = not (list_any is_runnable ends)

-- whether a state is quiet in which the threads stand so
abbrev pub AreQuietAt : List EndState → Bool → Type 0
AreQuietAt ends result =
    (trees : Program) (frames : ℕ) (state : StateOf ℕ) → map end_state_of ends ≡ thread_ends_of words trees frames state
    → result ≡ is_quiet_of words trees frames state

-- ---- a report

-- of a state to which so many events led
pub record ReportsOn (trees : Program) (frames : ℕ) (state : StateOf ℕ) (events : ℕ) (r : Report) : Type 0 where
  pub printed : r.printed.items ≡ state.world.printed
  pub threads : map end_state_of r.threads.items ≡ thread_ends_of words trees frames state
  pub count : r.events ≡ events

-- of whatever state of the files is shown
abbrev pub Reports : Program → LinkedProgram → Shared → (frames events : ℕ) → Report → Type 0
Reports trees p shared frames events r =
    (bounds : Bounds) (inflated : List ℕ) (state : StateOf ℕ) → IsProgram trees p → IsShown trees p bounds inflated shared state
    → ReportsOn trees frames state events r
