-- How a thread stands that runs, with no exception pending, and has a frame on top (own; JVMS 2.11.10, 5.5, 6.5; JLS 17).
use Rattle.std.specs.Prelude.{◌≡◌, ℕ, List, if◌then◌else◌}
use Rattle.model.specs.Names.{Name}
use Rattle.model.specs.Classes.{Program, body_of}
use Rattle.model.specs.LimitStands.{Bounds}
use Rattle.model.specs.Operands.{words}
use Rattle.model.specs.Report as report
use Rattle.model.specs.Report.{ThreadEnd}
use Rattle.model.specs.Sites.{MeaningOf, Site}
use Rattle.model.specs.State.{FrameOf, StackOf, StateOf}
use Rattle.model.specs.Step.{is_enabled_by, bytecode_event}
use Rattle.run_laws.specs.word_reports.Reports.{frame_end_of}
use Rattle.linked_code.specs.declared.instruction.LinkedInstruction.{LinkedInstruction}
use Rattle.linked_code.specs.declared.method.LinkedCode.{LinkedCode}
use Rattle.linked_code.specs.declared.program.LinkedProgram.{LinkedProgram}
use Rattle.linked_code.specs.Numbers.{IsClassAt}
use Rattle.machine_state.specs.linked_frames.Frames.{IsRunning, event_of}
use Rattle.thread_stacks.specs.Stacks.{ShownEntry}
use Rattle.machine_state.specs.declared.state.Shared.{Shared}
use Rattle.machine_threads.specs.declared.waiting_instructions.kinds.Standing.{Standing}
use Rattle.machine_threads.specs.declared.waiting_instructions.kinds.Standing.TheVariants as standing

-- an exception is told by the number of its class
abbrev pub IsEnd : Program → Standing → ThreadEnd → Type 0
IsEnd trees standing.Ended end = end ≡ report.Ended
IsEnd trees (standing.Threw class) end = (name : Name) × IsClassAt trees class name × (end ≡ report.Threw name)
IsEnd trees standing.Blocked end = end ≡ report.Blocked
IsEnd trees standing.Waiting end = end ≡ report.Waiting
IsEnd trees standing.Joining end = end ≡ report.Joining
IsEnd trees standing.Initialising end = end ≡ report.Initialising
IsEnd trees standing.Runnable end = end ≡ report.Runnable

-- In whatever state the thread runs at an instruction, it may do its event, or stands as the instruction lets it. A thread has at
-- most so many frames.
abbrev pub StandsAtIt : LinkedProgram → Shared → List ShownEntry → (t frames : ℕ) → Standing → Type 0
StandsAtIt p shared stack t frames result =
    (trees : Program) (bounds : Bounds) (inflated : List ℕ) (state : StateOf ℕ) (frame : FrameOf ℕ) (rest : StackOf ℕ) (code : LinkedCode) (site : Site) (meaning : MeaningOf ℕ) (instruction : LinkedInstruction)
    → IsRunning trees p bounds inflated t shared stack state frame rest code site meaning instruction
    → IsEnd trees result (if is_enabled_by (bytecode_event words trees frames (event_of t) state.world frame rest) then report.Runnable
    else frame_end_of words trees state.world t frame (body_of trees frame.method))
