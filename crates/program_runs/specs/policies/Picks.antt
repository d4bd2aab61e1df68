-- How many waiters the next event of a thread may pick from (own; JLS 17.2.2): with a pick past 0 it is enabled exactly where that is below
-- so many.
use Rattle.std.specs.Prelude.{◌≡◌, ◌<◌, ℕ, suc, List, None, if◌then◌else◌, length, nat_lt}
use Rattle.model.specs.declared.event.Event.{Event}
use Rattle.model.specs.Calls.{Chosen}
use Rattle.model.specs.Classes.{Program}
use Rattle.model.specs.LimitStands.{Bounds}
use Rattle.model.specs.Operands.{words}
use Rattle.model.specs.Sites.{MeaningOf, Site}
use Rattle.model.specs.State.{FrameOf, Running, StackOf, StateOf, WorldOf}
use Rattle.model.specs.Step.{SteppedOf, PartOf, bytecode_event, is_enabled_by, running_event, thread_at}
use Rattle.model.specs.Worlds.{is_owner, waiters_of}
use Rattle.run_laws.specs.word_reports.Reports.{is_enabled_of}
use Rattle.heap.specs.Heap.{Heap}
use Rattle.heap.specs.monitor_events.Tables.{over}
use Rattle.linked_code.specs.declared.instruction.LinkedInstruction.{LinkedInstruction}
use Rattle.linked_code.specs.declared.method.BuiltInMethod.{BuiltInMethod}
use Rattle.linked_code.specs.declared.method.LinkedCode.{LinkedCode}
use Rattle.linked_code.specs.declared.program.LinkedProgram.{LinkedProgram}
use Rattle.thread_stacks.specs.Stacks.{ShownEntry}
use Rattle.machine_state.specs.declared.state.Shared.{Shared}
use Rattle.machine_state.specs.Instructions.{instruction_event}
use Rattle.machine_state.specs.Shown.{IsLent, IsProgram}
use Rattle.machine_state.specs.linked_frames.Frames.{IsRunning}
use Rattle.machine_state.specs.state_events.Whole.{IsShown}
use Rattle.machine_instructions.specs.called_methods.Invoked.{IsInvoking, invoked_event}
use Rattle.machine_instructions.specs.thread_methods.Called.{IsCalling, call_event}
use Rattle.machine.specs.Machines.{MachineOf}

abbrev pub picked : (t pick : ℕ) → Event
picked t pick = record { thread = t; pick = pick }

abbrev pub PicksBelow : {S : Type 0} → (count : ℕ) → (ℕ → SteppedOf S) → Type 0
PicksBelow count event = (k : ℕ) → is_enabled_by (event (suc k)) ≡ nat_lt (suc k) count

-- ---- a notify

-- all members of the wait set, of a thread that owns the monitor; else none
abbrev pub to_wake : WorldOf ℕ → (t object : ℕ) → ℕ
to_wake world t object = if is_owner world t object then length (waiters_of world object) else 0

-- in whatever world, of an object that has a monitor
abbrev pub SaysToWake : (count t object : ℕ) → Heap → Type 0
SaysToWake count t object heap = object < length heap.locks.monitors → (world : WorldOf ℕ) → count ≡ to_wake (over world heap) t object

-- in whatever state a thread calls a built-in method
abbrev pub PicksInBuiltIn : BuiltInMethod → (t count : ℕ) → Shared → List ShownEntry → Type 0
PicksInBuiltIn called t count shared stack =
    (trees : Program) (p : LinkedProgram) (bounds : Bounds) (inflated : List ℕ) (state : StateOf ℕ) (frame : FrameOf ℕ) (rest : StackOf ℕ) (operands next offset frames : ℕ)
    → IsCalling trees p bounds inflated t shared stack state frame rest called operands next offset
    → PicksBelow count (λ pick. call_event trees frames (picked t pick) state.world frame rest called operands offset)

-- ---- calls

-- in whatever state a thread calls the method of a number, on whatever object
abbrev pub PicksInCall : LinkedProgram → (method t count : ℕ) → Shared → List ShownEntry → Type 0
PicksInCall p method t count shared stack =
    (trees : Program) (bounds : Bounds) (inflated : List ℕ) (state : StateOf ℕ) (frame : FrameOf ℕ) (rest : StackOf ℕ) (site : Site) (chosen : Chosen) (object operands frames : ℕ)
    → IsInvoking trees p bounds inflated t shared stack state frame rest
    site (record { method = method; object = object; operands = operands }) chosen
    → PicksBelow count (λ pick. invoked_event trees frames (picked t pick) state.world frame rest site object operands chosen)

-- in whatever state it stands at an instruction, whose class is ready
abbrev pub PicksInInstruction : LinkedProgram → LinkedInstruction → (t count : ℕ) → Shared → List ShownEntry → Type 0
PicksInInstruction p instruction t count shared stack =
    (trees : Program) (bounds : Bounds) (inflated : List ℕ) (state : StateOf ℕ) (frame : FrameOf ℕ) (rest : StackOf ℕ) (code : LinkedCode) (site : Site) (meaning : MeaningOf ℕ) (frames : ℕ)
    → IsRunning trees p bounds inflated t shared stack state frame rest code site meaning instruction
    → PicksBelow count (λ pick. instruction_event trees frames (picked t pick) state.world frame rest meaning)

-- whatever class comes first
abbrev pub PicksAt : LinkedProgram → LinkedInstruction → (t count : ℕ) → Shared → List ShownEntry → Type 0
PicksAt p instruction t count shared stack =
    (trees : Program) (bounds : Bounds) (inflated : List ℕ) (state : StateOf ℕ) (frame : FrameOf ℕ) (rest : StackOf ℕ) (code : LinkedCode) (site : Site) (meaning : MeaningOf ℕ) (frames : ℕ)
    → IsRunning trees p bounds inflated t shared stack state frame rest code site meaning instruction
    → PicksBelow count (λ pick. bytecode_event words trees frames (picked t pick) state.world frame rest)

-- ---- a thread

-- in whatever state a thread runs, with no exception pending
abbrev pub PicksOnTop : LinkedProgram → (t count : ℕ) → Shared → List ShownEntry → Type 0
PicksOnTop p t count shared stack =
    (trees : Program) (bounds : Bounds) (inflated : List ℕ) (state : StateOf ℕ) (own : StackOf ℕ) (frames : ℕ)
    → IsProgram trees p → IsLent trees p bounds inflated t shared stack state own
    → (thread_at state.world t).status ≡ Running → (thread_at state.world t).pending ≡ None
    → PicksBelow count (λ pick. running_event words trees frames (picked t pick) state.world own)

-- in whatever state is shown
abbrev pub PicksSo : LinkedProgram → Shared → (t count : ℕ) → Type 0
PicksSo p shared t count =
    (trees : Program) (bounds : Bounds) (inflated : List ℕ) (state : StateOf ℕ) (frames : ℕ) → IsProgram trees p → IsShown trees p bounds inflated shared state
    → (k : ℕ) → is_enabled_of words trees frames state (picked t (suc k)) ≡ nat_lt (suc k) count

abbrev pub PicksOf : MachineOf → (t count : ℕ) → Type 0
PicksOf m = PicksSo m.program m.shared
