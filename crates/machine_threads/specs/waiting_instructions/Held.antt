-- For what an instruction waits, in parts: the class that it needs, the monitor that it enters, and the end of a thread (JVMS 2.11.10,
-- 5.5, 6.5; JLS 17). No public clause cites this module.
use Rattle.std.specs.Prelude.{◌≡◌, ℕ, List, Option, Bool, true, false, if◌then◌else◌}
use Rattle.model.specs.Classes.{Program, body_of}
use Rattle.model.specs.LimitStands.{Bounds}
use Rattle.model.specs.ClassInitialisation.{look_at}
use Rattle.model.specs.Operands.{words}
use Rattle.model.specs.Calls.{Chosen}
use Rattle.model.specs.Report as report
use Rattle.model.specs.Report.{ThreadEnd}
use Rattle.model.specs.Meaning.{waiting_at}
use Rattle.model.specs.Sites.{MeaningOf, Site}
use Rattle.model.specs.State.{FrameOf, StackOf, WorldOf, StateOf}
use Rattle.model.specs.Step.{SteppedOf, PartOf, is_enabled_by, ops_of, pushed, bytecode_event}
use Rattle.run_laws.specs.word_reports.Reports.{frame_end_of}
use Rattle.linked_code.specs.declared.instruction.LinkedInstruction.{LinkedInstruction}
use Rattle.linked_code.specs.declared.instruction.LinkedInstruction.TheVariants as linked
use Rattle.linked_code.specs.declared.method.BuiltInMethod.{BuiltInMethod}
use Rattle.linked_code.specs.declared.method.BuiltInMethod.TheVariants as method
use Rattle.linked_code.specs.declared.method.LinkedCode.{LinkedCode}
use Rattle.linked_code.specs.declared.program.LinkedProgram.{LinkedProgram}
use Rattle.machine_state.specs.linked_frames.Frames.{IsRunning, event_of}
use Rattle.thread_stacks.specs.Stacks.{ShownEntry}
use Rattle.machine_state.specs.shown_stacks.Shown.{ShowsStack}
use Rattle.machine_state.specs.declared.state.Shared.{Shared}
use Rattle.machine_state.specs.Instructions.{instruction_event}
use Rattle.machine_state.specs.Shown.{Represents}
use Rattle.machine_state.specs.invocations.Entering.{IsThere}
use Rattle.machine_state.specs.declared.class_initialisation.statuses.ClassLook.{ClassLook}
use Rattle.machine_state.specs.class_initialisation.Statuses.{shown_look}
use Rattle.machine_instructions.specs.thread_methods.Called.{IsCalling, call_event}
use Rattle.machine_instructions.specs.called_methods.Invoked.{IsInvoking, invoked_event}
use Rattle.machine_threads.specs.declared.waiting_instructions.kinds.Standing.{Standing}
use Rattle.machine_threads.specs.declared.waiting_instructions.kinds.Standing.TheVariants as standing
use Rattle.machine_threads.specs.waiting_instructions.Waits.{IsEnd}

-- ---- calls

-- How a thread stands at an event, by the limit of frames. At a limit of 0 no frame is new, so that the event is enabled unless the
-- instruction itself has to wait; where it then is not under its limit, it waits for the monitor of the new frame.
abbrev pub StandsBy : Standing → (frames : ℕ) → (ℕ → SteppedOf (PartOf ℕ)) → Type 0
StandsBy standing.Runnable frames event = is_enabled_by (event frames) ≡ true
StandsBy standing.Blocked frames event = (is_enabled_by (event frames) ≡ false) × (is_enabled_by (event 0) ≡ true)
StandsBy standing.Joining frames event = (is_enabled_by (event frames) ≡ false) × (is_enabled_by (event 0) ≡ false)
StandsBy _ frames event = ⊥

-- in whatever state a thread calls a built-in method
abbrev pub StandsInBuiltIn : BuiltInMethod → (t : ℕ) → Standing → Shared → List ShownEntry → Type 0
StandsInBuiltIn called t result shared stack =
    (trees : Program) (p : LinkedProgram) (bounds : Bounds) (inflated : List ℕ) (state : StateOf ℕ) (frame : FrameOf ℕ) (rest : StackOf ℕ) (count next offset frames : ℕ)
    → IsCalling trees p bounds inflated t shared stack state frame rest called count next offset
    → StandsBy result frames (λ limit. call_event trees limit (event_of t) state.world frame rest called count offset)

abbrev pub StandsInJoin : (t : ℕ) → Standing → Shared → List ShownEntry → Type 0
StandsInJoin = StandsInBuiltIn method.ThreadJoin

-- in whatever world a new frame enters this monitor, if it enters one
abbrev pub StandsInCode : (entered : Option ℕ) (frames t : ℕ) → Standing → Shared → List ShownEntry → Type 0
StandsInCode entered frames t result shared stack =
    (trees : Program) (p : LinkedProgram) (bounds : Bounds) (world : WorldOf ℕ) (own rest : StackOf ℕ) (frame : FrameOf ℕ)
    → Represents trees p bounds shared world → ShowsStack trees p stack own → IsThere entered shared.heap → frame.entered ≡ entered
    → StandsBy result frames (λ limit. pushed words trees limit t world world own rest frame)

-- in whatever state a thread calls the method of a number, and with whatever operands
abbrev pub StandsInCall : LinkedProgram → (method object frames t : ℕ) → Standing → Shared → List ShownEntry → Type 0
StandsInCall p method object frames t result shared stack =
    (trees : Program) (bounds : Bounds) (inflated : List ℕ) (state : StateOf ℕ) (frame : FrameOf ℕ) (rest : StackOf ℕ) (site : Site) (chosen : Chosen) (operands : ℕ)
    → IsInvoking trees p bounds inflated t shared stack state frame rest
    site (record { method = method; object = object; operands = operands }) chosen
    → StandsBy result frames (λ limit. invoked_event trees limit (event_of t) state.world frame rest site object operands chosen)

-- in whatever state it stands at an instruction that calls, its class being ready
abbrev pub StandsInInstruction : LinkedProgram → LinkedInstruction → (frames t : ℕ) → Standing → Shared → List ShownEntry → Type 0
StandsInInstruction p instruction frames t result shared stack =
    (trees : Program) (bounds : Bounds) (inflated : List ℕ) (state : StateOf ℕ) (frame : FrameOf ℕ) (rest : StackOf ℕ) (code : LinkedCode) (site : Site) (meaning : MeaningOf ℕ)
    → IsRunning trees p bounds inflated t shared stack state frame rest code site meaning instruction
    → StandsBy result frames (λ limit. instruction_event trees limit (event_of t) state.world frame rest meaning)

-- ---- monitorenter

-- whether its event is enabled
abbrev pub SaysMayEnterTop : (t : ℕ) → Bool → Shared → List ShownEntry → Type 0
SaysMayEnterTop t result shared stack =
    (trees : Program) (p : LinkedProgram) (bounds : Bounds) (inflated : List ℕ) (state : StateOf ℕ) (frame : FrameOf ℕ) (rest : StackOf ℕ) (code : LinkedCode) (site : Site) (meaning : MeaningOf ℕ)
    → IsRunning trees p bounds inflated t shared stack state frame rest code site meaning linked.MonitorEnter
    → meaning.may (event_of t) state.world (ops_of words meaning frame.place.slots) ≡ result

-- ---- each instruction

-- how a thread stands at an instruction whose class is ready
abbrev pub ready_end : Program → (frames t : ℕ) → WorldOf ℕ → FrameOf ℕ → StackOf ℕ → Site → MeaningOf ℕ → ThreadEnd
ready_end trees frames t world frame rest site meaning =
    if is_enabled_by (instruction_event trees frames (event_of t) world frame rest meaning) then report.Runnable
    else if meaning.may (event_of t) world (ops_of words meaning frame.place.slots) then report.Blocked
    else waiting_at site.instr

abbrev pub StandsReady : LinkedProgram → LinkedInstruction → (frames t : ℕ) → Standing → Shared → List ShownEntry → Type 0
StandsReady p instruction frames t result shared stack =
    (trees : Program) (bounds : Bounds) (inflated : List ℕ) (state : StateOf ℕ) (frame : FrameOf ℕ) (rest : StackOf ℕ) (code : LinkedCode) (site : Site) (meaning : MeaningOf ℕ)
    → IsRunning trees p bounds inflated t shared stack state frame rest code site meaning instruction
    → IsEnd trees result (ready_end trees frames t state.world frame rest site meaning)

-- how it finds the class that the instruction needs
abbrev pub IsLookOf : LinkedInstruction → (t : ℕ) → ClassLook → Shared → Type 0
IsLookOf instruction t result shared =
    (trees : Program) (p : LinkedProgram) (bounds : Bounds) (inflated : List ℕ) (stack : List ShownEntry) (state : StateOf ℕ) (frame : FrameOf ℕ) (rest : StackOf ℕ) (code : LinkedCode) (site : Site) (meaning : MeaningOf ℕ)
    → IsRunning trees p bounds inflated t shared stack state frame rest code site meaning instruction
    → shown_look result ≡ look_at t state.world meaning.looks

-- how it stands, with the look at that class
abbrev pub StandsAt : LinkedProgram → LinkedInstruction → (frames t : ℕ) → Standing → Shared → List ShownEntry → Type 0
StandsAt p instruction frames t result shared stack =
    (trees : Program) (bounds : Bounds) (inflated : List ℕ) (state : StateOf ℕ) (frame : FrameOf ℕ) (rest : StackOf ℕ) (code : LinkedCode) (site : Site) (meaning : MeaningOf ℕ)
    → IsRunning trees p bounds inflated t shared stack state frame rest code site meaning instruction
    → IsEnd trees result (if is_enabled_by (bytecode_event words trees frames (event_of t) state.world frame rest) then report.Runnable
    else frame_end_of words trees state.world t frame (body_of trees frame.method))
