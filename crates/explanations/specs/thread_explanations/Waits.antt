-- For what threads wait, and for which thread that is, in what the threads of a machine share (own; JVMS 2.11.10, 5.5; JLS 17.1, 17.2).
use Rattle.std.specs.Prelude.{◌+◌, ◌-◌, ◌==◌, ℕ, zero, suc, List, [], ◌∷◌, ◌++◌, Option, Some, None, length, nat_lt, slice_get, slice_index_or, if◌then◌else◌}
use Rattle.std.specs.Option.{option_and_then, option_map, option_map_or}
use Rattle.model.specs.BuiltInNumbers.{first_class_reference}
use Rattle.heap.specs.java_threads.Table.{number_of, thread_at}
use Rattle.linked_code.specs.declared.class.LinkedClass.{LinkedClass}
use Rattle.linked_code.specs.declared.instruction.LinkedInstruction.{LinkedInstruction}
use Rattle.linked_code.specs.declared.instruction.LinkedInstruction.TheVariants as linked
use Rattle.linked_code.specs.declared.method.LinkedMethod.{LinkedMethod}
use Rattle.linked_code.specs.declared.method.MethodBody.{MethodBody}
use Rattle.linked_code.specs.declared.method.MethodBody.TheVariants as body
use Rattle.linked_code.specs.declared.program.LinkedProgram.{LinkedProgram}
use Rattle.thread_stacks.specs.declared.entry.Top.{Top}
use Rattle.thread_stacks.specs.declared.entry.Top.TheVariants as top
use Rattle.thread_stacks.specs.Stacks.{ShownEntry, ShownFrame, Invocation, Initialisation, top_of}
use Rattle.machine_state.specs.declared.state.ClassStatus.{ClassStatus}
use Rattle.machine_state.specs.declared.state.ClassStatus.TheVariants as status
use Rattle.machine_state.specs.declared.state.Shared.{Shared}
use Rattle.machine_threads.specs.instruction_needs.Needs.{class_in}
use Rattle.model.specs.declared.report.EndState.{EndState}
use Rattle.model.specs.Monitors.{monitor_at}
use Rattle.model.specs.Operands.{word_reference}
use Rattle.model.specs.Report as report
use Rattle.model.specs.Report.{ThreadEnd, end_state_of}
use Rattle.model.specs.State as state
use Rattle.model.specs.State.{Thread, ThreadStatus}
use Rattle.explanations.specs.declared.thread_explanations.awaited.Awaited.{Awaited}
use Rattle.explanations.specs.declared.thread_explanations.awaited.Awaited.TheVariants.{Nothing, Monitor, MonitorAgain, Notification, End, Class}
use Rattle.explanations.specs.declared.thread_explanations.waits.Wait.{Wait}

-- ---- the instruction at which a frame stands

abbrev pub instruction_of : MethodBody → (place : ℕ) → Option LinkedInstruction
instruction_of (body.Code code) place = slice_get code.instructions.items place
instruction_of other place = None

abbrev pub instruction_in : LinkedProgram → ShownFrame → Option LinkedInstruction
instruction_in p frame = option_and_then (λ (row : LinkedMethod). instruction_of row.body frame.place) (slice_get p.methods.items frame.method)

abbrev pub instruction_on_top : LinkedProgram → List ShownEntry → Option LinkedInstruction
instruction_on_top p [] = None
instruction_on_top p (Invocation frame ∷ stack) = instruction_in p frame
instruction_on_top p (Initialisation class phase ∷ stack) = None

-- ---- the monitor that the next event of a thread enters (JVMS 2.11.10, 6.5 monitorenter; JLS 17.1)

-- the Class object of the class that declares a method: those of all classes stand behind three other objects
abbrev pub class_object : LinkedProgram → (method : ℕ) → Option ℕ
class_object p method = option_map (λ (row : LinkedMethod). first_class_reference + row.class) (slice_get p.methods.items method)

-- the object of the reference under so many operands of the frame on top
abbrev pub object_under : (operands : ℕ) → List ShownEntry → Option ℕ
object_under operands [] = None
object_under operands (Invocation frame ∷ stack) = word_reference (slice_index_or frame.operands operands 0)
object_under operands (Initialisation class phase ∷ stack) = None

-- of the object that monitorenter takes, of the receiver of a call, or of the Class object of a static method
abbrev pub entered_by : LinkedProgram → List ShownEntry → LinkedInstruction → Option ℕ
entered_by p stack linked.MonitorEnter = object_under 0 stack
entered_by p stack (linked.InvokeStatic parameters class method) = class_object p method
entered_by p stack (linked.InvokeSpecial parameters method) = object_under parameters stack
entered_by p stack (linked.InvokeVirtual parameters place) = object_under parameters stack
entered_by p stack (linked.InvokeInterface parameters selector) = object_under parameters stack
entered_by p stack _ = None

abbrev pub entered_on_top : LinkedProgram → List ShownEntry → Option ℕ
entered_on_top p stack = option_and_then (entered_by p stack) (instruction_on_top p stack)

-- by the first call: thread 0 calls main, and each other one run of its Thread object
abbrev pub entered_first : LinkedProgram → List Thread → (t : ℕ) → Option ℕ
entered_first p threads t = if t == 0 then class_object p p.main else Some (thread_at threads t).object

abbrev pub entered_at : LinkedProgram → List Thread → (t : ℕ) → List ShownEntry → Top → Option ℕ
entered_at p threads t stack top.Empty = entered_first p threads t
entered_at p threads t stack top.Invocation = entered_on_top p stack
entered_at p threads t stack (top.Initialisation class phase) = None

abbrev pub entered_next : LinkedProgram → List Thread → (t : ℕ) → List ShownEntry → Option ℕ
entered_next p threads t stack = entered_at p threads t stack (top_of stack)

-- ---- for what a thread waits

abbrev pub monitor_of : Option ℕ → Awaited
monitor_of object = option_map_or Monitor object Nothing

-- a blocked one for that monitor, or for the one that it left in a wait (JLS 17.2.1)
abbrev pub monitor_awaited : ThreadStatus → (next : Option ℕ) → Awaited
monitor_awaited (state.Relock object count cause) next = MonitorAgain object
monitor_awaited state.Running next = monitor_of next
monitor_awaited (state.Waiting object count) next = monitor_of next
monitor_awaited (state.Ended exception) next = monitor_of next

abbrev pub notification_awaited : ThreadStatus → Awaited
notification_awaited (state.Waiting object count) = Notification object
notification_awaited state.Running = Nothing
notification_awaited (state.Relock object count cause) = Nothing
notification_awaited (state.Ended exception) = Nothing

-- the end of the thread of the object on which it calls join (JLS 17.2.3)
abbrev pub end_awaited : List ShownEntry → Awaited
end_awaited stack = option_map_or End (object_under 0 stack) Nothing

-- the initialisation of the class of main, of the class that the instruction needs, or of the superclass of the class on top (JVMS 5.5)
abbrev pub declaring_class : LinkedProgram → (method : ℕ) → Option ℕ
declaring_class p method = option_map (λ (row : LinkedMethod). row.class) (slice_get p.methods.items method)

abbrev pub class_on_top : LinkedProgram → List ShownEntry → Option ℕ
class_on_top p stack = option_and_then class_in (instruction_on_top p stack)

abbrev pub superclass_of : LinkedProgram → (class : ℕ) → Option ℕ
superclass_of p class = option_and_then (λ (row : LinkedClass). row.superclass) (slice_get p.classes.items class)

abbrev pub class_at_top : LinkedProgram → List ShownEntry → Top → Option ℕ
class_at_top p stack top.Empty = declaring_class p p.main
class_at_top p stack top.Invocation = class_on_top p stack
class_at_top p stack (top.Initialisation class phase) = superclass_of p class

abbrev pub class_of_next : LinkedProgram → List ShownEntry → Option ℕ
class_of_next p stack = class_at_top p stack (top_of stack)

abbrev pub class_awaited : LinkedProgram → List ShownEntry → Awaited
class_awaited p stack = option_map_or Class (class_of_next p stack) Nothing

-- by how it stands
abbrev pub awaited_with : LinkedProgram → List Thread → (t : ℕ) → List ShownEntry → ThreadEnd → Awaited
awaited_with p threads t stack report.Blocked = monitor_awaited (thread_at threads t).status (entered_next p threads t stack)
awaited_with p threads t stack report.Waiting = notification_awaited (thread_at threads t).status
awaited_with p threads t stack report.Joining = end_awaited stack
awaited_with p threads t stack report.Initialising = class_awaited p stack
awaited_with p threads t stack report.Ended = Nothing
awaited_with p threads t stack (report.Threw name) = Nothing
awaited_with p threads t stack report.Runnable = Nothing

abbrev pub awaited_by : LinkedProgram → Shared → (t : ℕ) → ThreadEnd → Awaited
awaited_by p shared t end = option_map_or (λ (stack : List ShownEntry). awaited_with p shared.threads.threads t stack end) (slice_get shared.stacks.items t) Nothing

-- ---- for which thread it waits

abbrev pub initiator_by : ClassStatus → Option ℕ
initiator_by (status.InProgress by) = Some by
initiator_by status.NotInitialised = None
initiator_by status.Initialised = None
initiator_by status.Erroneous = None

-- the classes of the files stand behind those that are built in
abbrev pub initiator_of : LinkedProgram → Shared → (class : ℕ) → Option ℕ
initiator_of p shared class =
    let built_in = length p.classes.items - length shared.statuses.items in
    if nat_lt class built_in then None else option_and_then initiator_by (slice_get shared.statuses.items (class - built_in))

-- the owner of the monitor, the thread that is to end, or the one that initialises the class
abbrev pub awaited_of : LinkedProgram → Shared → Awaited → Option ℕ
awaited_of p shared Nothing = None
awaited_of p shared (Monitor object) = (monitor_at shared.heap.locks.monitors object).owner
awaited_of p shared (MonitorAgain object) = (monitor_at shared.heap.locks.monitors object).owner
awaited_of p shared (Notification object) = None
awaited_of p shared (End object) = number_of shared.threads.threads object
awaited_of p shared (Class class) = initiator_of p shared class

-- ---- all threads

-- where they stand so
abbrev pub awaited_at : LinkedProgram → Shared → List EndState → (t : ℕ) → Awaited
awaited_at p shared ends t = option_map_or (λ (end : EndState). awaited_by p shared t (end_state_of end)) (slice_get ends t) Nothing

abbrev pub wait_at : LinkedProgram → Shared → List EndState → (t : ℕ) → Wait
wait_at p shared ends t =
    let awaited = awaited_at p shared ends t in
    record { awaited = awaited; thread = awaited_of p shared awaited }

-- of the first so many threads
abbrev pub first_waits : LinkedProgram → Shared → List EndState → (n : ℕ) → List Wait
first_waits p shared ends zero = []
first_waits p shared ends (suc n) = first_waits p shared ends n ++ wait_at p shared ends n ∷ []

abbrev pub waits_of : LinkedProgram → Shared → List EndState → List Wait
waits_of p shared ends = first_waits p shared ends (length shared.threads.threads)
