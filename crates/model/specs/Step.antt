-- One event (JVMS 2.6, 5.5, chapter 6; JLS 17): enabled or not, and the one next state.
use Rattle.std.specs.Prelude.{ℕ, zero, suc, ◌+◌, ◌-◌, nat_lt, nat_le, List, [], ◌∷◌, ◌++◌, Option, Some, None, Bool, true, false, ◌&&◌, ◌||◌, ◌==◌, if◌then◌else◌, slice_get, slice_set, length, find, replicate, is_some, unwrap_or}
use Rattle.std.specs.Option.{option_and_then}
use Rattle.model.specs.declared.class_file.ExceptionEntry.{ExceptionEntry}
use Rattle.model.specs.declared.event.Event.{Event}
use Rattle.model.specs.Names.{Name, Member, main_of, thread_run, initialiser_of, java_lang_error}
use Rattle.model.specs.Tree.{Entry}
use Rattle.model.specs.Pool.{class_name_at}
use Rattle.model.specs.Instruction.{length_at}
use Rattle.model.specs.Classes.{Program, Body, name_of, body_of, superclass_of, is_interface}
use Rattle.model.specs.ReferenceTypes.{ReferenceType, ClassType}
use Rattle.model.specs.Types.{is_object_of}
use Rattle.model.specs.Operands.{Slots, Carrier, values, operands, under}
use Rattle.model.specs.State.{types_of, Initialised, Erroneous, WakeCause, Notified, Interrupted, ThreadStatus, Running, Waiting, Relock, Ended, Thread, FrameOf, Phase, Super, End, Invocation, Initialisation, StackOf, WorldOf, StateOf, State}
use Rattle.model.specs.Opening.{arguments_reference, class_reference}
use Rattle.model.specs.Outcomes.{MachineException, NoClassDefFound, StackOverflow, IllegalMonitorState, InterruptedWait, AbstractMethod, ExceptionInInitializer, Cost, Free, Makes, OutcomeOf, Goes, Raises, Throws, Interrupts, Calls, Returns, Waits}
use Rattle.model.specs.Monitors as monitors
pub use Rattle.model.specs.Worlds.{thread_at}
use Rattle.model.specs.Worlds.{with_thread, with_begun, with_pending, with_caught, with_status, with_interrupted, allocated, object_at, class_of_object, is_owner, may_enter, with_entry, entry_cost, with_exit, with_monitors, is_done, waiters_of, all_woken}
pub use Rattle.model.specs.ClassInitialisation.{status_of}
use Rattle.model.specs.ClassInitialisation.{with_class_status, with_class_begun, Look, IsReady, IsNew, IsHeld, HasFailed, look_by}
use Rattle.model.specs.Frames.{frame_with, entered_by, frame_count, at_offset, at_call}
use Rattle.model.specs.Lookup.{select}
use Rattle.model.specs.MachineExceptions.{machine_exception}
use Rattle.model.specs.Sites.{MeaningOf, site_at}
use Rattle.model.specs.Meanings.{meaning_of}

-- what becomes of an event, over the whole state or a part of it
pub data SteppedOf (S : Type 0) : Type 0 where
  NotEnabled : SteppedOf S
  -- an instruction is missing, or an operand of it is missing or of the wrong kind
  WrongKind : SteppedOf S
  Next : (cost : Cost) (next : S) → SteppedOf S

-- what a thread touches: what all share, and its own stack
pub record PartOf (A : Type 0) : Type 0 where
  pub world : WorldOf A
  pub stack : StackOf A

abbrev pub part : {A : Type 0} → WorldOf A → StackOf A → PartOf A
part world stack = record { world = world; stack = stack }

abbrev pub on_to : {A : Type 0} → WorldOf A → StackOf A → SteppedOf (PartOf A)
on_to world stack = Next Free (part world stack)

abbrev pub enabled_if : {S : Type 0} → Bool → SteppedOf S → SteppedOf S
enabled_if true stepped = stepped
enabled_if false stepped = NotEnabled

-- where nothing is chosen, the pick is 0
abbrev pub unpicked : {S : Type 0} → Event → SteppedOf S → SteppedOf S
unpicked event stepped = enabled_if (event.pick == 0) stepped

-- ---- the end of a thread

-- a thread whose stack is empty, and which has begun or has an exception pending, has ended
abbrev pub is_over : Thread → Bool
is_over thread = thread.begun || is_some thread.pending

abbrev pub ended : Thread → Thread
ended thread = record thread { pending = None; status = Ended thread.pending }

-- all that wait on its Thread object are woken; what it owns stays owned (own)
abbrev pub with_waiters_woken : {A : Type 0} → WorldOf A → ℕ → WorldOf A
with_waiters_woken world object =
    all_woken object Notified (with_monitors world (monitors.wake_all object world.monitors)) (waiters_of world object)

abbrev pub with_end : {A : Type 0} → WorldOf A → ℕ → Bool → WorldOf A
with_end world t true = with_waiters_woken (with_thread world t (ended (thread_at world t))) (thread_at world t).object
with_end world t false = world

abbrev pub end_of : {A : Type 0} → ℕ → WorldOf A → StackOf A → WorldOf A
end_of t world [] = with_end world t (is_over (thread_at world t))
end_of t world (entry ∷ stack) = world

-- the end of a thread belongs to the event that empties its stack
abbrev pub settled : {A : Type 0} → ℕ → SteppedOf (PartOf A) → SteppedOf (PartOf A)
settled t NotEnabled = NotEnabled
settled t WrongKind = WrongKind
settled t (Next cost p) = Next cost (part (end_of t p.world p.stack) p.stack)

-- ---- exceptions

-- the machine makes an exception, which may have a cause, and it is pending
abbrev pub raised_for : {A : Type 0} → Carrier A → Program → ℕ → MachineException → Option ℕ → WorldOf A → StackOf A → SteppedOf (PartOf A)
raised_for C files t fault cause world stack =
    Next (Makes 0) (part (with_pending (allocated world (machine_exception C files fault cause)) t (length world.heap)) stack)

abbrev pub raised : {A : Type 0} → Carrier A → Program → ℕ → MachineException → WorldOf A → StackOf A → SteppedOf (PartOf A)
raised C files t fault world stack = raised_for C files t fault None world stack

-- a thread that waits or joins was interrupted (JLS 17.2.1, 17.2.3)
abbrev pub raised_by_interrupt : {A : Type 0} → Carrier A → Program → ℕ → WorldOf A → StackOf A → SteppedOf (PartOf A)
raised_by_interrupt C files t world stack = raised C files t InterruptedWait (with_interrupted world t false) stack

-- ---- what an event needs of a class first (JVMS 5.5)

-- step 6: the thread marks the class and sets its constants; its entry stands for the steps after that
abbrev pub begun_class : {A : Type 0} → Carrier A → Program → ℕ → Name → WorldOf A → StackOf A → SteppedOf (PartOf A)
begun_class C files t class world stack = on_to (with_class_begun C files t class world) (Initialisation class Super ∷ stack)

-- what comes first of an event that needs a class, and then the rest of it
abbrev pub needing : {A : Type 0} → Carrier A → Program → ℕ → Name → Look → WorldOf A → StackOf A → SteppedOf (PartOf A)
    → SteppedOf (PartOf A)
needing C files t class IsReady world stack rest = rest
needing C files t class IsNew world stack rest = begun_class C files t class world stack
needing C files t class IsHeld world stack rest = NotEnabled
needing C files t class HasFailed world stack rest = raised C files t NoClassDefFound world stack

abbrev pub needing_class : {A : Type 0} → Carrier A → Program → ℕ → Option Name → WorldOf A → StackOf A → SteppedOf (PartOf A)
    → SteppedOf (PartOf A)
needing_class C files t None world stack rest = rest
needing_class C files t (Some class) world stack rest = needing C files t class (look_by t (status_of world class)) world stack rest

-- ---- calls and returns (JVMS 2.6.4, 2.6.5, 2.11.10)

-- a new frame on a stack; the invocation of a synchronized method is enabled only where the thread may enter
abbrev pub entering : {A : Type 0} → ℕ → WorldOf A → StackOf A → FrameOf A → Option ℕ → SteppedOf (PartOf A)
entering t world rest frame None = on_to world (Invocation frame ∷ rest)
entering t world rest frame (Some object) =
    enabled_if (may_enter world t object) (Next (entry_cost world object) (part (with_entry world t object) (Invocation frame ∷ rest)))

-- a call: a new frame on top of what is left, where the limit lets it, and else nothing but the exception (JVMS 2.5.2)
abbrev pub pushed : {A : Type 0} → Carrier A → Program → ℕ → ℕ → WorldOf A → WorldOf A → StackOf A → StackOf A → FrameOf A → SteppedOf (PartOf A)
pushed C files frames t world after stack rest frame =
    if nat_lt (frame_count stack) frames then entering t after rest frame frame.entered else raised C files t StackOverflow world stack

-- The end of an invocation leaves the monitor that it entered. Where another thread owns that, or none, an exception is pending
-- instead, over a stack of its own.
abbrev pub leaving : {A : Type 0} → Carrier A → Program → ℕ → Option ℕ → WorldOf A → StackOf A → StackOf A → SteppedOf (PartOf A)
leaving C files t None world rest stack = on_to world rest
leaving C files t (Some object) world rest stack =
    if is_owner world t object then on_to (with_exit world t object) rest else raised C files t IllegalMonitorState world stack

-- the offset after the instruction of a frame
abbrev pub next_of : {A : Type 0} → Program → FrameOf A → ℕ
next_of files frame =
    frame.place.offset + unwrap_or (option_and_then (λ (body : Body). length_at body.code.code frame.place.offset) (body_of files frame.method)) 0

-- the invoker gets the result and goes on (JVMS 2.6.4)
abbrev pub returned : {A : Type 0} → Program → List A → StackOf A → StackOf A
returned files results [] = []
returned files results (Invocation frame ∷ stack) =
    Invocation (at_offset frame (next_of files frame) (record { locals = frame.place.slots.locals; stack = results ++ frame.place.slots.stack })) ∷ stack
returned files results (Initialisation class phase ∷ stack) = Initialisation class phase ∷ stack

-- what an instruction of the frame on top makes of the stack
abbrev pub become : {A : Type 0} → Carrier A → Program → ℕ → ℕ → WorldOf A → FrameOf A → StackOf A → OutcomeOf A → SteppedOf (PartOf A)
become C files frames t world frame stack (Goes cost after slots to) = Next cost (part after (Invocation (at_offset frame to slots) ∷ stack))
become C files frames t world frame stack (Raises fault) = raised C files t fault world (Invocation frame ∷ stack)
become C files frames t world frame stack (Throws exception) = on_to (with_pending world t exception) (Invocation frame ∷ stack)
become C files frames t world frame stack Interrupts = raised_by_interrupt C files t world (Invocation frame ∷ stack)
become C files frames t world frame stack (Calls callee rest) =
    pushed C files frames t world world (Invocation frame ∷ stack) (Invocation (at_call frame rest) ∷ stack) callee
become C files frames t world frame stack (Returns after results) = leaving C files t frame.entered after (returned files results stack) (Invocation frame ∷ stack)
become C files frames t world frame stack (Waits cost after rest) = Next cost (part after (Invocation (at_call frame rest) ∷ stack))

-- ---- Bytecode: an instruction of the frame on top

abbrev pub ops_of : {A : Type 0} → Carrier A → MeaningOf A → Slots A → List A
ops_of C meaning slots = operands C.over meaning.wants slots

-- it is done
abbrev pub done : {A : Type 0} → Carrier A → Program → ℕ → Event → WorldOf A → FrameOf A → StackOf A → MeaningOf A → SteppedOf (PartOf A)
done C files frames event world frame stack meaning =
    become C files frames event.thread world frame stack
    (meaning.does event world frame.place.slots (ops_of C meaning frame.place.slots) (under meaning.wants frame.place.slots))

-- The operands first. Then its pick and the other threads have to let it; then comes the class that it needs, and then the rest.
abbrev pub bytecode_by : {A : Type 0} → Carrier A → Program → ℕ → Event → WorldOf A → FrameOf A → StackOf A → ℕ → Option (MeaningOf A)
    → SteppedOf (PartOf A)
bytecode_by C files frames event world frame stack max_stack None = unpicked event WrongKind
bytecode_by C files frames event world frame stack max_stack (Some meaning) =
    if C.finds files (types_of world.heap) meaning.wants max_stack frame.place.slots
    then enabled_if (meaning.may event world (ops_of C meaning frame.place.slots))
    (needing_class C files event.thread meaning.looks world (Invocation frame ∷ stack) (done C files frames event world frame stack meaning))
    else unpicked event WrongKind

abbrev pub bytecode_in : {A : Type 0} → Carrier A → Program → ℕ → Event → WorldOf A → FrameOf A → StackOf A → Option Body
    → SteppedOf (PartOf A)
bytecode_in C files frames event world frame stack None = unpicked event WrongKind
bytecode_in C files frames event world frame stack (Some body) =
    bytecode_by C files frames event world frame stack body.code.max_stack (option_and_then (meaning_of C files) (site_at frame.method body frame.place.offset))

-- the instruction at the offset of the frame on top
abbrev pub bytecode_event : {A : Type 0} → Carrier A → Program → ℕ → Event → WorldOf A → FrameOf A → StackOf A → SteppedOf (PartOf A)
bytecode_event C files frames event world frame stack = bytecode_in C files frames event world frame stack (body_of files frame.method)

-- ---- Initialisation: a class on top

-- its initialiser, if it declares one, runs before the class is done (step 9); it enters no monitor, whatever its flags
abbrev pub initialiser_event : {A : Type 0} → Carrier A → Program → ℕ → ℕ → Member → WorldOf A → StackOf A → Option Body → SteppedOf (PartOf A)
initialiser_event C files frames t initialiser world stack None = on_to world stack
initialiser_event C files frames t initialiser world stack (Some body) = pushed C files frames t world world stack stack (frame_with C initialiser [] None body)

-- the superclass of a class comes before it; an interface has none to wait for (step 7)
abbrev pub before : Program → Name → Option Name
before files class = if is_interface files class then None else superclass_of files class

-- step 7, and the begin of step 9; then step 10
abbrev pub initialisation_event : {A : Type 0} → Carrier A → Program → ℕ → ℕ → Name → Phase → WorldOf A → StackOf A → SteppedOf (PartOf A)
initialisation_event C files frames t class Super world stack =
    needing_class C files t (before files class) world (Initialisation class Super ∷ stack)
    (initialiser_event C files frames t (initialiser_of class) world (Initialisation class End ∷ stack) (body_of files (initialiser_of class)))
initialisation_event C files frames t class End world stack = on_to (with_class_status world class Initialised) stack

-- ---- Begin: a thread that has not begun

-- the class of the first file is the initial class (own)
abbrev pub initial_class : Program → Name
initial_class [] = []
initial_class (file ∷ files) = name_of file

abbrev pub main_frame : {A : Type 0} → Carrier A → Program → ℕ → WorldOf A → Member → Option Body → SteppedOf (PartOf A)
main_frame C files frames world main None = WrongKind
main_frame C files frames world main (Some body) =
    pushed C files frames 0 world (with_begun world 0) [] []
    (frame_with C main (C.reference arguments_reference ∷ []) (entered_by files main (class_reference files main.class)) body)

-- main is called by the rules of invokestatic (JVMS 5.2)
abbrev pub main_event : {A : Type 0} → Carrier A → Program → ℕ → WorldOf A → SteppedOf (PartOf A)
main_event C files frames world =
    needing_class C files 0 (Some (initial_class files)) world [] (main_frame C files frames world (main_of (initial_class files)) (body_of files (main_of (initial_class files))))

abbrev pub run_frame : {A : Type 0} → Carrier A → Program → ℕ → ℕ → WorldOf A → ℕ → Member → Option Body → SteppedOf (PartOf A)
run_frame C files frames t world object method None = raised C files t AbstractMethod world []
run_frame C files frames t world object method (Some body) =
    pushed C files frames t world (with_begun world t) [] [] (frame_with C method (C.reference object ∷ []) (entered_by files method object) body)

abbrev pub run_of : {A : Type 0} → Carrier A → Program → ℕ → ℕ → WorldOf A → ℕ → Option Member → SteppedOf (PartOf A)
run_of C files frames t world object None = raised C files t AbstractMethod world []
run_of C files frames t world object (Some method) = run_frame C files frames t world object method (body_of files method)

-- run of its Thread object is called by the rules of invokevirtual
abbrev pub run_event : {A : Type 0} → Carrier A → Program → ℕ → ℕ → WorldOf A → ℕ → SteppedOf (PartOf A)
run_event C files frames t world object =
    run_of C files frames t world object (select files (class_of_object (object_at world object)) thread_run)

abbrev pub begin_event : {A : Type 0} → Carrier A → Program → ℕ → WorldOf A → ℕ → SteppedOf (PartOf A)
begin_event C files frames world zero = main_event C files frames world
begin_event C files frames world (suc t) = run_event C files frames (suc t) world (thread_at world (suc t)).object

-- ---- Pending: an exception, and the entry on top (JVMS 2.10)

abbrev pub is_caught : Program → Option ReferenceType → Option Name → Bool
is_caught files thrown None = false
is_caught files thrown (Some class) = is_object_of files (ClassType class) thrown

-- a handler takes any exception, or those of a class
abbrev pub takes : Program → List Entry → Option ReferenceType → ExceptionEntry → Bool
takes files pool thrown entry = (entry.catch_type == 0) || is_caught files thrown (class_name_at pool entry.catch_type)

-- the instruction is in its range
abbrev pub covers : ℕ → ExceptionEntry → Bool
covers offset entry = nat_le entry.start offset && nat_lt offset entry.end

-- the first handler in the order of the table that takes it there
abbrev pub handler_in : Program → ℕ → Option ReferenceType → Body → Option ExceptionEntry
handler_in files offset thrown body = find (λ entry. covers offset entry && takes files body.pool thrown entry) body.code.exceptions

-- the frame goes on at its handler, with the exception alone on its stack; without a handler it ends
abbrev pub unwound : {A : Type 0} → Carrier A → Program → ℕ → ℕ → WorldOf A → FrameOf A → StackOf A → Option ExceptionEntry → SteppedOf (PartOf A)
unwound C files t exception world frame stack None = leaving C files t frame.entered world stack stack
unwound C files t exception world frame stack (Some entry) =
    on_to (with_caught world t) (Invocation (at_offset frame entry.handler (record { locals = frame.place.slots.locals; stack = C.reference exception ∷ [] })) ∷ stack)

-- a class is erroneous (JVMS 5.5, steps 11 and 12); what is no Error is replaced, and is the cause of what replaces it
abbrev pub failed : {A : Type 0} → Carrier A → Program → ℕ → ℕ → Bool → WorldOf A → StackOf A → SteppedOf (PartOf A)
failed C files t exception true world stack = on_to world stack
failed C files t exception false world stack = raised_for C files t ExceptionInInitializer (Some exception) world stack

abbrev pub pending_event : {A : Type 0} → Carrier A → Program → ℕ → ℕ → Option ReferenceType → WorldOf A → StackOf A → SteppedOf (PartOf A)
pending_event C files t exception thrown world [] = NotEnabled
pending_event C files t exception thrown world (Invocation frame ∷ stack) =
    unwound C files t exception world frame stack (option_and_then (handler_in files frame.place.offset thrown) (body_of files frame.method))
pending_event C files t exception thrown world (Initialisation class phase ∷ stack) =
    failed C files t exception (is_object_of files (ClassType java_lang_error) thrown) (with_class_status world class Erroneous) stack

-- ---- Relock: a thread that has left a wait set (JLS 17.2.1)

-- notified, the call of wait returns; interrupted, it throws
abbrev pub after_wait : {A : Type 0} → Carrier A → Program → ℕ → WakeCause → WorldOf A → StackOf A → SteppedOf (PartOf A)
after_wait C files t Notified world stack = on_to world (returned files [] stack)
after_wait C files t Interrupted world stack = raised_by_interrupt C files t world stack

abbrev pub relock_event : {A : Type 0} → Carrier A → Program → ℕ → ℕ → ℕ → WakeCause → WorldOf A → StackOf A → SteppedOf (PartOf A)
relock_event C files t object count cause world stack =
    enabled_if (is_done (monitors.relock object t count world.monitors).answer)
    (after_wait C files t cause (with_status (with_monitors world (monitors.relock object t count world.monitors)) t Running) stack)

-- ---- an event

-- a thread that runs, with no exception pending
abbrev pub running_event : {A : Type 0} → Carrier A → Program → ℕ → Event → WorldOf A → StackOf A → SteppedOf (PartOf A)
running_event C files frames event world [] = unpicked event (begin_event C files frames world event.thread)
running_event C files frames event world (Invocation frame ∷ stack) = bytecode_event C files frames event world frame stack
running_event C files frames event world (Initialisation class phase ∷ stack) = unpicked event (initialisation_event C files frames event.thread class phase world stack)

abbrev pub going_event : {A : Type 0} → Carrier A → Program → ℕ → Event → WorldOf A → StackOf A → Option ℕ → SteppedOf (PartOf A)
going_event C files frames event world stack None = running_event C files frames event world stack
going_event C files frames event world stack (Some exception) =
    unpicked event (pending_event C files event.thread exception (slice_get (types_of world.heap) exception) world stack)

abbrev pub thread_event : {A : Type 0} → Carrier A → Program → ℕ → Event → WorldOf A → StackOf A → ThreadStatus → SteppedOf (PartOf A)
thread_event C files frames event world stack Running = going_event C files frames event world stack (thread_at world event.thread).pending
thread_event C files frames event world stack (Waiting object count) = NotEnabled
thread_event C files frames event world stack (Relock object count cause) = unpicked event (relock_event C files event.thread object count cause world stack)
thread_event C files frames event world stack (Ended exception) = NotEnabled

-- the stacks after a step of a thread; a thread that it started has an empty one
abbrev pub with_part : {A : Type 0} → StateOf A → ℕ → SteppedOf (PartOf A) → SteppedOf (StateOf A)
with_part state t NotEnabled = NotEnabled
with_part state t WrongKind = WrongKind
with_part state t (Next cost p) =
    Next cost (record { world = p.world; stacks = slice_set state.stacks t p.stack ++ replicate (length p.world.threads - length state.stacks) [] })

abbrev pub event_of : {A : Type 0} → Carrier A → Program → ℕ → StateOf A → Event → Option (StackOf A) → SteppedOf (StateOf A)
event_of C files frames state event None = NotEnabled
event_of C files frames state event (Some stack) =
    with_part state event.thread (settled event.thread (thread_event C files frames event state.world stack (thread_at state.world event.thread).status))

-- what becomes of an event
abbrev pub stepped : {A : Type 0} → Carrier A → Program → ℕ → StateOf A → Event → SteppedOf (StateOf A)
stepped C files frames state event = event_of C files frames state event (slice_get state.stacks event.thread)

-- whether the event is enabled; a thread at an operand of the wrong kind counts as enabled
abbrev pub is_enabled_by : {S : Type 0} → SteppedOf S → Bool
is_enabled_by NotEnabled = false
is_enabled_by WrongKind = true
is_enabled_by (Next cost next) = true

abbrev pub is_enabled : Program → ℕ → State → Event → Bool
is_enabled files frames state event = is_enabled_by (stepped values files frames state event)

abbrev pub next_by : {S : Type 0} → SteppedOf S → Option S
next_by NotEnabled = None
next_by WrongKind = None
next_by (Next cost next) = Some next

-- the one next state, where the event is enabled and finds what it wants
abbrev pub step : Program → ℕ → State → Event → Option State
step files frames state event = next_by (stepped values files frames state event)
