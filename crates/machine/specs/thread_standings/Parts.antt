-- How a thread stands by what it is about, and by what is on top of its stack (own; JVMS 2.10, 5.2, 5.5; JLS 17).
use Rattle.std.specs.Prelude.{◌≡◌, ℕ, zero, suc, List, [], ◌∷◌, Option, Some, None, Bool, true, false, if◌then◌else◌}
use Rattle.model.specs.Names.{Name, java_lang_throwable, main_of}
use Rattle.model.specs.ReferenceTypes.{ReferenceType}
use Rattle.model.specs.Classes.{Program, body_of}
use Rattle.model.specs.ClassInitialisation.{is_held, look_at}
use Rattle.model.specs.LimitStands.{Bounds}
use Rattle.model.specs.Meaning.{ended_by}
use Rattle.model.specs.Monitors.{enter, relock}
use Rattle.model.specs.Operands.{words}
use Rattle.model.specs.Report as report
use Rattle.model.specs.Report.{ThreadEnd}
use Rattle.model.specs.State as model
use Rattle.model.specs.State.{FrameOf, Monitor, ObjectOf, StackOf, StateOf, ThreadStatus, WorldOf}
use Rattle.model.specs.Worlds.{is_done}
use Rattle.model.specs.Step.{SteppedOf, PartOf, is_enabled_by, thread_at, initial_class, main_frame, main_event, run_event, begin_event, initialisation_event, pending_event, bytecode_event, running_event, going_event, thread_event}
use Rattle.heap.specs.Heap.{Object}
use Rattle.run_laws.specs.typed_threads.Ends.{AreEndsThrowable}
use Rattle.run_laws.specs.typed_threads.Objects.{IsInstance}
use Rattle.run_laws.specs.word_reports.Reports.{frame_end_of, held_end_of}
use Rattle.linked_code.specs.declared.program.LinkedProgram.{LinkedProgram}
use Rattle.linked_code.specs.declared.types.LinkedType.{LinkedType}
use Rattle.linked_code.specs.Numbers.{IsClassAt}
use Rattle.machine_state.specs.linked_frames.Frames.{event_of}
use Rattle.run_laws.specs.word_operands.Operands.{IsOnTop}
use Rattle.thread_stacks.specs.declared.entry.Phase.{Phase}
use Rattle.thread_stacks.specs.Stacks.{ShownEntry}
use Rattle.machine_state.specs.shown_objects.Shown.{ShowsObjects}
use Rattle.machine_state.specs.shown_stacks.Shown.{phase_of}
use Rattle.machine_state.specs.declared.state.Shared.{Shared}
use Rattle.machine_state.specs.Shown.{IsProgram, IsLent, Represents}
use Rattle.machine_threads.specs.thread_begins.Initial.{IsInitialClass}
use Rattle.machine_threads.specs.declared.waiting_instructions.kinds.Standing.{Standing}
use Rattle.machine_threads.specs.declared.waiting_instructions.kinds.Standing.TheVariants as standing
use Rattle.machine_threads.specs.waiting_instructions.Waits.{IsEnd}

-- the thread may do its event, or else stands so
abbrev pub end_by : SteppedOf (PartOf ℕ) → ThreadEnd → ThreadEnd
end_by stepped waiting = if is_enabled_by stepped then report.Runnable else waiting

-- in whatever state its stack is lent, the thread stands as files, the state and its own stack have it
abbrev pub StandsIn : LinkedProgram → Shared → List ShownEntry → (t : ℕ) → (Program → StateOf ℕ → StackOf ℕ → ThreadEnd) → Standing → Type 0
StandsIn p shared stack t end result =
    (trees : Program) (bounds : Bounds) (inflated : List ℕ) (state : StateOf ℕ) (own : StackOf ℕ) → IsProgram trees p → IsLent trees p bounds inflated t shared stack state own
    → IsEnd trees result (end trees state own)

-- ---- monitors

-- the first call of a thread is enabled: it raises a StackOverflowError, enters no monitor, or one that no other thread owns
abbrev pub call_may_begin : List Monitor → (t frames : ℕ) → Option ℕ → Bool
call_may_begin monitors t zero entered = true
call_may_begin monitors t (suc frames) None = true
call_may_begin monitors t (suc frames) (Some object) = is_done (enter object t monitors).answer

-- a thread has left the wait set of an object, whose monitor no thread owns, or one does (JLS 17.2.1)
abbrev pub StandsRelock : List Monitor → (object : ℕ) → Standing → Type 0
StandsRelock monitors object result =
    (trees : Program) (t count : ℕ) → IsEnd trees result (if is_done (relock object t count monitors).answer then report.Runnable else report.Blocked)

-- ---- classes

-- in whatever world is shown, another thread initialises the class of the number, or none does
abbrev pub SaysHeld : Shared → (t number : ℕ) → Bool → Type 0
SaysHeld shared t number result =
    (trees : Program) (p : LinkedProgram) (bounds : Bounds) (world : WorldOf ℕ) → IsProgram trees p → Represents trees p bounds shared world
    → (class : Name) → IsClassAt trees number class → result ≡ is_held (look_at t world (Some class))

-- a class is on top, by its number and its phase
abbrev pub StandsInitialising : LinkedProgram → Shared → (t number : ℕ) → Phase → Standing → Type 0
StandsInitialising p shared t number phase result =
    (trees : Program) (bounds : Bounds) (world : WorldOf ℕ) → IsProgram trees p → Represents trees p bounds shared world
    → (class : Name) (rest : StackOf ℕ) → IsClassAt trees number class
    → (frames : ℕ) → IsEnd trees result (end_by (initialisation_event words trees frames t class (phase_of phase) world rest)
    report.Initialising)

-- ---- the main thread

-- the number of the initial class; linked files have one
abbrev pub IsInitialIf : LinkedProgram → Option ℕ → Type 0
IsInitialIf p None = (trees : Program) → IsProgram trees p → ⊥
IsInitialIf p (Some number) = IsInitialClass p number

-- main, whose class is ready, may be called
abbrev pub SaysCallsMain : LinkedProgram → Shared → (frames : ℕ) → Bool → Type 0
SaysCallsMain p shared frames result =
    (trees : Program) (bounds : Bounds) (world : WorldOf ℕ) → IsProgram trees p → Represents trees p bounds shared world
    → result ≡ is_enabled_by (main_frame words trees frames
    world (main_of (initial_class trees)) (body_of trees (main_of (initial_class trees))))

abbrev pub SaysMainMayBegin : LinkedProgram → Shared → (frames : ℕ) → Bool → Type 0
SaysMainMayBegin p shared frames result =
    (trees : Program) (bounds : Bounds) (world : WorldOf ℕ) → IsProgram trees p → Represents trees p bounds shared world
    → result ≡ is_enabled_by (main_event words trees frames world)

-- another thread initialises the initial class
abbrev pub SaysMainHeld : LinkedProgram → Shared → Bool → Type 0
SaysMainHeld p shared result =
    (trees : Program) (bounds : Bounds) (world : WorldOf ℕ) → IsProgram trees p → Represents trees p bounds shared world
    → result ≡ is_held (look_at 0 world (Some (initial_class trees)))

-- ---- threads with an empty stack

-- in whatever state the empty stack of the thread is lent, this event of it is enabled, or is not
abbrev pub SaysEnabled : LinkedProgram → Shared → (t : ℕ) → (Program → WorldOf ℕ → SteppedOf (PartOf ℕ)) → Bool → Type 0
SaysEnabled p shared t stepped result =
    (trees : Program) (bounds : Bounds) (inflated : List ℕ) (state : StateOf ℕ) (stack : List ShownEntry) → IsProgram trees p → IsLent trees p bounds inflated t shared stack state []
    → result ≡ is_enabled_by (stepped trees state.world)

-- a started thread calls run of its Thread object
abbrev pub SaysRunMayBegin : LinkedProgram → Shared → (t frames : ℕ) → Bool → Type 0
SaysRunMayBegin p shared t frames result = SaysEnabled p shared t (λ trees world. run_event words trees frames t world (thread_at world t).object) result

abbrev pub SaysMayBegin : LinkedProgram → Shared → (t frames : ℕ) → Bool → Type 0
SaysMayBegin p shared t frames result = SaysEnabled p shared t (λ trees world. begin_event words trees frames world t) result

-- it may do no event
abbrev pub StandsEmpty : LinkedProgram → Shared → (t : ℕ) → Standing → Type 0
StandsEmpty p shared t result =
    (trees : Program) (bounds : Bounds) (world : WorldOf ℕ) → IsProgram trees p → Represents trees p bounds shared world
    → IsEnd trees result (held_end_of words trees world t [])

-- it begins
abbrev pub StandsBeginning : LinkedProgram → Shared → (t frames : ℕ) → Standing → Type 0
StandsBeginning p shared t frames result =
    (trees : Program) (bounds : Bounds) (inflated : List ℕ) (state : StateOf ℕ) (stack : List ShownEntry) → IsProgram trees p → IsLent trees p bounds inflated t shared stack state []
    → IsEnd trees result (end_by (begin_event words trees frames state.world t) (held_end_of words trees state.world t []))

-- ---- threads that run

-- an exception is pending, whichever
abbrev pub StandsPending : LinkedProgram → Shared → List ShownEntry → (t : ℕ) → Standing → Type 0
StandsPending p shared stack t result =
    (exception : ℕ) (thrown : Option ReferenceType)
    → StandsIn p shared stack t (λ trees state
    own. end_by (pending_event words trees t exception thrown state.world own) (held_end_of words trees state.world t own)) result

-- no exception is pending, and a frame is on top
abbrev pub StandsAtFrame : LinkedProgram → Shared → List ShownEntry → (t frames : ℕ) → Standing → Type 0
StandsAtFrame p shared stack t frames result =
    (trees : Program) (bounds : Bounds) (inflated : List ℕ) (state : StateOf ℕ) (frame : FrameOf ℕ) (rest : StackOf ℕ) → IsProgram trees p
    → IsLent trees p bounds inflated t shared stack state (model.Invocation frame ∷ rest) → IsOnTop state t frame
    → IsEnd trees result (end_by (bytecode_event words trees frames (event_of t) state.world frame rest)
    (frame_end_of words trees state.world t frame (body_of trees frame.method)))

-- no exception is pending
abbrev pub StandsGoing : LinkedProgram → Shared → List ShownEntry → (t frames : ℕ) → Standing → Type 0
StandsGoing p shared stack t frames result =
    StandsIn p shared stack t (λ trees state own. end_by (running_event words trees frames (event_of t) state.world own) (held_end_of words trees state.world t own)) result

abbrev pub StandsRunning : LinkedProgram → Shared → List ShownEntry → (t frames : ℕ) → Standing → Type 0
StandsRunning p shared stack t frames result =
    StandsIn p shared stack t
    (λ trees state own. end_by (going_event words trees frames (event_of t) state.world own (thread_at state.world t).pending) (held_end_of words trees state.world t own))
    result

-- ---- any thread

-- it has ended, with a Throwable or without one, in whatever world these objects are shown
abbrev pub StandsEnded : List Object → Option ℕ → Standing → Type 0
StandsEnded objects exception result =
    (trees : Program) (components : List LinkedType) (world : WorldOf ℕ) → ShowsObjects trees components objects world.heap
    → ((thrown : ℕ) → exception ≡ Some thrown → IsInstance trees world.heap java_lang_throwable thrown)
    → IsEnd trees result (ended_by world exception)

-- how a thread stands with its own stack, by its status
abbrev pub end_of : Program → (frames t : ℕ) → WorldOf ℕ → StackOf ℕ → ThreadStatus → ThreadEnd
end_of trees frames t world own model.Running = end_by (thread_event words trees frames (event_of t) world own model.Running) (held_end_of words trees world t own)
end_of trees frames t world own (model.Waiting object count) = report.Waiting
end_of trees frames t world own (model.Relock object count cause) = end_by (thread_event words trees frames (event_of t) world own (model.Relock object count cause)) report.Blocked
end_of trees frames t world own (model.Ended exception) = ended_by world exception

abbrev pub StandsThere : LinkedProgram → Shared → List ShownEntry → (t frames : ℕ) → Standing → Type 0
StandsThere p shared stack t frames result =
    (trees : Program) (bounds : Bounds) (inflated : List ℕ) (state : StateOf ℕ) (own : StackOf ℕ) → IsProgram trees p → IsLent trees p bounds inflated t shared stack state own
    → AreEndsThrowable trees state.world
    → IsEnd trees result (end_of trees frames t state.world own (thread_at state.world t).status)

abbrev pub is_runnable_standing : Standing → Bool
is_runnable_standing standing.Runnable = true
is_runnable_standing other = false
