-- What the next event of a thread needs, classes by their numbers (JVMS 2.11.10, 5.2, 5.5; JLS 17.1, 17.2.1).
use Rattle.std.specs.Prelude.{◌≡◌, ℕ, List, [], ◌∷◌, Option, Some, None}
use Rattle.std.specs.Option.{option_and_then}
use Rattle.model.specs.Names.{Name, main_of}
use Rattle.model.specs.Calls.{Chosen, Fails, Runs}
use Rattle.model.specs.Classes.{Program, Body, body_of}
use Rattle.model.specs.Frames.{entered_by}
use Rattle.model.specs.LimitStands.{Bounds}
use Rattle.model.specs.Opening.{class_reference}
use Rattle.model.specs.Operands.{words, under}
use Rattle.model.specs.Outcomes.{OutcomeOf}
use Rattle.model.specs.Sites.{MeaningOf, Site}
use Rattle.model.specs.State as model
use Rattle.model.specs.State.{FrameOf, StackOf, StateOf, WorldOf}
use Rattle.model.specs.Step.{ops_of, initial_class}
use Rattle.model.specs.Worlds.{thread_at}
use Rattle.run_laws.specs.word_operands.Operands.{IsOnTop}
use Rattle.search_laws.specs.Waits.{Need, MonitorOf, ClassOf, callee_entered, class_need, frame_need, instruction_need, meant_need, begin_need, stack_need, going_need, status_need, next_need}
use Rattle.linked_code.specs.declared.instruction.LinkedInstruction.{LinkedInstruction}
use Rattle.linked_code.specs.declared.method.LinkedCode.{LinkedCode}
use Rattle.linked_code.specs.declared.program.LinkedProgram.{LinkedProgram}
use Rattle.linked_code.specs.Numbers.{IsClassAt}
use Rattle.linked_code.specs.Selection.{IsChosenAt}
use Rattle.thread_stacks.specs.declared.entry.Phase.{Phase}
use Rattle.thread_stacks.specs.Stacks.{ShownEntry}
use Rattle.machine_state.specs.declared.state.Shared.{Shared}
use Rattle.machine_state.specs.Shown.{IsProgram, IsLent, Represents}
use Rattle.machine_state.specs.linked_frames.Frames.{IsRunning, event_of}
use Rattle.machine_state.specs.shown_stacks.Shown.{ShowsStack, phase_of}
use Rattle.machine_state.specs.state_events.Whole.{IsShown}
use Rattle.waiting_circles.specs.declared.needs.kinds.Need.{Need as TheNeed}
use Rattle.waiting_circles.specs.declared.needs.kinds.Need.TheVariants as the

-- a class is told by its number
abbrev pub IsNeed : Program → Option TheNeed → Option Need → Type 0
IsNeed trees None need = need ≡ None
IsNeed trees (Some (the.Monitor object)) need = need ≡ Some (MonitorOf object)
IsNeed trees (Some (the.Class number)) need = (class : Name) × IsClassAt trees number class × (need ≡ Some (ClassOf class))

-- ---- a new frame

-- over whatever stack is shown
abbrev pub NeedsInFrame : List ShownEntry → (entered : Option ℕ) → (frames : ℕ) → Option TheNeed → Type 0
NeedsInFrame stack entered frames result =
    (trees : Program) (p : LinkedProgram) (own : StackOf ℕ) → ShowsStack trees p stack own
    → (t : ℕ) (world : WorldOf ℕ) → IsNeed trees result (frame_need words trees frames t world own entered)

-- the object whose monitor is entered by a call of what is chosen, if it gets a frame
abbrev pub entered_of : Program → (object : ℕ) → Chosen → Option ℕ
entered_of trees object (Fails fault) = None
entered_of trees object (Runs method) = option_and_then (λ (body : Body). entered_by trees method object) (body_of trees method)

abbrev pub NeedsInCall : LinkedProgram → (method object frames : ℕ) → List ShownEntry → Option TheNeed → Type 0
NeedsInCall p method object frames stack result =
    (trees : Program) (own : StackOf ℕ) (chosen : Chosen) → IsProgram trees p → ShowsStack trees p stack own → IsChosenAt trees method chosen
    → (t : ℕ) (world : WorldOf ℕ) → IsNeed trees result (frame_need words trees frames t world own (entered_of trees object chosen))

-- ---- an instruction

abbrev pub outcome_at : (t : ℕ) → WorldOf ℕ → FrameOf ℕ → MeaningOf ℕ → OutcomeOf ℕ
outcome_at t world frame meaning =
    meaning.does (event_of t) world frame.place.slots (ops_of words meaning frame.place.slots) (under meaning.wants frame.place.slots)

-- in whatever state a thread stands at it, what its frame needs
abbrev pub NeedsInInstruction : LinkedProgram → LinkedInstruction → (frames : ℕ) → Option TheNeed → Shared → List ShownEntry → Type 0
NeedsInInstruction p instruction frames result shared stack =
    (trees : Program) (bounds : Bounds) (inflated : List ℕ) (t : ℕ) (state : StateOf ℕ) (frame : FrameOf ℕ) (rest : StackOf ℕ) (code : LinkedCode) (site : Site) (meaning : MeaningOf ℕ)
    → IsRunning trees p bounds inflated t shared stack state frame rest code site meaning instruction
    → IsNeed trees result (frame_need words trees frames t state.world (model.Invocation frame ∷ rest) (callee_entered (outcome_at t state.world frame meaning)))

-- what it needs whose class is ready
abbrev pub NeedsReady : LinkedProgram → LinkedInstruction → (frames : ℕ) → Option TheNeed → Shared → List ShownEntry → Type 0
NeedsReady p instruction frames result shared stack =
    (trees : Program) (bounds : Bounds) (inflated : List ℕ) (t : ℕ) (state : StateOf ℕ) (frame : FrameOf ℕ) (rest : StackOf ℕ) (code : LinkedCode) (site : Site) (meaning : MeaningOf ℕ)
    → IsRunning trees p bounds inflated t shared stack state frame rest code site meaning instruction
    → IsNeed trees result
    (instruction_need words trees frames t state.world (model.Invocation frame ∷ rest) site.instr (ops_of words meaning frame.place.slots) (outcome_at t state.world frame meaning))

-- the class first
abbrev pub NeedsAtInstruction : LinkedProgram → LinkedInstruction → (t frames : ℕ) → Option TheNeed → Shared → List ShownEntry → Type 0
NeedsAtInstruction p instruction t frames result shared stack =
    (trees : Program) (bounds : Bounds) (inflated : List ℕ) (state : StateOf ℕ) (frame : FrameOf ℕ) (rest : StackOf ℕ) (code : LinkedCode) (site : Site) (meaning : MeaningOf ℕ)
    → IsRunning trees p bounds inflated t shared stack state frame rest code site meaning instruction
    → IsNeed trees result (meant_need words trees frames t state.world frame rest site meaning)

-- no exception is pending, and a frame is on top
abbrev pub NeedsAtFrame : LinkedProgram → Shared → List ShownEntry → (t frames : ℕ) → Option TheNeed → Type 0
NeedsAtFrame p shared stack t frames result =
    (trees : Program) (bounds : Bounds) (inflated : List ℕ) (state : StateOf ℕ) (frame : FrameOf ℕ) (rest : StackOf ℕ) → IsProgram trees p
    → IsLent trees p bounds inflated t shared stack state (model.Invocation frame ∷ rest) → IsOnTop state t frame
    → IsNeed trees result (stack_need words trees frames t state.world (model.Invocation frame ∷ rest))

-- ---- a thread that begins

abbrev pub NeedsFirst : (entered : Option ℕ) → (frames : ℕ) → Option TheNeed → Type 0
NeedsFirst entered frames result =
    (trees : Program) (t : ℕ) (world : WorldOf ℕ) → IsNeed trees result (frame_need words trees frames t world [] entered)

-- the object whose monitor main enters
abbrev pub EntersMain : LinkedProgram → Option ℕ → Type 0
EntersMain p entered =
    (trees : Program) → IsProgram trees p → entered ≡ entered_by trees (main_of (initial_class trees)) (class_reference trees (initial_class trees))

abbrev pub NeedsForMain : LinkedProgram → Shared → (frames : ℕ) → Option TheNeed → Type 0
NeedsForMain p shared frames result =
    (trees : Program) (bounds : Bounds) (world : WorldOf ℕ) → IsProgram trees p → Represents trees p bounds shared world
    → IsNeed trees result (begin_need words trees frames 0 world 0)

-- in whatever state the empty stack of the thread is lent
abbrev pub NeedsBeginning : LinkedProgram → Shared → (t frames : ℕ) → Option TheNeed → Type 0
NeedsBeginning p shared t frames result =
    (trees : Program) (bounds : Bounds) (inflated : List ℕ) (state : StateOf ℕ) (stack : List ShownEntry) → IsProgram trees p
    → IsLent trees p bounds inflated t shared stack state [] → IsNeed trees result (stack_need words trees frames t state.world [])

-- a started one, by the number behind that of the thread before it
abbrev pub NeedsToRun : LinkedProgram → Shared → (t frames : ℕ) → Option TheNeed → Type 0
NeedsToRun p shared t frames result = (t ≡ 0 → ⊥) → NeedsBeginning p shared t frames result

-- ---- a thread that initialises a class

-- what needs nothing else needs the class of the number
abbrev pub NeedsForClass : Shared → (t number : ℕ) → Option TheNeed → Type 0
NeedsForClass shared t number result =
    (trees : Program) (p : LinkedProgram) (bounds : Bounds) (world : WorldOf ℕ) → IsProgram trees p → Represents trees p bounds shared world
    → (class : Name) → IsClassAt trees number class → (frames : ℕ) → IsNeed trees result (class_need words trees frames t world (Some class) None)

abbrev pub NeedsInPhase : LinkedProgram → Shared → (t number : ℕ) → Phase → Option TheNeed → Type 0
NeedsInPhase p shared t number phase result =
    (trees : Program) (bounds : Bounds) (world : WorldOf ℕ) → IsProgram trees p → Represents trees p bounds shared world
    → (class : Name) (rest : StackOf ℕ) → IsClassAt trees number class
    → (frames : ℕ) → IsNeed trees result (stack_need words trees frames t world (model.Initialisation class (phase_of phase) ∷ rest))

-- ---- any thread

-- in whatever state its stack is lent
abbrev pub NeedsIn : LinkedProgram → Shared → List ShownEntry → (t : ℕ) → (Program → StateOf ℕ → StackOf ℕ → Option Need) → Option TheNeed
    → Type 0
NeedsIn p shared stack t need result =
    (trees : Program) (bounds : Bounds) (inflated : List ℕ) (state : StateOf ℕ) (own : StackOf ℕ) → IsProgram trees p
    → IsLent trees p bounds inflated t shared stack state own → IsNeed trees result (need trees state own)

abbrev pub NeedsGoing : LinkedProgram → Shared → List ShownEntry → (t frames : ℕ) → Option TheNeed → Type 0
NeedsGoing p shared stack t frames result = NeedsIn p shared stack t (λ trees state own. stack_need words trees frames t state.world own) result

abbrev pub NeedsRunning : LinkedProgram → Shared → List ShownEntry → (t frames : ℕ) → Option TheNeed → Type 0
NeedsRunning p shared stack t frames result =
    NeedsIn p shared stack t (λ trees state own. going_need words trees frames t state.world own (thread_at state.world t).pending) result

abbrev pub NeedsThere : LinkedProgram → Shared → List ShownEntry → (t frames : ℕ) → Option TheNeed → Type 0
NeedsThere p shared stack t frames result =
    NeedsIn p shared stack t (λ trees state own. status_need words trees frames t state.world own (thread_at state.world t).status) result

-- in whatever state is shown
abbrev pub NeedsNext : LinkedProgram → Shared → (t frames : ℕ) → Option TheNeed → Type 0
NeedsNext p shared t frames result =
    (trees : Program) (bounds : Bounds) (inflated : List ℕ) (state : StateOf ℕ) → IsProgram trees p → IsShown trees p bounds inflated shared state
    → IsNeed trees result (next_need words trees frames state t)
