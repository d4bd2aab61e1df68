-- Which threads may go on, and what a report says, for every kind of values (own): at `values` as the definitions of the model
-- say it, at `words` as a machine without kinds finds it out.
use Rattle.std.specs.Prelude.{◌≡◌, ℕ, suc, List, [], ◌∷◌, Option, Some, None, Bool, not, if◌then◌else◌, length, slice_index_or}
use Rattle.std.specs.Option.{option_map_or}
use Rattle.std.specs.List.{list_all}
use Rattle.model.specs.declared.event.Event.{Event}
use Rattle.model.specs.declared.end.End.{End}
use Rattle.model.specs.Classes.{Program, Body, body_of}
use Rattle.model.specs.Linkable.{IsLinkable}
use Rattle.model.specs.Operands.{Carrier, words, values}
use Rattle.model.specs.Rows.{counting}
use Rattle.model.specs.State as state
use Rattle.model.specs.State.{FrameOf, Invocation, Initialisation, StackOf, Thread, ThreadStatus, WorldOf, StateOf, State}
use Rattle.model.specs.ClassInitialisation.{look_at, is_held}
use Rattle.model.specs.Sites.{MeaningOf, Site, site_at}
use Rattle.model.specs.Meanings.{meaning_of}
use Rattle.model.specs.Step.{is_enabled_by, ops_of, stepped, is_enabled}
use Rattle.model.specs.Report.{ThreadEnd, Blocked, Waiting, Initialising, Runnable, report_text}
use Rattle.model.specs.Run.{run, may_step, is_quiet}
use Rattle.model.specs.Meaning.{ended_by, waiting_at, begin_class, thread_ends, meaning}
use Rattle.model.specs.Words.{AreWordsOf}

-- ---- which threads may go on

-- the event is enabled
abbrev pub is_enabled_of : {A : Type 0} → Carrier A → Program → ℕ → StateOf A → Event → Bool
is_enabled_of C files frames s event = is_enabled_by (stepped C files frames s event)

-- a thread has an event that is enabled: where one with a pick is, so is the one with pick 0
abbrev pub may_step_of : {A : Type 0} → Carrier A → Program → ℕ → StateOf A → ℕ → Bool
may_step_of C files frames s t = is_enabled_of C files frames s (record { thread = t; pick = 0 })

-- no thread has one
abbrev pub is_quiet_of : {A : Type 0} → Carrier A → Program → ℕ → StateOf A → Bool
is_quiet_of C files frames s = list_all (λ t. not (may_step_of C files frames s t)) (counting 0 (length s.world.threads))

-- ---- for what a thread waits that runs and may not step

-- Another thread initialises the class that the instruction needs. Else the instruction itself has to wait, at a monitorenter or a
-- join; or else a synchronized method that it calls is to be entered.
abbrev pub instruction_end_of : {A : Type 0} → Carrier A → WorldOf A → ℕ → FrameOf A → Site → MeaningOf A → ThreadEnd
instruction_end_of C world t frame site meant =
    if is_held (look_at t world meant.looks) then Initialising
    else if meant.may (record { thread = t; pick = 0 }) world (ops_of C meant frame.place.slots) then Blocked
    else waiting_at site.instr

abbrev pub site_end_of : {A : Type 0} → Carrier A → Program → WorldOf A → ℕ → FrameOf A → Option Site → ThreadEnd
site_end_of C files world t frame None = Blocked
site_end_of C files world t frame (Some site) = option_map_or (instruction_end_of C world t frame site) (meaning_of C files site) Blocked

abbrev pub frame_end_of : {A : Type 0} → Carrier A → Program → WorldOf A → ℕ → FrameOf A → Option Body → ThreadEnd
frame_end_of C files world t frame None = Blocked
frame_end_of C files world t frame (Some body) = site_end_of C files world t frame (site_at frame.method body frame.place.offset)

abbrev pub held_end_of : {A : Type 0} → Carrier A → Program → WorldOf A → ℕ → StackOf A → ThreadEnd
held_end_of C files world t [] = if is_held (look_at t world (begin_class files t)) then Initialising else Blocked
held_end_of C files world t (Invocation frame ∷ stack) = frame_end_of C files world t frame (body_of files frame.method)
held_end_of C files world t (Initialisation class phase ∷ stack) = Initialising

-- ---- how a thread stands

abbrev pub thread_end_of : {A : Type 0} → Carrier A → Program → ℕ → StateOf A → ℕ → ThreadStatus → ThreadEnd
thread_end_of C files frames s t state.Running =
    if may_step_of C files frames s t then Runnable else held_end_of C files s.world t (slice_index_or s.stacks t [])
thread_end_of C files frames s t (state.Waiting object count) = Waiting
thread_end_of C files frames s t (state.Relock object count cause) = if may_step_of C files frames s t then Runnable else Blocked
thread_end_of C files frames s t (state.Ended exception) = ended_by s.world exception

-- the threads from number t on
abbrev pub ends_from_of : {A : Type 0} → Carrier A → Program → ℕ → StateOf A → ℕ → List Thread → List ThreadEnd
ends_from_of C files frames s t [] = []
ends_from_of C files frames s t (thread ∷ threads) = thread_end_of C files frames s t thread.status ∷ ends_from_of C files frames s (suc t) threads

abbrev pub thread_ends_of : {A : Type 0} → Carrier A → Program → ℕ → StateOf A → List ThreadEnd
thread_ends_of C files frames s = ends_from_of C files frames s 0 s.world.threads

-- the text of the report at a state that so many events led to, for which the run ended so
abbrev pub report_of : {A : Type 0} → Carrier A → Program → ℕ → StateOf A → ℕ → End → List ℕ
report_of C files frames s events end = report_text s.world.printed (thread_ends_of C files frames s) events end

-- ---- the statements

-- at a state of any kind of values it is so as at a state of the model
pub record IsReportedAs {A : Type 0} (C : Carrier A) (files : Program) (frames : ℕ) (s : StateOf A) (of : State) : Type 0 where
  pub enabled : (event : Event) → is_enabled_of C files frames s event ≡ is_enabled files frames of event
  pub may : (t : ℕ) → may_step_of C files frames s t ≡ may_step files frames of t
  pub quiet : is_quiet_of C files frames s ≡ is_quiet files frames of
  pub ends : thread_ends_of C files frames s ≡ thread_ends files frames of
  -- where a run led to that state, the report is that of the run
  pub report : (events : List Event) (end : End) → run files frames events ≡ Some of
      → meaning files frames events end ≡ Some (report_of C files frames s (length events) end)

-- over values these are the definitions of the model, at every state
abbrev pub AreReportsOfValues : Type 0
AreReportsOfValues = (files : Program) (frames : ℕ) (s : State) → IsReportedAs values files frames s s

-- over the words of a well-typed state of files that link it is so as at the state
abbrev pub AreReportsOfWords : Type 0
AreReportsOfWords =
    (files : List (List ℕ)) (trees : Program) → IsLinkable files trees → (frames : ℕ) (s : StateOf ℕ) (of : State)
    → AreWordsOf trees s of → IsReportedAs words trees frames s of
