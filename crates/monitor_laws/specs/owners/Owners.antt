-- Of which object an event may change the owner of the monitor (JLS 17.1, 17.2; JVMS 2.11.10).
use Rattle.std.specs.Prelude.{◌≡◌, ℕ, nat_lt, List, [], ◌∷◌, Option, Some, None, Bool, false, ◌==◌, if◌then◌else◌, length, slice_get}
use Rattle.std.specs.Option.{option_map_or}
use Rattle.model.specs.declared.event.Event.{Event}
use Rattle.model.specs.declared.instr.Instr.{Instr}
use Rattle.model.specs.declared.instr.Instr.TheVariants as instr
use Rattle.model.specs.Classes.{Program, Body, body_of}
use Rattle.model.specs.Operands.{Carrier, values, words, under}
use Rattle.model.specs.State.{Monitor, ThreadStatus, Running, Waiting, Relock, Ended, FrameOf, Invocation, Initialisation, StackOf, WorldOf, StateOf}
use Rattle.model.specs.Outcomes.{Cost, OutcomeOf, Goes, Raises, Throws, Interrupts, Calls, Returns, Waits}
use Rattle.model.specs.Monitors.{monitor_at}
use Rattle.model.specs.Worlds.{thread_at}
use Rattle.model.specs.Sites.{MeaningOf, Site, site_at, referent}
use Rattle.model.specs.BuiltInMethods.{object_of}
use Rattle.model.specs.Meanings.{meaning_of}
use Rattle.model.specs.Step.{ops_of, Next, stepped}

-- ---- owners that stay

abbrev pub is_meant : ℕ → Option ℕ → Bool
is_meant object None = false
is_meant object (Some other) = object == other

-- the owners of all monitors are as before, but maybe that of one
abbrev pub KeepsOwners : Option ℕ → (old new : List Monitor) → Type 0
KeepsOwners object old new = (other : ℕ) → is_meant other object ≡ false → (monitor_at new other).owner ≡ (monitor_at old other).owner

-- ---- the monitor that is meant

module _ {A : Type 0} where
  -- the one that the invocation on top entered
  abbrev pub entered_in : StackOf A → Option ℕ
  entered_in [] = None
  entered_in (Invocation frame ∷ stack) = frame.entered
  entered_in (Initialisation class phase ∷ stack) = None

  -- monitorenter and monitorexit
  abbrev pub monitor_operand : Carrier A → List A → Instr → Option ℕ
  monitor_operand C ops instr.MonitorEnter = referent C ops 0
  monitor_operand C ops instr.MonitorExit = referent C ops 0
  monitor_operand C ops _ = None

  -- an instruction, by what becomes of it
  abbrev pub meant_by : Carrier A → Instr → FrameOf A → List A → OutcomeOf A → Option ℕ
  meant_by C instr frame ops (Goes cost after slots to) = monitor_operand C ops instr
  meant_by C instr frame ops (Raises fault) = None
  meant_by C instr frame ops (Throws exception) = None
  meant_by C instr frame ops Interrupts = None
  meant_by C instr frame ops (Calls callee rest) = None
  meant_by C instr frame ops (Returns after results) = frame.entered
  meant_by C instr frame ops (Waits cost after rest) = Some (object_of C ops 0)

  abbrev pub meant_with : Carrier A → Event → WorldOf A → FrameOf A → Site → MeaningOf A → Option ℕ
  meant_with C event world frame site meaning =
      meant_by C site.instr frame (ops_of C meaning frame.place.slots)
      (meaning.does event world frame.place.slots (ops_of C meaning frame.place.slots) (under meaning.wants frame.place.slots))

  abbrev pub meant_at : Carrier A → Program → Event → WorldOf A → FrameOf A → Site → Option ℕ
  meant_at C files event world frame site = option_map_or (meant_with C event world frame site) (meaning_of C files site) None

  abbrev pub meant_in : Carrier A → Program → Event → WorldOf A → FrameOf A → Body → Option ℕ
  meant_in C files event world frame body = option_map_or (meant_at C files event world frame) (site_at frame.method body frame.place.offset) None

  -- by the rule of the event: what the invocation on top entered is left where an exception ends it
  abbrev pub meant_running : Carrier A → Program → Event → WorldOf A → Option ℕ → StackOf A → Option ℕ
  meant_running C files event world (Some exception) stack = entered_in stack
  meant_running C files event world None [] = None
  meant_running C files event world None (Invocation frame ∷ stack) = option_map_or (meant_in C files event world frame) (body_of files frame.method) None
  meant_running C files event world None (Initialisation class phase ∷ stack) = None

  abbrev pub meant_before : Carrier A → Program → Event → WorldOf A → StackOf A → ThreadStatus → Option ℕ
  meant_before C files event world stack Running = meant_running C files event world (thread_at world event.thread).pending stack
  meant_before C files event world stack (Waiting object count) = None
  meant_before C files event world stack (Relock object count cause) = Some object
  meant_before C files event world stack (Ended exception) = None

  -- else the one that an invocation entered that is new on top
  abbrev pub meant : Option ℕ → (old new : StackOf A) → Option ℕ
  meant None old new = if nat_lt (length old) (length new) then entered_in new else None
  meant (Some object) old new = Some object

-- ---- the statement

abbrev pub AreOwnersKeptBy : {A : Type 0} → Carrier A → Type 0
AreOwnersKeptBy {A} C =
    (files : Program) (frames : ℕ) (state : StateOf A) (event : Event) (cost : Cost) (next : StateOf A) (old new : StackOf A)
    → stepped C files frames state event ≡ Next cost next → slice_get state.stacks event.thread ≡ Some old
    → slice_get next.stacks event.thread ≡ Some new
    → KeepsOwners (meant (meant_before C files event state.world old (thread_at state.world event.thread).status) old new)
    state.world.monitors next.world.monitors

-- over values and over words
pub record AreOwnersKept : Type 0 where
  pub of_values : AreOwnersKeptBy values
  pub of_words : AreOwnersKeptBy words
