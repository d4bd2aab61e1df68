-- A run told event by event (own): each line says where its thread stood in the state to which the events before it led; or it stands
-- for a run of local events, and says between which offsets.
use Rattle.std.specs.Prelude.{◌≡◌, ◌⊎◌, ℕ, List, [], ◌∷◌, ◌++◌, Option, Some, Bool, true, false, length, slice_get, unwrap_or}
use Rattle.std.specs.List.{flat_map}
use Rattle.model.specs.declared.end.End.{End}
use Rattle.model.specs.declared.event.Event.{Event}
use Rattle.model.specs.declared.limits.Limits.{Limits}
use Rattle.model.specs.declared.report.Report.{Report}
use Rattle.model.specs.Classes.{Program}
use Rattle.model.specs.Devices.{AppendsFront}
use Rattle.model.specs.Names.{Member}
use Rattle.model.specs.Run.{run}
use Rattle.model.specs.State.{Invocation, Initialisation, StackOf, State, StateOf}
use Rattle.run_laws.specs.interleavings.Local.{is_local}
use Rattle.machine.specs.machine_replay.Replays.{IsReplay}
use Rattle.traces.specs.Lines.{IsLine, fold_words}
use Rattle.traces.specs.declared.form.Form.{Form}
use Rattle.program_runs.specs.traced_runs.Windows.{is_told}
use Rattle.program_runs.specs.declared.traced_runs.window.Window.{Window}

-- ---- the lines

-- the stack of a thread; one that is not there has none
abbrev pub stack_at : {A : Type 0} → StateOf A → ℕ → StackOf A
stack_at state t = unwrap_or (slice_get state.stacks t) []

-- the line of an event in the state to which those before it led, if it is told
abbrev pub TellsIf : Bool → Form → Program → (frames : ℕ) → (before : List Event) → Event → (line : List ℕ) → Type 0
TellsIf true form trees frames before event line = (state : State) × (run trees frames before ≡ Some state) × IsLine form trees (length before) event.thread (stack_at state event.thread) line
TellsIf false form trees frames before event line = line ≡ []

-- that of one event
abbrev pub TellsOne : Program → (frames : ℕ) → Window → (before events : List Event) → (line : List ℕ) → Type 0
TellsOne trees frames window before [] line = ⊥
TellsOne trees frames window before (event ∷ []) line = TellsIf (is_told window (length before) event.thread) window.form trees frames before event line
TellsOne trees frames window before (event ∷ other ∷ events) line = ⊥

-- ---- runs of local events

-- the frame on top of a stack is of this method, and stands at this offset
abbrev pub StandsIn : {A : Type 0} → StackOf A → Member → ℕ → Type 0
StandsIn [] method offset = ⊥
StandsIn (Invocation frame ∷ stack) method offset = (frame.method ≡ method) × (frame.place.offset ≡ offset)
StandsIn (Initialisation class phase ∷ stack) method offset = ⊥

-- in the state to which the events before it led, the next event of a thread is local, and the thread stands there
pub record IsLocalAt (trees : Program) (frames : ℕ) (before : List Event) (t : ℕ) (method : Member) (offset : ℕ) : Type 0 where
  pub state : State
  pub reached : run trees frames before ≡ Some state
  pub local : is_local trees state t ≡ true
  pub stands : StandsIn (stack_at state t) method offset

-- so it is of each of these events of a thread, one after another, and each is to be told
abbrev pub AreLocal : Program → (frames : ℕ) → Window → (t : ℕ) → Member → (before events : List Event) → Type 0
AreLocal trees frames window t method before [] = Unit {0}
AreLocal trees frames window t method before (event ∷ events) =
    (event.thread ≡ t) × (is_told window (length before) t ≡ true) × ((offset : ℕ) × IsLocalAt trees frames before t method offset) × AreLocal trees frames window t method (before ++ event ∷ []) events

-- the one line of them all, by where the thread stands before the first one and before the last one
pub record IsFolded (trees : Program) (frames : ℕ) (window : Window) (before events : List Event) (line : List ℕ) : Type 0 where
  pub t : ℕ
  pub method : Member
  pub local : AreLocal trees frames window t method before events
  pub from : ℕ
  pub first : IsLocalAt trees frames before t method from
  pub front : List Event
  pub last : Event
  pub events_are : events ≡ front ++ last ∷ []
  pub to : ℕ
  pub ends : IsLocalAt trees frames (before ++ front) t method to
  pub line_is : line ≡ fold_words window.form (length before) (length events) t method from to

-- ---- all lines

-- of one event its own; in a summary one for a run of local events, too
abbrev pub TellsGroup : Program → (frames : ℕ) → Window → (before group : List Event) → (line : List ℕ) → Type 0
TellsGroup trees frames window before group line =
    TellsOne trees frames window before group line ⊎ ((window.summary ≡ true) × IsFolded trees frames window before group line)

-- the lines of groups of events, behind those before them
abbrev pub TellsGroups : Program → (frames : ℕ) → Window → (before : List Event) → (groups : List (List Event)) → (text : List ℕ) → Type 0
TellsGroups trees frames window before [] text = text ≡ []
TellsGroups trees frames window before (group ∷ groups) text =
    (line : List ℕ) × (rest : List ℕ) × (text ≡ line ++ rest) × TellsGroup trees frames window before group line × TellsGroups trees frames window (before ++ group) groups rest

-- the lines of events, in groups
abbrev pub Tells : Program → (frames : ℕ) → Window → (before events : List Event) → (text : List ℕ) → Type 0
Tells trees frames window before events text =
    (groups : List (List Event)) × (events ≡ flat_map (λ (group : List Event). group) groups) × TellsGroups trees frames window before groups text

-- ---- a whole run

-- a replay, and the lines of the events that it did
pub record IsTrace (trees : Program) (events : List Event) (limits : Limits) (window : Window) (r : Report) (end : End)
    (text : List ℕ) : Type 0 where
  pub replay : IsReplay trees events limits r end
  pub told : Tells trees limits.frames window [] replay.front text

-- before an error a front of the lines of the events that were done is written, and those are a front of the events
pub record WritesFront (trees : Program) (events : List Event) (limits : Limits) (window : Window)
    (old new : Option (List ℕ)) : Type 0 where
  pub front : List Event
  pub left : List Event
  pub events_are : events ≡ front ++ left
  pub state : State
  pub reached : run trees limits.frames front ≡ Some state
  pub text : List ℕ
  pub told : Tells trees limits.frames window [] front text
  pub written : AppendsFront old new text
