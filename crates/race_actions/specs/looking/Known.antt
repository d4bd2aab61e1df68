-- What is known of the event of a thread before it (JLS 17.4.2), by the words of a machine.
use Rattle.std.specs.Prelude.{◌≡◌, ℕ, List, [], ◌∷◌, Option, Some, None, Bool, false, map, length, slice_get}
use Rattle.model.specs.declared.event.Event.{Event}
use Rattle.model.specs.declared.instr.Instr.{Instr}
use Rattle.model.specs.declared.value.Value.{Value}
use Rattle.model.specs.Classes.{Program}
use Rattle.model.specs.LimitStands.{Bounds}
use Rattle.model.specs.Operands.{words, word_of}
use Rattle.model.specs.Sites.{MeaningOf, Site}
use Rattle.model.specs.State as model
use Rattle.model.specs.State.{Frame, FrameOf, StackOf, State, StateOf}
use Rattle.model.specs.Words.{map_stack, map_world}
use Rattle.model.specs.Worlds.{thread_at}
use Rattle.linked_code.specs.declared.instruction.LinkedInstruction.{LinkedInstruction}
use Rattle.linked_code.specs.declared.method.LinkedCode.{LinkedCode}
use Rattle.linked_code.specs.declared.program.LinkedProgram.{LinkedProgram}
use Rattle.linked_code.specs.Numbers.{IsClassIf, IsMethodAt}
use Rattle.thread_stacks.specs.Stacks.{ShownEntry, ShownFrame, Invocation, Initialisation}
use Rattle.machine_state.specs.declared.state.Shared.{Shared}
use Rattle.machine_state.specs.linked_frames.Frames.{IsRunning}
use Rattle.race_places.specs.declared.run_actions.Action.{Action}
use Rattle.race_places.specs.named_actions.Names.{IsRight, named_action}
use Rattle.data_races.specs.Actions.{Action as NamedAction}
use Rattle.data_races.specs.EventActions.{Instruction, Does, rule_of, needed_class, found_class, finds_of, interrupts_of}
use Rattle.monitor_laws.specs.owners.Owners.{meant_before}
use Rattle.event_laws.specs.event_changes.Changes.{class_on}
use Rattle.table_actions.specs.tables.Owners.{WasOwner}
use Rattle.table_actions.specs.tables.Told.{all_found, listed}
use Rattle.thread_rules.specs.declared.next_rules.NextRule.{NextRule}
use Rattle.thread_rules.specs.declared.next_rules.NextRule.TheVariants as rule
use Rattle.thread_rules.specs.next_rules.Meant.{IsAtInstruction}
use Rattle.field_names.specs.named_fields.Fields.{names_of}
use Rattle.next_accesses.specs.next_access.Next.{IsReached}
pub use Rattle.next_accesses.specs.next_access.Next.{AreAllRight, names_given}
use Rattle.state_actions.specs.class_ends.Classes.{IsFinished, WasFinished}
use Rattle.state_actions.specs.meant_before.Said.{IsSaid}
use Rattle.race_actions.specs.declared.looking.CodeSite.{CodeSite}
use Rattle.race_actions.specs.declared.looking.EventBefore.{EventBefore}
use Rattle.race_actions.specs.declared.looking.Standing.{Standing}
use Rattle.race_actions.specs.declared.finds.Called.{Called}
use Rattle.race_actions.specs.finds.Finds.{IsCalled}

-- ---- a thread at an instruction

-- the instruction stands at this offset of the method of this number
pub record IsSite (trees : Program) (p : LinkedProgram) (bounds : Bounds) (inflated : List ℕ) (t : ℕ) (shared : Shared) (stack : List ShownEntry)
    (state : State) (at : IsAtInstruction trees p bounds inflated t shared stack state) (site : CodeSite) : Type 0 where
  pub method : IsMethodAt trees site.method at.stands.frame.method
  pub offset : site.offset ≡ at.stands.frame.place.offset

-- what is known of it
pub record IsStanding (trees : Program) (p : LinkedProgram) (bounds : Bounds) (inflated : List ℕ) (t : ℕ) (shared : Shared) (stack : List ShownEntry)
    (state : State) (at : IsAtInstruction trees p bounds inflated t shared stack state) (told : Standing) : Type 0 where
  pub site : IsSite trees p bounds inflated t shared stack state at told.site
  pub instruction : told.instruction ≡ Some at.instruction.site.instr
  pub looks : IsClassIf trees told.class at.instruction.meaning.looks
  pub calls : IsCalled trees t state.world at.instruction told.called

-- in whatever state that was reached, of a thread that stands at an instruction
abbrev pub KnowsStanding : Program → LinkedProgram → Shared → (t : ℕ) → List ShownEntry → Standing → Type 0
KnowsStanding trees p shared t stack told =
    (bounds : Bounds) (state : State) (reached : IsReached trees p bounds shared state)
    → (at : IsAtInstruction trees p bounds reached.inflated t shared stack state) → IsStanding trees p bounds reached.inflated t shared stack state at told

-- of one in this frame
abbrev pub KnowsFrame : Program → LinkedProgram → Shared → (t : ℕ) → List ShownEntry → ShownFrame → Standing → Type 0
KnowsFrame trees p shared t stack frame told =
    (bounds : Bounds) (state : State) (reached : IsReached trees p bounds shared state)
    → (at : IsAtInstruction trees p bounds reached.inflated t shared stack state) → at.runs.shown ≡ frame
    → IsStanding trees p bounds reached.inflated t shared stack state at told

-- by the rule of its event
abbrev pub KnowsBy : Program → LinkedProgram → Shared → (t : ℕ) → List ShownEntry → NextRule → Standing → Type 0
KnowsBy trees p shared t stack rule.Bytecode told = KnowsStanding trees p shared t stack told
KnowsBy trees p shared t stack _ told = told.called.is_ready ≡ false

-- ---- its parts

-- the class that the instruction of the frame on top looks for
abbrev pub LooksOnTop : LinkedProgram → List ShownEntry → Option ℕ → Type 0
LooksOnTop p stack told =
    (trees : Program) (bounds : Bounds) (inflated : List ℕ) (t : ℕ) (shared : Shared) (state : StateOf ℕ) (frame : FrameOf ℕ) (rest : StackOf ℕ) (code : LinkedCode)
    (site : Site) (meaning : MeaningOf ℕ) (instruction : LinkedInstruction)
    → IsRunning trees p bounds inflated t shared stack state frame rest code site meaning instruction → IsClassIf trees told meaning.looks

-- what an instruction calls, by the class that it looks for
abbrev pub KnowsCall : Program → LinkedProgram → Shared → (t : ℕ) → ShownFrame → Instr → (class : Option ℕ) → Called → Type 0
KnowsCall trees p shared t frame i class told =
    (bounds : Bounds) (state : State) (reached : IsReached trees p bounds shared state) (stack : List ShownEntry)
    → (at : IsAtInstruction trees p bounds reached.inflated t shared stack state) → at.runs.shown ≡ frame → at.instruction.site.instr ≡ i
    → IsClassIf trees class at.instruction.meaning.looks → IsCalled trees t state.world at.instruction told

-- the class whose initialisation is on top
abbrev pub InitialisesOnTop : List ShownEntry → Option ℕ → Type 0
InitialisesOnTop [] told = told ≡ None
InitialisesOnTop (Invocation frame ∷ stack) told = told ≡ None
InitialisesOnTop (Initialisation class phase ∷ stack) told = told ≡ Some class

-- whether it is done
abbrev pub IsFinishedIf : Shared → Option ℕ → Bool → Type 0
IsFinishedIf shared None told = Unit {0}
IsFinishedIf shared (Some class) told = IsFinished shared class told

-- ---- the event

-- where its thread runs an instruction, that stands in the frame on top, at the place which is told
abbrev pub IsSiteOf : Program → State → (t : ℕ) → StackOf Value → CodeSite → Type 0
IsSiteOf trees state t own site =
    (instruction : Instruction) (frame : Frame) (rest : StackOf Value) → rule_of trees state t ≡ Does instruction → own ≡ model.Invocation frame ∷ rest
    → IsMethodAt trees site.method frame.method × (site.offset ≡ frame.place.offset)

-- what the next event of a thread finds and whom it interrupts, which monitor it means, and what has to be known besides of the state
pub record IsKnown (trees : Program) (frames : ℕ) (state : State) (t : ℕ) (told : EventBefore) : Type 0 where
  pub own : StackOf Value
  pub own_is : slice_get state.stacks t ≡ Some own
  pub class : names_given trees (listed told.found_class) ≡ found_class state.world (needed_class trees t (rule_of trees state t))
  pub class_right : AreAllRight trees (listed told.found_class)
  pub finds : (event : Event) → event.thread ≡ t → names_given trees (all_found told.finds) ≡ finds_of trees event state.world (rule_of trees state t)
  pub interrupt : (event : Event) → event.thread ≡ t → names_given trees (listed told.interrupt) ≡ interrupts_of trees event state.world (rule_of trees state t)
  pub meant : (event : Event) → event.thread ≡ t
      → IsSaid told.monitor.object (meant_before words trees event (map_world word_of state.world) (map_stack word_of own) (thread_at state.world t).status)
  pub was_owner : WasOwner t told.monitor.object state.world.monitors told.monitor.was_owner
  pub depth : told.depth ≡ length own
  pub threads : told.threads ≡ length state.world.threads
  pub interrupted : told.was_interrupted ≡ (thread_at state.world t).interrupted
  pub initialises : IsClassIf trees told.class (class_on own)
  pub was_finished : WasFinished state.world (class_on own) told.was_finished
  pub site : IsSiteOf trees state t own told.site

-- in whatever state that was reached, of a thread with this stack
abbrev pub KnowsEvent : Program → LinkedProgram → Shared → (t : ℕ) → List ShownEntry → EventBefore → Type 0
KnowsEvent trees p shared t stack told =
    slice_get shared.stacks.items t ≡ Some stack → (bounds : Bounds) (state : State) → IsReached trees p bounds shared state
    → IsKnown trees bounds.frames state t told
