-- What comes before an instruction: its pick, and then the class that it needs.
use Rattle.std.proofs.Common.{◌≡◌, ℕ, zero, suc, List, ◌∷◌, Option, Some, None, Bool, true, false, refl, sym, ap, subst, ◌∙◌, ◌==◌}
use Rattle.std.proofs.Math.Dec.{eqb-suc-zero}
use Rattle.std.specs.Prelude.{Result, Ok, Err, if◌then◌else◌}
use Rattle.std.specs.Option.{option_and_then}
use Rattle.model.specs.declared.event.Event.{Event}
use Rattle.model.specs.Names.{Name}
use Rattle.model.specs.Classes.{Program, is_built_in}
use Rattle.model.specs.ClassInitialisation.{Look, IsReady, look_at, look_by, status_in}
use Rattle.model.specs.LimitStands.{Bounds}
use Rattle.model.specs.Meanings.{meaning_of}
use Rattle.model.specs.Operands.{words}
use Rattle.model.specs.Sites.{MeaningOf, Site}
use Rattle.model.specs.State.{Initialised, Invocation, FrameOf, StackOf, StateOf, WorldOf}
use Rattle.model.specs.Step.{SteppedOf, NotEnabled, PartOf, enabled_if, needing, needing_class, ops_of, done, bytecode_by, bytecode_in, bytecode_event}
use Rattle.linked_code.specs.declared.instruction.LinkedInstruction.{LinkedInstruction}
use Rattle.linked_code.specs.declared.method.LinkedCode.{LinkedCode}
use Rattle.linked_code.specs.declared.program.LinkedProgram.{LinkedProgram}
use Rattle.linked_code.specs.Linked.{offset_in}
use Rattle.thread_stacks.specs.Stacks.{ShownEntry}
use Rattle.machine_state.specs.declared.answers.Answer.{Answer}
use Rattle.machine_state.specs.declared.refusals.EventRefusal.{EventRefusal}
use Rattle.machine_state.specs.declared.state.Shared.{Shared}
use Rattle.machine_state.specs.Events.{IsUnchanged, Becomes}
use Rattle.machine_state.specs.Instructions.{IsAt, AreInstructionsDone, instruction_event}
use Rattle.machine_state.specs.linked_frames.Frames.{IsRunning}
use Rattle.machine_threads.specs.instruction_needs.Needs as needs
use Rattle.machine_state.specs.class_initialisation.Needed as needed
use Rattle.machine_threads.specs.instruction_events.Families.{is_call}
use Rattle.machine_threads.specs.instruction_events.Doing.{FirstBy}
use Rattle.machine_threads.proofs.instruction_events.Picks.{Mays, mays}

pub not_zero : (n : ℕ) → (n ≡ 0 → ⊥) → (n == 0) ≡ false
not_zero zero h = absurd (h refl)
not_zero (suc n) h = eqb-suc-zero n

-- the event of an instruction with its class
abbrev event_with : Program → (frames : ℕ) → Event → WorldOf ℕ → FrameOf ℕ → StackOf ℕ → MeaningOf ℕ → SteppedOf (PartOf ℕ)
event_with trees frames event world frame rest meaning =
    enabled_if (meaning.may event world (ops_of words meaning frame.place.slots))
    (needing_class words trees event.thread meaning.looks world (Invocation frame ∷ rest) (done words trees frames event world frame rest meaning))

bytecode_is : (trees : Program) (frames : ℕ) (event : Event) (world : WorldOf ℕ) (frame : FrameOf ℕ) (rest : StackOf ℕ) (site : Site)
    (meaning : MeaningOf ℕ) → IsAt trees frame site meaning
    → bytecode_event words trees frames event world frame rest ≡ event_with trees frames event world frame rest meaning
bytecode_is trees frames event world frame rest site meaning at =
    ap (bytecode_in words trees frames event world frame rest) at.is_body
    ∙ ap (λ (s : Option Site). bytecode_by words trees frames event world frame rest at.body.code.max_stack (option_and_then (meaning_of words trees) s)) at.stands
    ∙ ap (bytecode_by words trees frames event world frame rest at.body.code.max_stack) at.means

-- a class that is built in is ready
built_in_ready : (t : ℕ) (world : WorldOf ℕ) (class : Name) → is_built_in class ≡ true → look_at t world (Some class) ≡ IsReady
built_in_ready t world class e = ap (λ b. look_by t (if b then Initialised else status_in class world.classes)) e

module _ (trees : Program) (p : LinkedProgram) (bounds : Bounds) (inflated : List ℕ) (event : Event) (shared : Shared)
    (stack : List ShownEntry) (state : StateOf ℕ) (frame : FrameOf ℕ) (rest : StackOf ℕ) (code : LinkedCode) (site : Site)
    (meaning : MeaningOf ℕ) (instruction : LinkedInstruction)
    (is : IsRunning trees p bounds inflated event.thread shared stack state frame rest code site meaning instruction) (frames : ℕ) where
  abbrev whole : SteppedOf (PartOf ℕ)
  whole = bytecode_event words trees frames event state.world frame rest

  abbrev after : SteppedOf (PartOf ℕ)
  after = instruction_event trees frames event state.world frame rest meaning

  abbrev finished : SteppedOf (PartOf ℕ)
  finished = done words trees frames event state.world frame rest meaning

  abbrev may : Bool
  may = meaning.may event state.world (ops_of words meaning frame.place.slots)

  its : Mays instruction meaning
  its = mays instruction trees p (offset_in code.starts.items) code.instructions.items site is.shown.place meaning is.stands.linked is.stands.at.means

  whole_is : whole ≡ event_with trees frames event state.world frame rest meaning
  whole_is = bytecode_is trees frames event state.world frame rest site meaning is.stands.at

  -- where the event may not be, it doesn't matter what it needs
  barred : may ≡ false → whole ≡ after
  barred e = whole_is ∙ ap (λ b. enabled_if b (needing_class words trees event.thread meaning.looks state.world (Invocation frame ∷ rest) finished)) e ∙ sym (ap (λ b. enabled_if b finished) e)

  -- ---- a pick

  picked_by : AreInstructionsDone → (event.pick == 0) ≡ false → (class : Name) → meaning.looks ≡ Some class → (b : Bool)
      → is_built_in class ≡ b → whole ≡ after
  picked_by all e class looks true built =
      all trees frames event state.world frame rest site meaning is.stands.at (ap (look_at event.thread state.world) looks ∙ built_in_ready event.thread state.world class built)
  picked_by all e class looks false built = barred (its.by_class class looks built event state.world (ops_of words meaning frame.place.slots) ∙ e)

  pub picked : AreInstructionsDone → (event.pick == 0) ≡ false → (class : Name) → meaning.looks ≡ Some class → whole ≡ after
  picked all e class looks = picked_by all e class looks (is_built_in class) refl

  -- ---- no pick

  abbrev by_class : Name → SteppedOf (PartOf ℕ) → SteppedOf (PartOf ℕ)
  by_class class behind = needing_class words trees event.thread (Some class) state.world (Invocation frame ∷ rest) behind

  -- the event is the one that looks at the class
  looked_by : AreInstructionsDone → (event.pick == 0) ≡ true → (class : Name) → meaning.looks ≡ Some class → (b : Bool)
      → is_built_in class ≡ b → (behind : SteppedOf (PartOf ℕ)) × (by_class class behind ≡ whole)
  looked_by all e class looks true built =
      (whole, ap (λ (look : Look). needing words trees event.thread class look state.world (Invocation frame ∷ rest) whole) (built_in_ready event.thread state.world class built))
  looked_by all e class looks false built =
      let allowed : may ≡ true = its.by_class class looks built event state.world (ops_of words meaning frame.place.slots) ∙ e in (
        finished,
        sym
            (whole_is
            ∙ ap (λ b. enabled_if b (needing_class words trees event.thread meaning.looks state.world (Invocation frame ∷ rest) finished)) allowed
            ∙ ap (λ o. needing_class words trees event.thread o state.world (Invocation frame ∷ rest) finished) looks),
      )

  pub looked : AreInstructionsDone → (event.pick == 0) ≡ true → (class : Name) → meaning.looks ≡ Some class
      → (behind : SteppedOf (PartOf ℕ)) × (by_class class behind ≡ whole)
  looked all e class looks = looked_by all e class looks (is_built_in class) refl

  -- what is answered of the class is answered of the event
  answered : AreInstructionsDone → (event.pick == 0) ≡ true → (class : Name) → meaning.looks ≡ Some class → (told : Result Answer EventRefusal)
      (new : Shared) (to : List ShownEntry)
      → ((behind : SteppedOf (PartOf ℕ)) → Becomes trees p bounds inflated state.world (by_class class behind) told shared new stack to)
      → Becomes trees p bounds inflated state.world whole told shared new stack to
  answered all e class looks told new to h =
      let l = looked all e class looks in
      subst (λ (x : SteppedOf (PartOf ℕ)). Becomes trees p bounds inflated state.world x told shared new stack to) l.1 (h l.0)

  pub first_by : AreInstructionsDone → (event.pick == 0) ≡ true → (class : Name) → meaning.looks ≡ Some class
      → (result : Result (Option Answer) EventRefusal) (new : Shared) (to : List ShownEntry)
      → needed.NeedsBy trees p bounds inflated event.thread class state.world (Invocation frame ∷ rest) result shared new stack to
      → FirstBy trees p bounds inflated frames event state frame rest meaning result shared new stack to
  first_by all e class looks (Ok None) new to h = (all trees frames event state.world frame rest site meaning is.stands.at (ap (look_at event.thread state.world) looks ∙ h.0), h.1)
  first_by all e class looks (Ok (Some answer)) new to h = answered all e class looks (Ok answer) new to h
  first_by all e class looks (Err told) new to h = answered all e class looks (Err told) new to h

  unchanged : IsUnchanged shared shared stack stack
  unchanged = record { shared = refl; stack = refl }

  -- ---- by what the instruction needs

  pub by_need : AreInstructionsDone → (event.pick == 0) ≡ true → (number : ℕ) → needs.Needs instruction (Some number)
      → (result : Result (Option Answer) EventRefusal) (new : Shared) (to : List ShownEntry)
      → needed.Needs p result event.thread number shared new stack to
      → FirstBy trees p bounds inflated frames event state frame rest meaning result shared new stack to
  by_need all e number n result new to h =
      let w = n trees p (offset_in code.starts.items) code.instructions.items site is.shown.place meaning is.stands.linked is.stands.at.means in
      first_by all e w.0 w.1 result new to (h trees bounds inflated state.world (Invocation frame ∷ rest) is.program is.lent.represents is.lent.shows_stack w.0 w.2)

  pub by_pick : AreInstructionsDone → (event.pick == 0) ≡ false → (number : ℕ) → needs.Needs instruction (Some number)
      → FirstBy trees p bounds inflated frames event state frame rest meaning (Ok None) shared shared stack stack
  by_pick all e number n =
      let w = n trees p (offset_in code.starts.items) code.instructions.items site is.shown.place meaning is.stands.linked is.stands.at.means in
      (picked all e w.0 w.1, unchanged)

  pub by_none : AreInstructionsDone → needs.Needs instruction None
      → FirstBy trees p bounds inflated frames event state frame rest meaning (Ok None) shared shared stack stack
  by_none all n =
      let ready = n trees p (offset_in code.starts.items) code.instructions.items site is.shown.place meaning is.stands.linked is.stands.at.means in
      (all trees frames event state.world frame rest site meaning is.stands.at (ready event.thread state.world), unchanged)

  -- ---- one that calls nothing picks nothing

  pub not_enabled : is_call instruction ≡ false → (event.pick == 0) ≡ false → (after ≡ NotEnabled) × IsUnchanged shared shared stack stack
  not_enabled own e = (ap (λ b. enabled_if b finished) (its.unpicked own event state.world (ops_of words meaning frame.place.slots) e), unchanged)
