-- A thread at an instruction, and its step.
use Rattle.std.proofs.Common.{◌≡◌, refl, sym, ◌∙◌, ap, subst, ℕ, ◌-◌, [], ◌∷◌, ◌++◌, length}
use Rattle.std.specs.Prelude.{Option, Some, None, Bool, true, false, if◌then◌else◌, slice_get, slice_set, replicate, IsTrue}
use Rattle.std.specs.Option.{option_and_then, option_map, option_map_or}
use Rattle.model.specs.declared.event.Event.{Event}
use Rattle.model.specs.declared.value.Value.{Value}
use Rattle.model.specs.Names.{Name}
use Rattle.model.specs.Classes.{Program, Body, body_of}
use Rattle.model.specs.Operands.{Slots, values, under}
use Rattle.model.specs.State as state
use Rattle.model.specs.State.{types_of, Thread, ThreadStatus, Running, Waiting, Relock, Ended, Frame, Initialisation, StackOf, World, State}
use Rattle.model.specs.Outcomes.{Cost, Goes}
use Rattle.model.specs.Worlds.{thread_at}
use Rattle.model.specs.Frames.{at_offset}
use Rattle.model.specs.ClassInitialisation.{Look, IsReady, IsNew, IsHeld, HasFailed, look_by, look_at, status_of}
use Rattle.model.specs.Sites.{MeaningOf, Site, site_at}
use Rattle.model.specs.Meanings.{meaning_of}
use Rattle.model.specs.Step.{SteppedOf, WrongKind, PartOf, enabled_if, unpicked, settled, needing_class, needing, done, become, bytecode_by, bytecode_in, going_event, thread_event, with_part, event_of, stepped, next_by, step, ops_of}
use Rattle.data_races.specs.EventActions.{Instruction, Does, Other, instruction_in, running_rule, rule_by, rule_of, is_ready}

abbrev pub event_of_thread : ℕ → Event
event_of_thread t = record { thread = t; pick = 0 }

-- the thread runs, with no exception pending, and the frame on top stands at the instruction
pub record IsAt (files : Program) (s : State) (t : ℕ) (instruction : Instruction) : Type 0 where
  pub frame : Frame
  pub rest : StackOf Value
  pub body : Body
  pub stack : slice_get s.stacks t ≡ Some (state.Invocation frame ∷ rest)
  pub running : (thread_at s.world t).status ≡ Running
  pub quiet : (thread_at s.world t).pending ≡ None
  pub has_body : body_of files frame.method ≡ Some body
  pub at : site_at frame.method body frame.place.offset ≡ Some instruction.site
  pub means : meaning_of values files instruction.site ≡ Some instruction.meaning
  pub slots : instruction.slots ≡ frame.place.slots

-- ---- by its rule

module _ (files : Program) (s : State) (t : ℕ) where
  abbrev thread : Thread
  thread = thread_at s.world t

  does_same : (i j : Instruction) → Does i ≡ Does j → i ≡ j
  does_same i j e = cc

  by_meaning : (frame : Frame) (rest : StackOf Value) (body : Body) (site : Site) (o : Option (MeaningOf Value)) (instruction : Instruction)
      → slice_get s.stacks t ≡ Some (state.Invocation frame ∷ rest) → thread.status ≡ Running → thread.pending ≡ None → body_of files frame.method ≡ Some body
      → site_at frame.method body frame.place.offset ≡ Some site → meaning_of values files site ≡ o
      → option_map_or (λ i. Does i) (option_map (λ meaning. record { site = site; meaning = meaning; slots = frame.place.slots }) o) Other ≡ Does instruction
      → IsAt files s t instruction
  by_meaning frame rest body site None instruction a b c d e f h = absurd (cc)
  by_meaning frame rest body site (Some meaning) instruction a b c d e f h =
      subst (λ (i : Instruction). IsAt files s t i) (does_same (record { site = site; meaning = meaning; slots = frame.place.slots }) instruction h)
      (record { frame = frame; rest = rest; body = body; stack = a; running = b; quiet = c; has_body = d; at = e; means = f; slots = refl })

  by_site : (frame : Frame) (rest : StackOf Value) (body : Body) (o : Option Site) (instruction : Instruction)
      → slice_get s.stacks t ≡ Some (state.Invocation frame ∷ rest) → thread.status ≡ Running → thread.pending ≡ None → body_of files frame.method ≡ Some body
      → site_at frame.method body frame.place.offset ≡ o
      → option_map_or (λ i. Does i) (option_and_then (λ site. option_map (λ meaning. record { site = site; meaning = meaning; slots = frame.place.slots }) (meaning_of values files site)) o) Other ≡ Does instruction
      → IsAt files s t instruction
  by_site frame rest body None instruction a b c d e h = absurd (cc)
  by_site frame rest body (Some site) instruction a b c d e h = by_meaning frame rest body site (meaning_of values files site) instruction a b c d e refl h

  by_body : (frame : Frame) (rest : StackOf Value) (o : Option Body) (instruction : Instruction)
      → slice_get s.stacks t ≡ Some (state.Invocation frame ∷ rest) → thread.status ≡ Running → thread.pending ≡ None → body_of files frame.method ≡ o
      → option_map_or (λ i. Does i) (option_and_then (instruction_in files frame) o) Other ≡ Does instruction → IsAt files s t instruction
  by_body frame rest None instruction a b c d h = absurd (cc)
  by_body frame rest (Some body) instruction a b c d h = by_site frame rest body (site_at frame.method body frame.place.offset) instruction a b c d refl h

  by_pending : (p : Option ℕ) (stack : StackOf Value) (instruction : Instruction) → slice_get s.stacks t ≡ Some stack → thread.status ≡ Running → thread.pending ≡ p
      → running_rule files p stack ≡ Does instruction → IsAt files s t instruction
  by_pending (Some exception) stack instruction a b c h = absurd (cc)
  by_pending None [] instruction a b c h = absurd (cc)
  by_pending None (state.Invocation frame ∷ rest) instruction a b c h = by_body frame rest (body_of files frame.method) instruction a b c refl h
  by_pending None (Initialisation class phase ∷ rest) instruction a b c h = absurd (cc)

  by_status : (status : ThreadStatus) (stack : StackOf Value) (instruction : Instruction) → slice_get s.stacks t ≡ Some stack → thread.status ≡ status
      → rule_by files thread stack status ≡ Does instruction → IsAt files s t instruction
  by_status Running stack instruction a b h = by_pending thread.pending stack instruction a b refl h
  by_status (Waiting object count) stack instruction a b h = absurd (cc)
  by_status (Relock object count cause) stack instruction a b h = absurd (cc)
  by_status (Ended exception) stack instruction a b h = absurd (cc)

  by_stack : (o : Option (StackOf Value)) (instruction : Instruction) → slice_get s.stacks t ≡ o
      → option_map_or (λ (stack : StackOf Value). rule_by files thread stack thread.status) o Other ≡ Does instruction → IsAt files s t instruction
  by_stack None instruction a h = absurd (cc)
  by_stack (Some stack) instruction a h = by_status thread.status stack instruction a refl h

  pub is_at : (instruction : Instruction) → rule_of files s t ≡ Does instruction → IsAt files s t instruction
  is_at instruction h = by_stack (slice_get s.stacks t) instruction refl h

  -- and the rule from there
  pub rule_is : (instruction : Instruction) → IsAt files s t instruction → rule_of files s t ≡ Does instruction
  rule_is instruction h =
      ap (λ o. option_map_or (λ (stack : StackOf Value). rule_by files thread stack thread.status) o Other) h.stack
      ∙ ap (λ status. rule_by files thread (state.Invocation h.frame ∷ h.rest) status) h.running
      ∙ ap (λ p. running_rule files p (state.Invocation h.frame ∷ h.rest)) h.quiet
      ∙ ap (λ o. option_map_or (λ i. Does i) (option_and_then (instruction_in files h.frame) o) Other) h.has_body
      ∙ ap (λ o. option_map_or (λ i. Does i) (option_and_then (λ site. option_map (λ meaning. record { site = site; meaning = meaning; slots = h.frame.place.slots }) (meaning_of values files site)) o) Other) h.at
      ∙ ap (λ o. option_map_or (λ i. Does i) (option_map (λ meaning. record { site = instruction.site; meaning = meaning; slots = h.frame.place.slots }) o) Other) h.means
      ∙ ap (λ (slots : Slots Value). Does (record { site = instruction.site; meaning = instruction.meaning; slots = slots })) (sym h.slots)

-- ---- its step

module _ (files : Program) (frames : ℕ) (s : State) (t : ℕ) (instruction : Instruction) (h : IsAt files s t instruction) where
  abbrev event : Event
  event = event_of_thread t

  abbrev at_instruction : SteppedOf (PartOf Value)
  at_instruction = bytecode_by values files frames event s.world h.frame h.rest h.body.code.max_stack (Some instruction.meaning)

  abbrev whole : SteppedOf (PartOf Value) → SteppedOf State
  whole p = with_part s t (settled t p)

  pub stepped_at : stepped values files frames s event ≡ whole at_instruction
  stepped_at =
      ap (λ o. event_of values files frames s event o) h.stack
      ∙ ap (λ status. whole (thread_event values files frames event s.world (state.Invocation h.frame ∷ h.rest) status)) h.running
      ∙ ap (λ p. whole (going_event values files frames event s.world (state.Invocation h.frame ∷ h.rest) p)) h.quiet
      ∙ ap (λ o. whole (bytecode_in values files frames event s.world h.frame h.rest o)) h.has_body
      ∙ ap (λ o. whole (bytecode_by values files frames event s.world h.frame h.rest h.body.code.max_stack (option_and_then (meaning_of values files) o))) h.at
      ∙ ap (λ o. whole (bytecode_by values files frames event s.world h.frame h.rest h.body.code.max_stack o)) h.means

  abbrev finds_all : Bool
  finds_all = values.finds files (types_of s.world.heap) instruction.meaning.wants h.body.code.max_stack h.frame.place.slots

  abbrev may_now : Bool
  may_now = instruction.meaning.may event s.world (ops_of values instruction.meaning h.frame.place.slots)

  abbrev then_done : SteppedOf (PartOf Value)
  then_done =
      needing_class values files t instruction.meaning.looks s.world (state.Invocation h.frame ∷ h.rest)
      (done values files frames event s.world h.frame h.rest instruction.meaning)

  tests : (f m : Bool) (p : SteppedOf (PartOf Value)) (next : State)
      → next_by (whole (if f then enabled_if m p else unpicked event WrongKind)) ≡ Some next → IsTrue f × IsTrue m
  tests true true p next e = (refl, refl)
  tests true false p next e = absurd (cc)
  tests false m p next e = absurd (cc)

  -- where it has a step, it finds its operands, and nothing keeps it from it
  pub steps_by : (next : State) → step files frames s event ≡ Some next → IsTrue finds_all × IsTrue may_now
  steps_by next e = tests finds_all may_now then_done next (sym (ap next_by stepped_at) ∙ e)

  ready_look : (look : Look) (class : Name) (stack : StackOf Value) (p : SteppedOf (PartOf Value)) → IsTrue (is_ready look) → needing values files t class look s.world stack p ≡ p
  ready_look IsReady class stack p r = refl
  ready_look IsNew class stack p r = absurd (cc)
  ready_look IsHeld class stack p r = absurd (cc)
  ready_look HasFailed class stack p r = absurd (cc)

  ready : (o : Option Name) (stack : StackOf Value) (p : SteppedOf (PartOf Value)) → IsTrue (is_ready (look_at t s.world o)) → needing_class values files t o s.world stack p ≡ p
  ready None stack p r = refl
  ready (Some class) stack p r = ready_look (look_by t (status_of s.world class)) class stack p r

  -- the state that follows, where the instruction goes on to another one
  abbrev pub after : World → Slots Value → ℕ → State
  after world slots to = record {
    world = world;
    stacks = slice_set s.stacks t (state.Invocation (at_offset h.frame to slots) ∷ h.rest) ++ replicate (length world.threads - length s.stacks) [];
  }

  pub goes : (cost : Cost) (world : World) (slots : Slots Value) (to : ℕ) → IsTrue finds_all → IsTrue may_now → IsTrue (is_ready (look_at t s.world instruction.meaning.looks))
      → instruction.meaning.does event s.world h.frame.place.slots (ops_of values instruction.meaning h.frame.place.slots) (under instruction.meaning.wants h.frame.place.slots) ≡ Goes cost world slots to
      → step files frames s event ≡ Some (after world slots to)
  goes cost world slots to finds may look does =
      ap next_by stepped_at
      ∙ ap (λ b. next_by (whole (if b then enabled_if may_now then_done else unpicked event WrongKind))) finds
      ∙ ap (λ b. next_by (whole (enabled_if b then_done))) may
      ∙ ap (λ p. next_by (whole p)) (ready instruction.meaning.looks (state.Invocation h.frame ∷ h.rest) (done values files frames event s.world h.frame h.rest instruction.meaning) look)
      ∙ ap (λ o. next_by (whole (become values files frames t s.world h.frame h.rest o))) does
