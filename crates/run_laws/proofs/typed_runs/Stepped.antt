-- What an outcome of an instruction makes of the thread that did it, and an event at an instruction.
use Rattle.std.proofs.Common.{◌≡◌, ℕ, ◌∷◌, Bool, true, false, Option, Some, refl, sym, ap, ◌∙◌, subst}
use Rattle.std.specs.Option.{option_map, option_and_then}
use Rattle.std.proofs.lemmas.Bool.{cond_both}
use Rattle.model.specs.declared.event.Event.{Event}
use Rattle.model.specs.declared.value.Value.{Value}
use Rattle.model.specs.Names.{java_lang_thread}
use Rattle.model.specs.Classes.{Program}
use Rattle.model.specs.Instruction.{Sized}
use Rattle.model.specs.Operands.{values, under}
use Rattle.model.specs.State.{types_of, Frame, Invocation, StackOf, World}
use Rattle.model.specs.Outcomes.{OutcomeOf, Goes, Raises, Throws, Interrupts, Calls, Returns, Waits}
use Rattle.model.specs.Calls.{result_types}
use Rattle.model.specs.Frames.{at_offset, at_call}
use Rattle.model.specs.Sites.{site_with}
use Rattle.model.specs.Meanings.{meaning_of}
use Rattle.model.specs.Step.{SteppedOf, WrongKind, PartOf, enabled_if, become, returned, ops_of, done, bytecode_by, bytecode_in, bytecode_event}
use Rattle.model.specs.Typing.{AreTyped}
use Rattle.model.specs.Worlds.{thread_at}
use Rattle.model.specs.WellTyped.{is_object_in, Ready, Results, Instruction, Beneath, IsRunning, IsStackTyped}
use Rattle.run_laws.proofs.typed_runs.Invariant.{beneath_more, failing_from}
use Rattle.run_laws.proofs.typed_runs.Frames.{returned_typed}
use Rattle.run_laws.proofs.typed_runs.Changes.{Fits, Live, OutcomeTyped}
use Rattle.run_laws.proofs.laws.Linked.{Linked}
use Rattle.run_laws.proofs.typed_runs.Flows.{InstructionsTyped, Flow, flow_of, here_of}
use Rattle.run_laws.proofs.typed_runs.StepParts.{At, OnPart, pending_typed, raised_typed, interrupted_typed, self_at, live_at, idle_running}
use Rattle.run_laws.proofs.typed_runs.Entering.{BegunKeeps, unpicked_typed, going_typed, pushed_typed, leaving_typed, needing_class_typed}

-- an event that is enabled may rest on that
enabled_by : (files : Program) (t : ℕ) (world : World) (b : Bool) (x : SteppedOf (PartOf Value)) → (b ≡ true → OnPart files t world x)
    → OnPart files t world (enabled_if b x)
enabled_by files t world true x h = h refl
enabled_by files t world false x h = tt

module _ (files : Program) (linked : Linked files) (t : ℕ) (world : World) (fits : Fits files world) (live : Live world t) where
  start : At files t world world live.thread
  start = self_at files t world live.thread fits live.there (idle_running live.thread live.status)

  pub become_typed : (frames : ℕ) (frame : Frame) (stack : StackOf Value) → Ready files (types_of world.heap) frame
      → Beneath files (types_of world.heap) (Results (result_types files frame.method)) stack → (o : OutcomeOf Value)
      → OutcomeTyped files t world frame o → OnPart files t world (become values files frames t world frame stack o)
  become_typed frames frame stack ready beneath (Goes cost after slots to) h =
      let more = beneath_more files _ _ h.0.extends (Results (result_types files frame.method)) stack beneath in
      going_typed files linked.rooted t world live.thread live.there after h.1.0.thread (Invocation (at_offset frame to slots) ∷ stack) (live_at files t world after h.0 h.1.0) h.1.0.status h.1.0.pending (h.1.1, more)
  become_typed frames frame stack ready beneath (Raises fault) h =
      raised_typed files t world live.thread live.there linked.rooted fault world live.thread (Invocation frame ∷ stack) start live.status (ready.stopped, beneath)
  become_typed frames frame stack ready beneath (Throws exception) h =
      pending_typed files t world live.thread live.there linked.rooted world live.thread exception (Invocation frame ∷ stack) start live.status h (ready.stopped, beneath)
  become_typed frames frame stack ready beneath Interrupts h =
      interrupted_typed files t world live.thread live.there linked.rooted world live.thread (Invocation frame ∷ stack) start live.status (ready.stopped, beneath)
  become_typed frames frame stack ready beneath (Calls callee rest) h =
      pushed_typed files linked.rooted t world live.thread live.there frames world world live.thread live.thread (Invocation frame ∷ stack) (Invocation (at_call frame rest) ∷ stack) callee start live.status start live.status live.pending (ready.stopped, beneath) (h.0, (h.1, beneath))
  become_typed frames frame stack ready beneath (Returns after results) h =
      let l = h.1.0 in
      let more = beneath_more files _ _ h.0.extends (Results (result_types files frame.method)) stack beneath in
      let rest = returned_typed files linked.rooted (types_of after.heap) (result_types files frame.method) stack results more h.1.1 in
      leaving_typed files linked.rooted t world live.thread live.there frame.entered after l.thread (returned files results stack) (Invocation frame ∷ stack) (live_at files t world after h.0 l) l.status
      (subst (λ p. IsRunning files (types_of after.heap) p (returned files results stack)) (sym l.pending) rest)
      (failing_from files _ Instruction (Invocation frame ∷ stack) (beneath_more files _ _ h.0.extends Instruction (Invocation frame ∷ stack) (ready, beneath)))
  become_typed frames frame stack ready beneath (Waits cost after rest) h =
      let w = h.1.0 in
      let more = beneath_more files _ _ h.0.extends (Results (result_types files frame.method)) stack beneath in
      record {
        changes = h.0;
        thread = w.thread;
        there = w.there;
        idle = λ e. absurd cc;
        stack_typed = subst (λ s. IsStackTyped files (types_of after.heap) w.thread.pending (Invocation (at_call frame rest) ∷ stack) s) (sym w.status) (w.pending, (w.object, (h.1.1, more)));
      }

-- an event of a running thread at the instruction of the frame on top
module _ (files : Program) (linked : Linked files) (accepted : AreTyped files) (instructions : InstructionsTyped files)
    (begun_keeps : BegunKeeps files) (event : Event) (world : World) (fits : Fits files world) (live : Live world event.thread)
    (self : is_object_in files (types_of world.heap) java_lang_thread (thread_at world event.thread).object ≡ true) where
  done_typed : (frames : ℕ) (frame : Frame) (stack : StackOf Value) (ready : Ready files (types_of world.heap) frame)
      → Beneath files (types_of world.heap) (Results (result_types files frame.method)) stack
      → (flow : Flow files frame ready.stopped.stands) → flow.meaning.may event world (ops_of values flow.meaning frame.place.slots) ≡ true
      → OnPart files event.thread world (done values files frames event world frame stack flow.meaning)
  done_typed frames frame stack ready beneath flow may =
      become_typed files linked event.thread world fits live frames frame stack ready beneath (flow.meaning.does event world frame.place.slots (ops_of values flow.meaning frame.place.slots) (under flow.meaning.wants frame.place.slots))
      (instructions event world frame (site_with frame.method ready.stopped.stands.body frame.place.offset flow.sized) (here_of files linked accepted event.thread world frame fits live self ready flow.sized flow.is_sized) flow.meaning flow.is_meaning flow.allows may)

  meant_typed : (frames : ℕ) (frame : Frame) (stack : StackOf Value) (ready : Ready files (types_of world.heap) frame)
      → Beneath files (types_of world.heap) (Results (result_types files frame.method)) stack → (max_stack : ℕ)
      (flow : Flow files frame ready.stopped.stands)
      → OnPart files event.thread world (bytecode_by values files frames event world frame stack max_stack (Some flow.meaning))
  meant_typed frames frame stack ready beneath max_stack flow =
      let m = flow.meaning in
      cond_both (values.finds files (types_of world.heap) m.wants max_stack frame.place.slots) _ _ (OnPart files event.thread world)
      (λ q. enabled_by files event.thread world (m.may event world (ops_of values m frame.place.slots)) _
      (λ may. needing_class_typed files linked.rooted event.thread world live.thread live.there begun_keeps m.looks world live.thread (Invocation frame ∷ stack) (done values files frames event world frame stack m)
      (self_at files event.thread world live.thread fits live.there (idle_running live.thread live.status)) live.status live.pending (ready, beneath) (done_typed frames frame stack ready beneath flow may)))
      (λ q. unpicked_typed files event.thread world event WrongKind tt)

  pub bytecode_typed : (frames : ℕ) (frame : Frame) (stack : StackOf Value) → Ready files (types_of world.heap) frame
      → Beneath files (types_of world.heap) (Results (result_types files frame.method)) stack
      → OnPart files event.thread world (bytecode_event values files frames event world frame stack)
  bytecode_typed frames frame stack ready beneath =
      let stands = ready.stopped.stands in
      let flow = flow_of files frame stands in
      let at = ap (λ (o : Option Sized). option_and_then (meaning_of values files) (option_map (site_with frame.method stands.body frame.place.offset) o)) flow.is_sized in
      subst (λ o. OnPart files event.thread world (bytecode_in values files frames event world frame stack o)) (sym stands.is_body)
      (subst (λ o. OnPart files event.thread world (bytecode_by values files frames event world frame stack stands.body.code.max_stack o)) (sym (at ∙ flow.is_meaning))
      (meant_typed frames frame stack ready beneath stands.body.code.max_stack flow))
