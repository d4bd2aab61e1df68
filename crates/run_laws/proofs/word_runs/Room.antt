-- The operand stacks of a well-typed state are no deeper than max_stack says.
use Rattle.std.proofs.Common.{◌≡◌, ℕ, ◌+◌, List, [], ◌∷◌, length, ◌&&◌, true, false, Option, Some, None, ap, ◌∙◌, subst, arith}
use Rattle.std.specs.Prelude.{slice_get}
use Rattle.std.proofs.lemmas.Bool.{and_parts, true≢false}
use Rattle.std.proofs.lemmas.List.{length-append, length-map}
use Rattle.model.specs.declared.value.Value.{Value}
use Rattle.model.specs.Classes.{Program}
use Rattle.model.specs.ReferenceTypes.{ReferenceType}
use Rattle.model.specs.Types.{VerificationType}
use Rattle.model.specs.TypeOrder.{pairwise, is_stack_below, is_local_below, is_mark_below}
use Rattle.model.specs.Calls.{result_types}
use Rattle.model.specs.Operands.{word_of}
use Rattle.model.specs.State.{types_of, Frame, Invocation, Initialisation, StackOf, ThreadStatus, Running, Waiting, Relock, Ended, StateOf}
use Rattle.model.specs.Worlds.{has_ended}
use Rattle.model.specs.WellTyped.{has_type, are_typed, Ready, Awaits, Above, Results, Instruction, Beneath, Failing, IsStackTyped}
use Rattle.model.specs.Step.{next_of}
use Rattle.model.specs.Words.{map_frame}
use Rattle.run_laws.specs.word_runs.Words.{IsInRoom, AreInRoom, in_use, AreStacksInRoom}
use Rattle.run_laws.proofs.laws.Lists.{pairs_of, pair_length}
use Rattle.run_laws.proofs.word_runs.WordEvents.{stack_words}
use Rattle.run_laws.proofs.word_runs.InCode.{found_words}

module _ (files : Program) (os : List ReferenceType) where
  typed_count : (types : List VerificationType) (vs : List Value) → are_typed files os types vs ≡ true → length types ≡ length vs
  typed_count types vs h = pair_length (has_type files os) types vs (pairs_of (has_type files os) types vs h)

  ready_room : (frame : Frame) → Ready files os frame → IsInRoom files (map_frame word_of frame)
  ready_room frame h =
      let stands = h.stopped.stands in
      let same = typed_count stands.type.slots.stack frame.place.slots.stack h.stack in
      let words = length-map frame.place.slots.stack word_of in
      let most = (stands.holds.sized frame.place.offset stands.type stands.typed).stack in
      record { body = stands.body; is_body = stands.is_body; depth = omega (arith, words, same, most) }

  -- with its results it would be no deeper
  awaits_room : (results : List VerificationType) (frame : Frame) → Awaits files os results frame → IsInRoom files (map_frame word_of frame)
  awaits_room results frame h =
      let stands = h.stopped.stands in
      let r = h.goes_on in
      let above = and_parts (pairwise (is_local_below files) h.after.slots.locals r.there.slots.locals) (pairwise (is_stack_below files) h.after.slots.stack r.there.slots.stack && is_mark_below h.after.constructed r.there.constructed) r.above in
      let below = and_parts (pairwise (is_stack_below files) h.after.slots.stack r.there.slots.stack) (is_mark_below h.after.constructed r.there.constructed) above.1 in
      let there = pair_length (is_stack_below files) h.after.slots.stack r.there.slots.stack (pairs_of (is_stack_below files) h.after.slots.stack r.there.slots.stack below.0) in
      let after : length h.after.slots.stack ≡ length results + length h.rest = ap length h.stack_is ∙ length-append results h.rest in
      let same = typed_count h.rest frame.place.slots.stack h.stack in
      let words = length-map frame.place.slots.stack word_of in
      let most = (stands.holds.sized (next_of files frame) r.there r.typed).stack in
      record { body = stands.body; is_body = stands.is_body; depth = omega (arith, words, same, after, there, most) }

  beneath_room : (above : Above) (stack : StackOf Value) → Beneath files os above stack → AreInRoom files (stack_words stack)
  beneath_room above [] h = tt
  beneath_room (Results types) (Invocation frame ∷ stack) h = (awaits_room types frame h.0, beneath_room (Results (result_types files frame.method)) stack h.1)
  beneath_room Instruction (Invocation frame ∷ stack) h = (ready_room frame h.0, beneath_room (Results (result_types files frame.method)) stack h.1)
  beneath_room above (Initialisation class phase ∷ stack) h = beneath_room Instruction stack h

  failing_room : (exception : ℕ) (stack : StackOf Value) → Failing files os stack
      → AreInRoom files (in_use (Some exception) (stack_words stack))
  failing_room exception [] h = tt
  failing_room exception (Invocation frame ∷ stack) h = beneath_room (Results (result_types files frame.method)) stack h.1
  failing_room exception (Initialisation class phase ∷ stack) h = beneath_room Instruction stack h

  -- nothing is pending
  idle_room : (pending : Option ℕ) (stack : StackOf Value) → pending ≡ None → AreInRoom files (stack_words stack)
      → AreInRoom files (in_use pending (stack_words stack))
  idle_room None stack e h = h
  idle_room (Some exception) stack e h = absurd cc

  stack_room : (pending : Option ℕ) (stack : StackOf Value) (status : ThreadStatus) → IsStackTyped files os pending stack status
      → has_ended status ≡ false → AreInRoom files (in_use pending (stack_words stack))
  stack_room None stack Running h e = beneath_room Instruction stack h
  stack_room (Some exception) stack Running h e = failing_room exception stack h.1
  stack_room pending stack (Waiting object count) h e = idle_room pending stack h.0 (beneath_room (Results []) stack h.1.1)
  stack_room pending stack (Relock object count cause) h e = idle_room pending stack h.0 (beneath_room (Results []) stack h.1.1)
  stack_room pending stack (Ended exception) h e = absurd (true≢false e)

pub have_room : AreStacksInRoom
have_room files words h t thread stack e s w =
    let f = found_words files h.0 h.1.typed t thread stack (subst (λ (x : StateOf ℕ). slice_get x.world.threads t ≡ Some thread) h.1.are e) (subst (λ (x : StateOf ℕ). slice_get x.stacks t ≡ Some stack) h.1.are s) in
    subst (λ (l : StackOf ℕ). AreInRoom files (in_use thread.pending l)) f.is (stack_room files (types_of h.0.world.heap) thread.pending f.found thread.status f.typed w)
