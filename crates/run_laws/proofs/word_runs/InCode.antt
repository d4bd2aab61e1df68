-- The frames of a well-typed state stand at instructions, inside the code of their methods.
use Rattle.std.proofs.Common.{◌≡◌, ℕ, zero, suc, List, [], ◌∷◌, false, option_map, Option, Some, None, refl, sym, ◌∙◌, subst}
use Rattle.std.specs.Prelude.{slice_get, slice_index_or}
use Rattle.std.proofs.lemmas.Bool.{true≢false}
use Rattle.std.proofs.lemmas.Option.{slice_get-map}
use Rattle.std.proofs.lemmas.List.{length-map}
use Rattle.model.specs.declared.value.Value.{Value}
use Rattle.model.specs.Classes.{Program}
use Rattle.model.proofs.StartLaws.{start_within}
use Rattle.model.specs.ReferenceTypes.{ReferenceType}
use Rattle.model.specs.Calls.{result_types}
use Rattle.model.specs.Operands.{word_of}
use Rattle.model.specs.State.{types_of, Frame, Invocation, Initialisation, StackOf, Thread, ThreadStatus, Running, Waiting, Relock, Ended, State, StateOf}
use Rattle.model.specs.Worlds.{no_thread, has_ended}
use Rattle.model.specs.WellTyped.{has_type, Stopped, Above, Results, Instruction, Beneath, Failing, IsRunning, IsStackTyped, IsThreadTyped, IsWellTyped}
use Rattle.model.specs.Words.{map_frame, words_of}
use Rattle.run_laws.specs.word_runs.Words.{StandsInCode, AreInCode, IsInCode}
use Rattle.run_laws.proofs.laws.Lists.{pairs_of, pair_length}
use Rattle.run_laws.proofs.word_runs.WordEvents.{stack_words}
use Rattle.run_laws.proofs.laws.Answered.{thread_of_stack}

module _ (files : Program) (os : List ReferenceType) where
  stopped_in_code : (frame : Frame) → Stopped files os frame → StandsInCode files (map_frame word_of frame)
  stopped_in_code frame h =
      let stands = h.stands in
      let starts = stands.holds.starts frame.place.offset stands.type stands.typed in
      let types = stands.type.slots.locals in
      record {
        body = stands.body;
        is_body = stands.is_body;
        starts = starts;
        inside = start_within stands.body.code.code frame.place.offset starts;
        locals =
            length-map frame.place.slots.locals word_of
            ∙ (sym (pair_length (has_type files os) types frame.place.slots.locals (pairs_of (has_type files os) types frame.place.slots.locals h.locals))
            ∙ (stands.holds.sized frame.place.offset stands.type stands.typed).locals);
      }

  beneath_in_code : (above : Above) (stack : StackOf Value) → Beneath files os above stack → AreInCode files (stack_words stack)
  beneath_in_code above [] h = tt
  beneath_in_code (Results types) (Invocation frame ∷ stack) h =
      (stopped_in_code frame h.0.stopped, beneath_in_code (Results (result_types files frame.method)) stack h.1)
  beneath_in_code Instruction (Invocation frame ∷ stack) h =
      (stopped_in_code frame h.0.stopped, beneath_in_code (Results (result_types files frame.method)) stack h.1)
  beneath_in_code above (Initialisation class phase ∷ stack) h = beneath_in_code Instruction stack h

  failing_in_code : (stack : StackOf Value) → Failing files os stack → AreInCode files (stack_words stack)
  failing_in_code [] h = tt
  failing_in_code (Invocation frame ∷ stack) h = (stopped_in_code frame h.0, beneath_in_code (Results (result_types files frame.method)) stack h.1)
  failing_in_code (Initialisation class phase ∷ stack) h = beneath_in_code Instruction stack h

  running_in_code : (pending : Option ℕ) (stack : StackOf Value) → IsRunning files os pending stack → AreInCode files (stack_words stack)
  running_in_code None stack h = beneath_in_code Instruction stack h
  running_in_code (Some exception) stack h = failing_in_code stack h.1

  stack_in_code : (pending : Option ℕ) (stack : StackOf Value) (status : ThreadStatus) → IsStackTyped files os pending stack status
      → has_ended status ≡ false → AreInCode files (stack_words stack)
  stack_in_code pending stack Running h e = running_in_code pending stack h
  stack_in_code pending stack (Waiting object count) h e = beneath_in_code (Results []) stack h.1.1
  stack_in_code pending stack (Relock object count cause) h e = beneath_in_code (Results []) stack h.1.1
  stack_in_code pending stack (Ended exception) h e = absurd (true≢false e)

-- a thread that is there is the one of its number
there_is : (threads : List Thread) (t : ℕ) (thread : Thread) → slice_get threads t ≡ Some thread
    → slice_index_or threads t no_thread ≡ thread
there_is [] t thread e = absurd cc
there_is (x ∷ threads) zero thread e = cc
there_is (x ∷ threads) (suc t) thread e = there_is threads t thread e

no_stack : (o : Option (StackOf Value)) (stack : StackOf ℕ) → o ≡ None → option_map stack_words o ≡ Some stack → ⊥
no_stack None stack e s = none_is_some stack s
  where
    none_is_some : (x : StackOf ℕ) → None ≡ Some x → ⊥
    none_is_some x q = absurd cc
no_stack (Some found) stack e s = absurd cc

-- words of a stack are those of one that is typed as its thread says
pub record Found (files : Program) (state : State) (thread : Thread) (stack : StackOf ℕ) : Type 0 where
  pub found : StackOf Value
  pub is : stack_words found ≡ stack
  pub typed : IsStackTyped files (types_of state.world.heap) thread.pending found thread.status

found_by : (files : Program) (state : State) → IsWellTyped files state → (t : ℕ) (thread : Thread) (stack : StackOf ℕ)
    → slice_get state.world.threads t ≡ Some thread → (o : Option (StackOf Value)) → slice_get state.stacks t ≡ o
    → option_map stack_words o ≡ Some stack → Found files state thread stack
found_by files state h t thread stack e None q s = absurd (no_stack None stack refl s)
found_by files state h t thread stack e (Some found) q s =
    let os = types_of state.world.heap in
    let typed = subst (λ (x : Thread). IsThreadTyped files os x found) (there_is state.world.threads t thread e) (thread_of_stack files os state.world.threads state.stacks t found h.threads q) in
    record { found = found; is = cc; typed = typed.stack_typed }

pub found_words : (files : Program) (state : State) → IsWellTyped files state → (t : ℕ) (thread : Thread) (stack : StackOf ℕ)
    → slice_get state.world.threads t ≡ Some thread → slice_get (words_of state).stacks t ≡ Some stack → Found files state thread stack
found_words files state h t thread stack e s = found_by files state h t thread stack e (slice_get state.stacks t) refl (sym (slice_get-map stack_words state.stacks t) ∙ s)

pub in_code : IsInCode
in_code files words h t thread stack e s w =
    let f = found_words files h.0 h.1.typed t thread stack (subst (λ (x : StateOf ℕ). slice_get x.world.threads t ≡ Some thread) h.1.are e) (subst (λ (x : StateOf ℕ). slice_get x.stacks t ≡ Some stack) h.1.are s) in
    subst (AreInCode files) f.is (stack_in_code files (types_of h.0.world.heap) thread.pending f.found thread.status f.typed w)
