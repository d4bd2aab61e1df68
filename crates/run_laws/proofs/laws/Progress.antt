-- In a well-typed state every thread that is to do an instruction finds it, and its operands.
use Rattle.std.proofs.Common.{◌≡◌, ℕ, zero, suc, List, [], ◌∷◌, Bool, true, false, not, ◌&&◌, Option, Some, None, refl, sym, ap, subst}
use Rattle.std.specs.Prelude.{slice_get, if◌then◌else◌}
use Rattle.std.specs.Option.{option_and_then, option_map}
use Rattle.std.proofs.lemmas.Bool.{and_parts}
use Rattle.model.specs.declared.value.Value.{Value}
use Rattle.model.specs.Classes.{Program, Body}
use Rattle.model.specs.Instruction.{Sized, sized_at}
use Rattle.model.specs.ReferenceTypes.{ReferenceType}
use Rattle.model.specs.Types.{type_meets}
use Rattle.model.specs.Operands.{values, over_types, is_ready}
use Rattle.model.specs.TypeOrder.{FrameType}
use Rattle.model.specs.State.{types_of, Frame, ThreadStatus, Running, Waiting, Relock, Ended, Thread, Invocation, Initialisation, StackOf, State}
use Rattle.model.specs.Sites.{MeaningOf, site_with}
use Rattle.model.specs.Meanings.{meaning_of}
use Rattle.model.specs.Typing.{may_stand, flow_by, flow_at}
use Rattle.model.specs.WrongKind.{finds_operands, finds_in, finds, is_wrong_on, is_wrong_by, is_wrong_of, has_wrong_kind}
use Rattle.model.specs.WellTyped.{Ready, IsRunning, IsStackTyped, AreThreadsTyped, IsWellTyped}
use Rattle.run_laws.specs.laws.Steps.{Rooted, AreTyped}
use Rattle.run_laws.proofs.laws.Rows.{ready_both, slots_of}

-- a branch that was taken
taken : (test : Bool) (xs leads : List (ℕ × FrameType)) → (if test then Some xs else None) ≡ Some leads → test ≡ true
taken true xs leads h = refl
taken false xs leads h = absurd cc

module _ (files : Program) (rooted : Rooted files) (os : List ReferenceType) where
  finds_by : (f : Frame) (body : Body) (t : FrameType) (leads : List (ℕ × FrameType)) (z : Sized) (o : Option (MeaningOf Value))
      → AreTyped files os t.slots f.place.slots → flow_by files (site_with f.method body f.place.offset z) t o ≡ Some leads
      → finds_operands files os body.code.max_stack f o ≡ true
  finds_by f body t leads z None typed h = absurd cc
  finds_by f body t leads z (Some meaning) typed h =
      let test = taken (may_stand (site_with f.method body f.place.offset z) t (site_with f.method body f.place.offset z).instr && is_ready (type_meets files) over_types meaning.wants body.code.max_stack t.slots) _ leads h in
      ready_both files rooted os meaning.wants body.code.max_stack t.slots f.place.slots (slots_of files os t.slots f.place.slots typed) (and_parts _ _ test).1

  finds_sized : (f : Frame) (body : Body) (t : FrameType) (leads : List (ℕ × FrameType)) (o : Option Sized)
      → AreTyped files os t.slots f.place.slots → flow_at files t (option_map (site_with f.method body f.place.offset) o) ≡ Some leads
      → finds_operands files os body.code.max_stack
      f (option_and_then (meaning_of values files) (option_map (site_with f.method body f.place.offset) o)) ≡ true
  finds_sized f body t leads None typed h = absurd cc
  finds_sized f body t leads (Some z) typed h = finds_by f body t leads z (meaning_of values files (site_with f.method body f.place.offset z)) typed h

  -- a frame that is ready finds its instruction and operands
  pub ready_finds : (f : Frame) → Ready files os f → finds files os f ≡ true
  ready_finds f h =
      let stands = h.stopped.stands in
      let rule = stands.holds.agrees f.place.offset stands.type stands.typed in
      subst (λ o. finds_in files os f o ≡ true) (sym stands.is_body)
      (finds_sized f stands.body stands.type rule.leads (sized_at stands.body.code.code f.place.offset) (record { locals = h.stopped.locals; stack = h.stack }) rule.flows)

  right_on : (pending : Option ℕ) (stack : StackOf Value) → IsRunning files os pending stack → is_wrong_on files os pending stack ≡ false
  right_on None [] h = refl
  right_on (Some exception) [] h = refl
  right_on None (Invocation f ∷ stack) h = ap not (ready_finds f h.0)
  right_on (Some exception) (Invocation f ∷ stack) h = refl
  right_on None (Initialisation class phase ∷ stack) h = refl
  right_on (Some exception) (Initialisation class phase ∷ stack) h = refl

  right_by : (pending : Option ℕ) (stack : StackOf Value) (status : ThreadStatus) → IsStackTyped files os pending stack status
      → is_wrong_by files os pending stack status ≡ false
  right_by pending stack Running h = right_on pending stack h
  right_by pending stack (Waiting object count) h = refl
  right_by pending stack (Relock object count cause) h = refl
  right_by pending stack (Ended exception) h = refl

  right_of : (threads : List Thread) (stacks : List (StackOf Value)) → AreThreadsTyped files os threads stacks → (t : ℕ)
      → is_wrong_of files os (slice_get threads t) (slice_get stacks t) ≡ false
  right_of [] stacks h t = refl
  right_of (thread ∷ threads) [] h t = absurd h
  right_of (thread ∷ threads) (stack ∷ stacks) h zero = right_by thread.pending stack thread.status h.0.stack_typed
  right_of (thread ∷ threads) (stack ∷ stacks) h (suc t) = right_of threads stacks h.1 t

-- a well-typed state has no wrong kind
pub well_typed_right : (files : Program) → Rooted files → (state : State) → IsWellTyped files state → (t : ℕ)
    → has_wrong_kind files state t ≡ false
well_typed_right files rooted state h t =
    right_of files rooted (types_of state.world.heap) state.world.threads state.stacks h.threads t
