-- Tests of the types of objects by their words.
use Rattle.std.proofs.Common.{◌≡◌, ◌+◌, ◌≤◌, ℕ, suc, List, [], ◌∷◌, Some, Result, Ok, Bool, true, false, length, drop, refl, sym, ap, subst, arith, ◌∙◌}
use Rattle.std.specs.Prelude.{slice_index_or}
use Rattle.model.specs.Classes.{Program}
use Rattle.model.specs.LimitStands.{Bounds}
use Rattle.model.specs.Operands.{words, word_reference, is_word_of}
use Rattle.model.specs.Outcomes.{Free, Goes, Throws, not_null}
use Rattle.model.specs.Objects.{cast, check_cast_meaning, instance_bit, instance_of_meaning}
use Rattle.model.specs.ThrowMeaning.{throw_meaning}
use Rattle.model.specs.Sites.{MeaningOf, Site}
use Rattle.model.specs.Meanings.{meaning_of}
use Rattle.model.specs.State.{types_of, FrameOf, StackOf, StateOf}
use Rattle.model.specs.Step.{become}
use Rattle.linked_code.specs.declared.instruction.LinkedInstruction.{LinkedInstruction}
use Rattle.linked_code.specs.declared.method.LinkedCode.{LinkedCode}
use Rattle.linked_code.specs.declared.types.LinkedType.{LinkedType}
use Rattle.linked_code.specs.declared.program.LinkedProgram.{LinkedProgram}
use Rattle.linked_code.specs.Linked.{offset_in}
use Rattle.linked_code.specs.Objects.{IsCheckCast, IsInstanceOf}
use Rattle.linked_code.specs.Subtypes.{IsTested}
use Rattle.thread_stacks.specs.Stacks.{ShownFrame, ShownEntry, with_top}
use Rattle.machine_state.specs.declared.answers.Effect.{Effect}
use Rattle.machine_state.specs.declared.answers.Effect.TheVariants as effect
use Rattle.machine_state.specs.declared.answers.MachineException.TheVariants as exception
use Rattle.machine_state.specs.declared.refusals.EventRefusal.{EventRefusal}
use Rattle.machine_state.specs.declared.state.Shared.{Shared}
use Rattle.machine_state.specs.linked_frames.Frames.{IsRunning}
use Rattle.machine_instructions.specs.Leaving.{Leaves}
use Rattle.machine_instructions.specs.type_instructions.Words.{TestsWord, TestsInstance}
use Rattle.machine_instructions.proofs.type_instructions.Events.{IsEvent, DoesSo, slots_after, top_and_rest, operands_are, operand_is, operands_there, event_by, goes_on, done_free, does_own, stays}

module _ {trees : Program} {p : LinkedProgram} {bounds : Bounds} {inflated : List ℕ} {t : ℕ} {shared : Shared} {stack : List
    ShownEntry} {state : StateOf ℕ} {frame : FrameOf ℕ} {rest : StackOf ℕ} {code : LinkedCode} {site : Site} {meaning : MeaningOf
    ℕ} {instruction : LinkedInstruction} (is : IsRunning trees p bounds inflated t shared stack state frame rest code site meaning
    instruction) (frames : ℕ) (w : ℕ) (from : ShownFrame) (top : from ≡ is.shown) (read : w ≡ slice_index_or from.operands 0 0) where
  -- the operand on top is the word that was read
  word_is : slice_index_or frame.place.slots.stack 0 0 ≡ w
  word_is = ap (λ ss. slice_index_or ss 0 0) (operands_are is ∙ ap (λ (f : ShownFrame). f.operands) (sym top)) ∙ sym read

  -- ---- checkcast

  module _ (next : ℕ) (type : LinkedType) (check : IsCheckCast trees site next type) (tested : IsTested p.subclasses type) where
    cast_event : (answer : Bool) → TestsWord p shared.heap.objects w type answer
        → IsEvent is frames (become words trees frames t state.world frame
        rest (cast answer site.next w state.world frame.place.slots (drop 1 frame.place.slots.stack)))
    cast_event answer tests =
        event_by is frames (check_cast_meaning words trees site check.named) check.is refl _
        (ap (λ v. cast (is_word_of trees (types_of state.world.heap) check.named v) site.next v state.world frame.place.slots (drop 1 frame.place.slots.stack)) (operand_is is from top 1 0 (omega arith) w read)
        ∙ ap (λ b. cast b site.next w state.world frame.place.slots (drop 1 frame.place.slots.stack))
        (sym (tests is.program.files trees is.program.linkable is.program.linked tested state.world.heap check.named is.lent.represents.world_is.objects check.numbered)))

    pub not_cast : TestsWord p shared.heap.objects w type false
        → DoesSo is frames (Ok (effect.Raises exception.ClassCast)) shared (with_top from stack)
    not_cast tests = (cast_event false tests, stays is from top)

    pub casts : next ≡ offset_in code.starts.items (is.shown.place + 1) → TestsWord p shared.heap.objects w type true
        → (to : ShownFrame) (told : Effect) → Leaves (Ok told) 0 [] from to → DoesSo is frames (Ok told) shared (with_top to stack)
    casts behind tests to told left =
        let whole : w ∷ drop 1 frame.place.slots.stack ≡ frame.place.slots.stack =
        ap (λ v. v ∷ drop 1 frame.place.slots.stack) (sym word_is)
        ∙ top_and_rest frame.place.slots.stack (subst (λ ss. 1 ≤ length ss) (sym (operands_are is)) (operands_there is (check_cast_meaning words trees site check.named) check.is))
        in
        done_free is frames state.world shared 0 [] from to told left top
        (cast_event true tests
        ∙ ap (λ ss. become words trees frames t state.world frame rest (Goes Free state.world (record { locals = frame.place.slots.locals; stack = ss }) site.next)) whole
        ∙ goes_on is frames Free state.world 0 [] (check.to ∙ behind))
        is.lent.represents refl refl refl

  -- ---- instanceof

  pub instance : (next : ℕ) (type : LinkedType) → IsInstanceOf trees site next type → IsTested p.subclasses type
      → next ≡ offset_in code.starts.items (is.shown.place + 1)
      → (bit : ℕ) → TestsInstance p shared.heap.objects w type bit
      → (to : ShownFrame) (result : Result Effect EventRefusal) → Leaves result 1 (bit ∷ []) from to
      → DoesSo is frames result shared (with_top to stack)
  instance next type test tested behind bit tests to result left =
      does_own is frames 1 (bit ∷ []) from to result left top
      (event_by is frames (instance_of_meaning words trees site test.named) test.is refl (Goes Free state.world (slots_after is 1 (bit ∷ [])) site.next)
      (ap (λ v. Goes Free state.world (slots_after is 1 (instance_bit (word_reference v) (is_word_of trees (types_of state.world.heap) test.named v) ∷ [])) site.next) (operand_is is from top 1 0 (omega arith) w read)
      ∙ ap (λ b. Goes Free state.world (slots_after is 1 (b ∷ [])) site.next)
      (sym (tests is.program.files trees is.program.linkable is.program.linked tested state.world.heap test.named is.lent.represents.world_is.objects test.numbered)))
      ∙ goes_on is frames Free state.world 1 (bit ∷ []) (test.to ∙ behind))

-- ---- athrow

module _ {trees : Program} {p : LinkedProgram} {bounds : Bounds} {inflated : List ℕ} {t : ℕ} {shared : Shared} {stack : List
    ShownEntry} {state : StateOf ℕ} {frame : FrameOf ℕ} {rest : StackOf ℕ} {code : LinkedCode} {site : Site} {meaning : MeaningOf
    ℕ} {instruction : LinkedInstruction} (is : IsRunning trees p bounds inflated t shared stack state frame rest code site meaning
    instruction) where
  pub throws : (frames r : ℕ) (from : ShownFrame) → from ≡ is.shown → suc r ≡ slice_index_or from.operands 0 0
      → meaning_of words trees site ≡ Some (throw_meaning words)
      → IsEvent is frames (become words trees frames t state.world frame rest (Throws r))
  throws frames r from top read means =
      event_by is frames (throw_meaning words) means refl (Throws r) (ap (λ w. not_null (word_reference w) (λ x. Throws x)) (operand_is is from top 1 0 (omega arith) (suc r) read))
