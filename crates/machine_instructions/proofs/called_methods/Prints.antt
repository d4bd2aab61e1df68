-- A call of println.
use Rattle.std.proofs.Common.{◌≡◌, ◌<◌, ◌≤◌, ◌+◌, ◌==◌, ℕ, List, [], ◌∷◌, length, take, drop, true, Option, Some, None, Ok, refl, sym, ap, subst, ◌∙◌, arith}
use Rattle.std.specs.Prelude.{slice_index_or, is_some}
use Rattle.model.specs.declared.print_method.PrintMethod.TheVariants.{PrintlnInt}
use Rattle.model.specs.Classes.{Program}
use Rattle.model.specs.LimitStands.{Bounds}
use Rattle.model.specs.Operands.{words, word_reference}
use Rattle.model.specs.Outcomes.{not_null}
use Rattle.model.specs.Texts.{int_line}
use Rattle.model.specs.BuiltInMethods.{with_printed}
use Rattle.model.specs.Sites.{MeaningOf, Site, pushing, int_operand}
use Rattle.model.specs.Meanings.{println_meaning}
use Rattle.model.specs.State as model
use Rattle.model.specs.State.{FrameOf, StackOf, StateOf}
use Rattle.model.specs.Step.{SteppedOf, PartOf, enabled_if, become}
use Rattle.linked_code.specs.declared.instruction.LinkedInstruction.TheVariants as linked
use Rattle.linked_code.specs.declared.method.BuiltInMethod.TheVariants as method
use Rattle.linked_code.specs.declared.method.LinkedCode.{LinkedCode}
use Rattle.linked_code.specs.declared.program.LinkedProgram.{LinkedProgram}
use Rattle.linked_code.specs.Linked.{offset_in}
use Rattle.thread_stacks.specs.Stacks.{ShownEntry}
use Rattle.machine_state.specs.shown_stacks.Shown.{offset_at}
use Rattle.machine_state.specs.declared.answers.MachineException.TheVariants as exception
use Rattle.machine_state.specs.declared.answers.Effect.{Effect}
use Rattle.machine_state.specs.declared.state.Shared.{Shared}
use Rattle.machine_state.specs.Instructions.{Does, instruction_event}
use Rattle.machine_state.specs.linked_frames.Frames.{IsRunning}
use Rattle.machine_state.proofs.linked_frames.Frames.{finds, meaning_is, event_is, offset_is}
use Rattle.machine_instructions.specs.thread_methods.Called.{IsCalling, call_event}
use Rattle.machine_instructions.specs.called_methods.Frames.{object_under, IsPlaceBehind, raised_by}
use Rattle.machine_instructions.proofs.called_methods.Calling.{place_within, under_is}
use Rattle.machine_instructions.proofs.called_methods.RunMethods.{raises}

second_taken : (xs : List ℕ) → slice_index_or (take 2 xs) 1 0 ≡ slice_index_or xs 1 0
second_taken [] = refl
second_taken (x ∷ []) = refl
second_taken (x ∷ y ∷ xs) = refl

some_taken : (xs : List ℕ) → 2 ≤ length xs → 0 < length (take 2 xs)
some_taken [] h = absurd (omega (arith, h))
some_taken (x ∷ xs) h = omega arith

some_of : (o : Option ℕ) → is_some o ≡ true → (r : ℕ) × (o ≡ Some r)
some_of None h = absurd cc
some_of (Some r) h = (r, refl)

module _ (trees : Program) (p : LinkedProgram) (bounds : Bounds) (inflated : List ℕ) (t : ℕ) (old : Shared) (from : List ShownEntry)
    (state : StateOf ℕ) (frame : FrameOf ℕ) (rest : StackOf ℕ) (code : LinkedCode) (site : Site) (meaning : MeaningOf ℕ)
    (is : IsRunning trees p bounds inflated t old from state frame rest code site meaning linked.Println) where
  abbrev pub behind : ℕ
  behind = offset_in code.starts.items (is.shown.place + 1)

  abbrev stack : List ℕ
  stack = frame.place.slots.stack

  next_is : (next : ℕ) → IsPlaceBehind from next → next ≡ is.shown.place + 1
  next_is next h = subst (λ s. IsPlaceBehind s next) is.is_stack h (place_within trees p bounds inflated t old from state frame rest code site meaning linked.Println is)

  pub calling : (next : ℕ) → IsPlaceBehind from next
      → IsCalling trees p bounds inflated t old from state frame rest (method.PrintStreamPrints PrintlnInt) 2 next behind
  calling next h =
      record {
        program = is.program;
        lent = is.lent;
        shown = is.shown;
        others = is.others;
        is_stack = is.is_stack;
        goes_on = ap (λ n. offset_at p is.shown.method n) (next_is next h) ∙ offset_is trees p bounds inflated t old from state frame rest code site meaning linked.Println is (is.shown.place + 1);
        arguments = some_taken stack
            (subst (λ (m : MeaningOf ℕ). length m.wants.pops ≤ length stack) (meaning_is trees p bounds inflated t old from state frame rest code site meaning linked.Println is (println_meaning words behind) is.stands.linked)
            (finds trees p bounds inflated t old from state frame rest code site meaning linked.Println is).pops);
      }

  abbrev event_with : (frames pick : ℕ) → Option ℕ → SteppedOf (PartOf ℕ)
  event_with frames pick o =
      enabled_if (pick == 0)
      (become words trees frames t state.world frame rest
      (not_null o (λ r. pushing behind [] (with_printed state.world (int_line (int_operand words (take 2 stack) 0))) frame.place.slots (drop 2 stack))))

  printing_event : (frames pick : ℕ) → instruction_event trees frames (record { thread = t; pick = pick }) state.world frame rest meaning
      ≡ event_with frames pick (object_under 1 from)
  printing_event frames pick =
      event_is trees p bounds inflated t old from state frame rest code site meaning linked.Println is frames (record { thread = t; pick = pick }) (println_meaning words behind) is.stands.linked
      ∙ ap (event_with frames pick) (ap word_reference (second_taken stack) ∙ sym (under_is trees p bounds inflated t old from state frame rest code site meaning linked.Println is 1))

  pub prints : (frames pick : ℕ) (found : Option ℕ) → found ≡ object_under 1 from → is_some found ≡ true
      → instruction_event trees frames (record { thread = t; pick = pick }) state.world frame rest meaning
      ≡ call_event trees frames (record { thread = t; pick = pick }) state.world frame rest (method.PrintStreamPrints PrintlnInt) 2 behind
  prints frames pick found e some =
      let r = some_of found some in
      printing_event frames pick ∙ ap (event_with frames pick) (sym e ∙ r.1)

  pub null_prints : (frames pick : ℕ) → None ≡ object_under 1 from → (told : Effect) → told ≡ raised_by pick exception.NullPointer
      → Does trees p bounds inflated t state.world (model.Invocation frame
      ∷ rest) (instruction_event trees frames (record { thread = t; pick = pick }) state.world frame rest meaning) (Ok told) old old from
      from
  null_prints frames pick none told is_told =
      subst (λ (s : SteppedOf (PartOf ℕ)). Does trees p bounds inflated t state.world (model.Invocation frame ∷ rest) s (Ok told) old old from from)
      (sym (printing_event frames pick ∙ ap (event_with frames pick) (sym none)))
      (raises trees p bounds inflated t pick state.world (model.Invocation frame ∷ rest) exception.NullPointer told is_told old from)
