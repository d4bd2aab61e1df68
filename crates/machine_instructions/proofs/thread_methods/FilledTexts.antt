-- A call by which a String gets its text.
use Rattle.std.proofs.Common.{◌≡◌, ◌<◌, ◌≤◌, ◌+◌, ◌-◌, ℕ, zero, suc, List, [], ◌∷◌, Result, Ok, Err, true, length, take, drop, refl, sym, ap, subst, inl, arith, ◌∙◌}
use Rattle.std.specs.Result.{IsErrAnd}
use Rattle.std.specs.Prelude.{slice_index_or, unwrap_or}
use Rattle.model.specs.Classes.{Program}
use Rattle.model.specs.LimitStands.{Bounds, opening_count}
use Rattle.model.specs.Operands.{words, word_reference}
use Rattle.model.specs.Outcomes.{Fills}
use Rattle.model.specs.Sites.{object_of}
use Rattle.model.specs.State as model
use Rattle.model.specs.State.{FrameOf, StackOf, WorldOf, StateOf}
use Rattle.model.specs.Step.{SteppedOf, PartOf, part, become}
use Rattle.model.specs.TextMethods.{with_text_at}
use Rattle.model.specs.Texts.{Text}
use Rattle.heap.specs.declared.refusal.AllocRefusal.{AllocRefusal}
use Rattle.heap.specs.Heap.{Heap, IsNotExtended}
use Rattle.linked_code.specs.declared.method.BuiltInMethod.{BuiltInMethod}
use Rattle.linked_code.specs.declared.program.LinkedProgram.{LinkedProgram}
use Rattle.thread_stacks.specs.Stacks.{ShownEntry, on_top}
use Rattle.machine_state.specs.shown_objects.Shown.{AreUnits}
use Rattle.machine_state.specs.shown_stacks.Shown.{ShowsStack}
use Rattle.machine_state.specs.allocations.Filled.{IsFilled, filled}
use Rattle.machine_state.specs.declared.answers.Effect.{Effect}
use Rattle.machine_state.specs.declared.answers.Effect.TheVariants as effect
use Rattle.machine_state.specs.declared.refusals.EventRefusal.{EventRefusal}
use Rattle.machine_state.specs.declared.refusals.EventRefusal.TheVariants as refusal
use Rattle.machine_state.specs.declared.state.Shared.{Shared}
use Rattle.machine_state.specs.Events.{MayBeRefused}
use Rattle.machine_state.specs.Refusals.{of_heap}
use Rattle.machine_state.specs.Instructions.{Does}
use Rattle.machine_state.proofs.allocations.Filling.{are_filled, fills_refused}
use Rattle.machine_instructions.specs.thread_methods.Called.{IsCalling}
use Rattle.machine_instructions.specs.thread_methods.Moves.{operand_of, went_on}
use Rattle.machine_instructions.specs.thread_methods.TextWrites.{becomes_text}
use Rattle.machine_instructions.proofs.thread_methods.Calls.{gone_on, operand_is, refused, went}
use Rattle.machine_instructions.proofs.thread_methods.StringCalls.{taken}

-- the object of a word, as the definitions and as the code read it
pub object_by : (word : ℕ) → unwrap_or (word_reference word) 0 ≡ word - 1
object_by zero = omega arith
object_by (suc r) = omega arith

module _ (trees : Program) (p : LinkedProgram) (bounds : Bounds) (inflated : List ℕ) (t : ℕ) (old : Shared) (from : List ShownEntry)
    (state : StateOf ℕ) (frame : FrameOf ℕ) (rest : StackOf ℕ) (called : BuiltInMethod) (count next offset : ℕ)
    (is : IsCalling trees p bounds inflated t old from state frame rest called count next offset) (frames under : ℕ) (text : Text) (units : AreUnits text)
    (there : under < length (take count frame.place.slots.stack)) where
  abbrev world : WorldOf ℕ
  world = state.world

  abbrev ops : List ℕ
  ops = take count frame.place.slots.stack

  abbrev pub event : SteppedOf (PartOf ℕ)
  event = become words trees frames t world frame rest (becomes_text trees world frame under text count offset)

  abbrev pub DoesBy : Result Effect EventRefusal → (new : Shared) → (to : List ShownEntry) → Type 0
  DoesBy result new to = Does trees p bounds inflated t world (model.Invocation frame ∷ rest) event result old new from to

  pub object_is : operand_of under from - 1 ≡ object_of words ops under
  object_is =
      ap (λ w. w - 1) (operand_is trees p bounds inflated t old from state frame rest called count next offset is under ∙ sym (taken count frame.place.slots.stack under there))
      ∙ sym (object_by (slice_index_or ops under 0))

  abbrev own : StackOf ℕ
  own = gone_on trees p bounds inflated t old from state frame rest called count next offset is []

  abbrev after : PartOf ℕ
  after = part (with_text_at (opening_count trees) world (object_of words ops under) text) own

  pub done : (object : ℕ) → object ≡ operand_of under from - 1 → (heap : Heap) → heap ≡ filled old.heap object text
      → old.heap.counted + length text ≤ old.heap.cell_limit
      → (to : List ShownEntry) → to ≡ on_top (went_on count [] next) from → DoesBy (Ok effect.Done) (record old { heap = heap }) to
  done object is_object heap is_heap cells to is_to =
      record {
        cost = Fills (length text);
        next = after;
        is = refl;
        becomes = record {
          within = is_filled.within;
          there = tt;
          represents = is_filled.represents;
          stack = subst (λ s. ShowsStack trees p s own) (sym is_to) (went trees p bounds inflated t old from state frame rest called count next offset is []);
          flags = is_filled.flags;
          others = inl (record { stacks = refl; threads = refl });
        };
      }
    where
      is_filled : IsFilled trees p bounds inflated world (object_of words ops under) text old (record old { heap = heap })
      is_filled =
          are_filled trees p bounds inflated world old (record old { heap = heap }) is.program is.lent.represents (object_of words ops under) text units cells
          (ap (λ h. record old { heap = h }) (is_heap ∙ ap (λ o. filled old.heap o text) (is_object ∙ object_is)))

  -- the heap refuses
  pub undone : (why : AllocRefusal) (heap : Heap) → IsNotExtended why (length text) old.heap heap → (result : Result Effect EventRefusal)
      → IsErrAnd result (λ told. told ≡ of_heap why) → DoesBy result (record old { heap = heap }) from
  undone why heap told result h =
      let both : MayBeRefused trees bounds inflated world (Fills (length text)) true (of_heap why) × (heap ≡ old.heap) =
      fills_refused trees p bounds inflated world old (record old { heap = heap }) is.lent.represents (length text) why told in
      refused trees p bounds inflated t old from state frame rest called count next offset is (record old { heap = heap }) event (Fills (length text)) after
      refl (of_heap why) both.0 (ap (λ h. record old { heap = h }) both.1) result h

  -- there was no memory for its units
  pub lacks : (result : Result Effect EventRefusal) → IsErrAnd result (λ told. told ≡ refusal.Memory) → DoesBy result old from
  lacks result told =
      refused trees p bounds inflated t old from state frame rest called count next offset is old event (Fills (length text)) after
      refl refusal.Memory refl refl result told
