-- A call that makes a String of a text.
use Rattle.std.proofs.Common.{◌≡◌, ◌<◌, ◌≤◌, ◌+◌, ◌^◌, ℕ, suc, List, [], ◌∷◌, Result, Ok, Err, true, length, length-append, take, drop, refl, sym, ap, subst, inl, arith, ◌∙◌}
use Rattle.std.specs.Result.{IsErrAnd}
use Rattle.model.specs.Classes.{Program}
use Rattle.model.specs.LimitStands.{Bounds}
use Rattle.model.specs.Operands.{words}
use Rattle.model.specs.Outcomes.{Makes}
use Rattle.model.specs.State as model
use Rattle.model.specs.State.{Characters, FrameOf, StackOf, WorldOf, StateOf}
use Rattle.model.specs.Step.{SteppedOf, PartOf, part, become}
use Rattle.model.specs.Texts.{Text}
use Rattle.model.specs.Worlds.{allocated}
use Rattle.heap.specs.declared.refusal.AllocRefusal.{AllocRefusal}
use Rattle.heap.specs.Heap.{Heap, made, with_object, IsRefused as IsHeapRefused}
use Rattle.linked_code.specs.declared.program.LinkedProgram.{LinkedProgram}
use Rattle.thread_stacks.specs.Stacks.{ShownEntry, on_top}
use Rattle.machine_state.specs.shown_stacks.Shown.{ShowsFrame, ShowsStack}
use Rattle.machine_state.specs.allocations.Allocated.{IsMade, string_of}
use Rattle.machine_state.specs.declared.answers.Effect.{Effect}
use Rattle.machine_state.specs.declared.answers.Effect.TheVariants as effect
use Rattle.machine_state.specs.declared.refusals.EventRefusal.{EventRefusal}
use Rattle.machine_state.specs.declared.refusals.EventRefusal.TheVariants as refusal
use Rattle.machine_state.specs.declared.state.Shared.{Shared}
use Rattle.machine_state.specs.Events.{MayBeRefused}
use Rattle.machine_state.specs.Refusals.{of_heap}
use Rattle.machine_state.specs.Instructions.{Does}
use Rattle.machine_state.proofs.allocations.Allocating.{texts_made, refused as heap_refused}
use Rattle.linked_code.specs.declared.method.BuiltInMethod.{BuiltInMethod}
use Rattle.machine_state.specs.shown_objects.Shown.{AreUnits}
use Rattle.machine_instructions.specs.thread_methods.Called.{IsCalling}
use Rattle.machine_instructions.specs.thread_methods.NewTexts.{composes}
use Rattle.machine_instructions.proofs.thread_methods.StringCalls.{no_growth}
use Rattle.machine_instructions.specs.thread_methods.Moves.{went_on, Grows, Answers as AnswersBy}
use Rattle.machine_instructions.proofs.thread_methods.Calls.{gone_on, went, refused}

module _ (trees : Program) (p : LinkedProgram) (bounds : Bounds) (inflated : List ℕ) (t : ℕ) (old : Shared) (from : List ShownEntry)
    (state : StateOf ℕ) (frame : FrameOf ℕ) (rest : StackOf ℕ) (called : BuiltInMethod) (count next offset : ℕ)
    (is : IsCalling trees p bounds inflated t old from state frame rest called count next offset) (frames : ℕ) (text : Text) (units : AreUnits text)
    (some : 0 < length (take count frame.place.slots.stack)) where
  abbrev world : WorldOf ℕ
  world = state.world

  abbrev pub event : SteppedOf (PartOf ℕ)
  event = become words trees frames t world frame rest (composes world frame text count offset)

  abbrev pub DoesBy : Result Effect EventRefusal → (new : Shared) → (to : List ShownEntry) → Type 0
  DoesBy result new to = Does trees p bounds inflated t world (model.Invocation frame ∷ rest) event result old new from to

  shows : ShowsFrame trees p is.shown frame × ShowsStack trees p is.others rest
  shows = subst (λ s. ShowsStack trees p s (model.Invocation frame ∷ rest)) is.is_stack is.lent.shows_stack

  -- its word has room
  stays_low : Grows count from → ⊥
  stays_low grows =
      no_growth count frame.place.slots.stack some
      (subst (λ ops. length ops < suc (length (drop count ops))) (sym shows.0.operands) (subst (Grows count) is.is_stack grows))

  abbrev after : StackOf ℕ → PartOf ℕ
  after own = part (allocated world (Characters text)) own

  module _ (heap : Heap) where
    abbrev new : Shared
    new = record old { heap = heap }

    module _ (is_heap : heap ≡ with_object old.heap (string_of text) (length text)) (opened : old.heap.opening ≤ length old.heap.objects) (objects : made old.heap < old.heap.object_limit)
        (cells : old.heap.counted + length text ≤ old.heap.cell_limit)
        (word : ℕ) (is_word : word ≡ length heap.objects) (fits : word < 2 ^ 32) where
      counted : word ≡ length old.heap.objects + 1
      counted = is_word ∙ ap (λ (h : Heap). length h.objects) is_heap ∙ length-append old.heap.objects (string_of text ∷ [])

      is_made : IsMade trees p bounds inflated world (Characters text) (length old.heap.objects) (length text) old new
      is_made =
          texts_made trees p bounds inflated world old new is.lent.represents text units (omega (arith, counted, fits)) opened objects cells
          (ap (λ h. record old { heap = h }) is_heap)

      word_is : word ≡ suc (length world.heap)
      word_is = let same = is_made.next in omega (arith, counted, same)

      pub makes : (result : Result Effect EventRefusal) (to : List ShownEntry) → AnswersBy result count word next from to
          → DoesBy result new to
      makes (Ok effect.Done) to h =
          let results = suc (length world.heap) ∷ [] in
          let own = gone_on trees p bounds inflated t old from state frame rest called count next offset is results in
          let stack_is : to ≡ on_top (went_on count results next) from = h ∙ ap (λ w. on_top (went_on count (w ∷ []) next) from) word_is in
          record {
            cost = Makes (length text);
            next = after own;
            is = refl;
            becomes = record {
              within = is_made.within;
              there = tt;
              represents = is_made.represents;
              stack = subst (λ s. ShowsStack trees p s own) (sym stack_is) (went trees p bounds inflated t old from state frame rest called count next offset is results);
              flags = is_made.flags;
              others = inl (record { stacks = refl; threads = refl });
            };
          }
      makes (Ok (effect.Raises fault)) to h = absurd h
      makes (Ok (effect.Throws thrown)) to h = absurd h
      makes (Ok effect.Interrupts) to h = absurd h
      makes (Ok effect.NotEnabled) to h = absurd h
      makes (Err refusal.Objects) to h = absurd h
      makes (Err refusal.Cells) to h = absurd h
      makes (Err refusal.Monitors) to h = absurd h
      makes (Err refusal.Threads) to h = absurd h
      makes (Err refusal.LockCount) to h = absurd h
      makes (Err refusal.Memory) to h = absurd (stays_low h.1)

    abbrev own_made : StackOf ℕ
    own_made = gone_on trees p bounds inflated t old from state frame rest called count next offset is (suc (length world.heap) ∷ [])

    -- the heap refuses
    pub unmade : (why : AllocRefusal) → IsHeapRefused why (length text) old.heap heap → (result : Result Effect EventRefusal)
        → IsErrAnd result (λ told. told ≡ of_heap why) → DoesBy result new from
    unmade why told result h =
        let both : MayBeRefused trees bounds inflated world (Makes (length text)) true (of_heap why) × (heap ≡ old.heap) =
        heap_refused trees p bounds inflated world old new is.lent.represents (length text) why told
        in
        refused trees p bounds inflated t old from state frame rest called count next offset is new event (Makes (length text)) (after own_made)
        refl (of_heap why) both.0 (ap (λ h. record old { heap = h }) both.1) result h
