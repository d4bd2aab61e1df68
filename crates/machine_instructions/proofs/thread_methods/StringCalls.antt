-- A call of a method of String: what its answer makes of the event.
use Rattle.std.proofs.Common.{◌≡◌, ◌<◌, ◌≤◌, ◌+◌, ◌-◌, ◌^◌, ℕ, zero, suc, List, [], ◌∷◌, Result, Ok, Err, true, length, length-append, length-drop, take, drop, refl, sym, ap, subst, inl, arith, ◌∙◌}
use Rattle.std.specs.Prelude.{slice_index_or}
use Rattle.std.specs.Result.{IsErrAnd}
use Rattle.std.specs.declared.alloc.AllocError.{AllocError}
use Rattle.model.specs.declared.string_method.StringMethod.{StringMethod}
use Rattle.model.specs.BuiltInMethods.{string_operand, answered}
use Rattle.model.specs.Classes.{Program}
use Rattle.model.specs.LimitStands.{Bounds}
use Rattle.model.specs.Operands.{words}
use Rattle.model.specs.Outcomes.{Makes}
use Rattle.model.specs.Sites.{int_operand}
use Rattle.model.specs.State as model
use Rattle.model.specs.State.{Characters, FrameOf, StackOf, WorldOf, StateOf}
use Rattle.model.specs.Step.{SteppedOf, PartOf, part, become}
use Rattle.model.specs.StringMethods.{StringAnswer, IsNull, IsOutside, Answers, Same, Composes, string_answer}
use Rattle.model.specs.Texts.{Text}
use Rattle.model.specs.Worlds.{allocated}
use Rattle.heap.specs.declared.refusal.AllocRefusal.{AllocRefusal}
use Rattle.heap.specs.Heap.{Heap, made, with_object, IsRefused as IsHeapRefused}
use Rattle.linked_code.specs.declared.method.BuiltInMethod.TheVariants as method
use Rattle.linked_code.specs.declared.program.LinkedProgram.{LinkedProgram}
use Rattle.string_methods.specs.Answers.{IsAnswer}
use Rattle.thread_stacks.specs.Stacks.{ShownEntry, on_top}
use Rattle.machine_state.specs.shown_stacks.Shown.{ShowsFrame, ShowsStack}
use Rattle.machine_state.specs.allocations.Allocated.{IsMade, string_of}
use Rattle.machine_state.specs.declared.answers.Effect.{Effect}
use Rattle.machine_state.specs.declared.answers.Effect.TheVariants as effect
use Rattle.machine_state.specs.declared.answers.MachineException.TheVariants as exception
use Rattle.machine_state.specs.declared.refusals.EventRefusal.{EventRefusal}
use Rattle.machine_state.specs.declared.refusals.EventRefusal.TheVariants as refusal
use Rattle.machine_state.specs.declared.state.Shared.{Shared}
use Rattle.machine_state.specs.Events.{MayBeRefused}
use Rattle.machine_state.specs.Refusals.{of_heap}
use Rattle.machine_state.specs.Instructions.{Does}
use Rattle.machine_state.proofs.allocations.Allocating.{texts_made, refused as heap_refused}
use Rattle.machine_instructions.specs.thread_methods.Called.{IsCalling, string_operands}
use Rattle.machine_instructions.specs.thread_methods.Moves.{operand_of, went_on, Grows, Answers as AnswersBy}
use Rattle.machine_instructions.specs.thread_methods.Texts.{text_by, answer_by}
use Rattle.machine_instructions.proofs.thread_methods.Calls.{operand_is, gone_on, went, answered as answered_by, refused}
use Rattle.machine_instructions.proofs.thread_methods.TextAnswers.{IsRight, same_answer, some_operands, right}
use Rattle.machine_instructions.proofs.thread_methods.ShownTexts.{text_is, units_are}

-- ---- operands

-- one that is taken is read where it is
pub taken : (count : ℕ) (ops : List ℕ) (k : ℕ) → k < length (take count ops) → slice_index_or (take count ops) k 0 ≡ slice_index_or ops k 0
taken zero ops k h = absurd (omega (arith, h))
taken (suc count) [] k h = refl
taken (suc count) (x ∷ ops) zero h = refl
taken (suc count) (x ∷ ops) (suc k) h = taken count ops k (omega (arith, h))

-- a stack of which some are taken doesn't grow by one
pub no_growth : (count : ℕ) (ops : List ℕ) → 0 < length (take count ops) → length ops < suc (length (drop count ops)) → ⊥
no_growth zero ops h more = absurd (omega (arith, h))
no_growth (suc count) [] h more = absurd (omega (arith, h))
no_growth (suc count) (x ∷ ops) h more =
    let left : length (drop count ops) ≡ length ops - count = length-drop count ops in absurd (omega (arith, left, more))

module _ (trees : Program) (p : LinkedProgram) (bounds : Bounds) (inflated : List ℕ) (t : ℕ) (old : Shared) (from : List ShownEntry)
    (state : StateOf ℕ) (frame : FrameOf ℕ) (rest : StackOf ℕ) (m : StringMethod) (count next offset : ℕ)
    (is : IsCalling trees p bounds inflated t old from state frame rest (method.StringAnswers m) count next offset) (frames : ℕ) where
  abbrev world : WorldOf ℕ
  world = state.world

  abbrev ops : List ℕ
  ops = take count frame.place.slots.stack

  -- what is wanted
  abbrev pub wanted : StringAnswer
  wanted = string_answer m (int_operand words ops) (string_operand words world ops)

  read : (k : ℕ) → k < string_operands m → operand_of k from ≡ slice_index_or ops k 0
  read k h =
      operand_is trees p bounds inflated t old from state frame rest (method.StringAnswers m) count next offset is k
      ∙ sym (taken count frame.place.slots.stack k (omega (arith, h, is.arguments)))

  text_read : (k : ℕ) → k < string_operands m → text_by old.heap.objects (operand_of k from) ≡ string_operand words world ops k
  text_read k h =
      ap (text_by old.heap.objects) (read k h)
      ∙ text_is is.program.files trees is.program.linkable p.components.items old.heap.objects world is.lent.represents.world_is.objects ops k

  -- it is what the operands on top tell
  pub wanted_is : answer_by m old.heap.objects from ≡ wanted
  wanted_is =
      same_answer m (λ k. operand_of k from) (int_operand words ops) (λ k. text_by old.heap.objects (operand_of k from)) (string_operand words world ops) read text_read

  is_right : IsRight (string_operands m) wanted
  is_right =
      right m (int_operand words ops) (string_operand words world ops)
      (units_are is.program.files trees is.program.linkable p.components.items old.heap.objects world is.lent.represents.world_is.objects ops)

  -- ---- the event

  abbrev pub event : StringAnswer → SteppedOf (PartOf ℕ)
  event answer = become words trees frames t world frame rest (answered words answer offset world frame.place.slots ops (drop count frame.place.slots.stack))

  abbrev pub DoesBy : StringAnswer → Result Effect EventRefusal → (new : Shared) → (to : List ShownEntry) → Type 0
  DoesBy answer result new to = Does trees p bounds inflated t world (model.Invocation frame ∷ rest) (event answer) result old new from to

  -- ---- exceptions

  pub raises_null : wanted ≡ IsNull → DoesBy wanted (Ok (effect.Raises exception.NullPointer)) old from
  raises_null e = (ap event e, record { shared = refl; stack = refl })

  pub raises_outside : IsOutside ≡ wanted → DoesBy wanted (Ok (effect.Raises exception.StringIndexOutOfBounds)) old from
  raises_outside e = (ap event (sym e), record { shared = refl; stack = refl })

  -- ---- ints, and Strings that are there

  pub leaves_int : (bits : ℕ) → Answers bits ≡ wanted → (result : Result Effect EventRefusal) (to : List ShownEntry)
      → AnswersBy result count bits next from to → DoesBy wanted result old to
  leaves_int bits e result to h =
      subst (λ answer. DoesBy answer result old to) e
      (answered_by trees p bounds inflated t old from state frame rest (method.StringAnswers m) count next offset is bits bits refl result to h)

  pub leaves_same : (k : ℕ) → Same k ≡ wanted → (word : ℕ) → word ≡ operand_of k from → (result : Result Effect EventRefusal)
      (to : List ShownEntry) → AnswersBy result count word next from to → DoesBy wanted result old to
  leaves_same k e word is_word result to h =
      subst (λ answer. DoesBy answer result old to) e
      (answered_by trees p bounds inflated t old from state frame rest (method.StringAnswers m) count next offset is word (slice_index_or ops k 0)
      (is_word ∙ read k (subst (IsRight (string_operands m)) (sym e) is_right)) result to h)

  -- ---- new Strings

  shows : ShowsFrame trees p is.shown frame × ShowsStack trees p is.others rest
  shows = subst (λ s. ShowsStack trees p s (model.Invocation frame ∷ rest)) is.is_stack is.lent.shows_stack

  -- its word has room
  stays_low : Grows count from → ⊥
  stays_low grows =
      let some = some_operands m in
      no_growth count frame.place.slots.stack (omega (arith, some, is.arguments))
      (subst (λ ops. length ops < suc (length (drop count ops))) (sym shows.0.operands) (subst (Grows count) is.is_stack grows))

  abbrev after : Text → StackOf ℕ → PartOf ℕ
  after text own = part (allocated world (Characters text)) own

  module _ (text : Text) (e : Composes text ≡ wanted) (heap : Heap) where
    abbrev new : Shared
    new = record old { heap = heap }

    units : IsRight (string_operands m) (Composes text)
    units = subst (IsRight (string_operands m)) (sym e) is_right

    module _ (is_heap : heap ≡ with_object old.heap (string_of text) (length text)) (opened : old.heap.opening ≤ length old.heap.objects) (objects : made old.heap < old.heap.object_limit)
        (cells : old.heap.counted + length text ≤ old.heap.cell_limit)
        (word : ℕ) (is_word : word ≡ length heap.objects) (fits : word < 2 ^ 32) where
      counted : word ≡ length old.heap.objects + 1
      counted = is_word ∙ ap (λ (h : Heap). length h.objects) is_heap ∙ length-append old.heap.objects (string_of text ∷ [])

      is_made : IsMade trees p bounds inflated world (Characters text) (length old.heap.objects) (length text) old new
      is_made =
          texts_made trees p bounds inflated world old new is.lent.represents text units (omega (arith, counted, fits)) opened objects cells
          (ap (λ h. record old { heap = h }) is_heap)

      word_is : word ≡ suc (length world.heap)
      word_is = let same = is_made.next in omega (arith, counted, same)

      pub makes : (result : Result Effect EventRefusal) (to : List ShownEntry) → AnswersBy result count word next from to
          → DoesBy wanted result new to
      makes (Ok effect.Done) to h =
          let results = suc (length world.heap) ∷ [] in
          let own = gone_on trees p bounds inflated t old from state frame rest (method.StringAnswers m) count next offset is results in
          let stack_is : to ≡ on_top (went_on count results next) from = h ∙ ap (λ w. on_top (went_on count (w ∷ []) next) from) word_is in
          record {
            cost = Makes (length text);
            next = after text own;
            is = ap event (sym e);
            becomes = record {
              within = is_made.within;
              there = tt;
              represents = is_made.represents;
              stack = subst (λ s. ShowsStack trees p s own) (sym stack_is) (went trees p bounds inflated t old from state frame rest (method.StringAnswers m) count next offset is results);
              flags = is_made.flags;
              others = inl (record { stacks = refl; threads = refl });
            };
          }
      makes (Ok (effect.Raises fault)) to h = absurd h
      makes (Ok (effect.Throws thrown)) to h = absurd h
      makes (Ok effect.Interrupts) to h = absurd h
      makes (Ok effect.NotEnabled) to h = absurd h
      makes (Err refusal.Objects) to h = absurd h
      makes (Err refusal.Cells) to h = absurd h
      makes (Err refusal.Monitors) to h = absurd h
      makes (Err refusal.Threads) to h = absurd h
      makes (Err refusal.LockCount) to h = absurd h
      makes (Err refusal.Memory) to h = absurd (stays_low h.1)

    abbrev own_made : StackOf ℕ
    own_made = gone_on trees p bounds inflated t old from state frame rest (method.StringAnswers m) count next offset is (suc (length world.heap) ∷ [])

    -- the heap refuses
    pub unmade : (why : AllocRefusal) → IsHeapRefused why (length text) old.heap heap → (result : Result Effect EventRefusal)
        → IsErrAnd result (λ told. told ≡ of_heap why) → DoesBy wanted result new from
    unmade why told result h =
        let both : MayBeRefused trees bounds inflated world (Makes (length text)) true (of_heap why) × (heap ≡ old.heap) =
        heap_refused trees p bounds inflated world old new is.lent.represents (length text) why told
        in
        refused trees p bounds inflated t old from state frame rest (method.StringAnswers m) count next offset is new (event wanted) (Makes (length text)) (after text own_made)
        (ap event (sym e)) (of_heap why) both.0 (ap (λ h. record old { heap = h }) both.1) result h

  -- there was no memory for its units
  pub lacks_units : (error : AllocError) (answer : StringAnswer) → IsAnswer (Err error) answer → answer ≡ wanted
      → (result : Result Effect EventRefusal) → IsErrAnd result (λ told. told ≡ refusal.Memory) → DoesBy wanted result old from
  lacks_units error IsNull h e result told = absurd h
  lacks_units error IsOutside h e result told = absurd h
  lacks_units error (Answers bits) h e result told = absurd h
  lacks_units error (Same k) h e result told = absurd h
  lacks_units error (Composes text) h e result told =
      refused trees p bounds inflated t old from state frame rest (method.StringAnswers m) count next offset is old (event wanted) (Makes (length text)) (after text (own_made text e old.heap))
      (ap event (sym e)) refusal.Memory refl refl result told
