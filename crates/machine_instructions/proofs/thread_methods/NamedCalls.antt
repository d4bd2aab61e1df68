-- What a method that names a Thread does where it wants a name, and where it gives one.
use Rattle.std.proofs.Common.{◌≡◌, ◌<◌, ◌≤◌, ◌+◌, ◌-◌, ◌^◌, ◌++◌, ℕ, zero, suc, List, [], ◌∷◌, Option, Some, None, Result, Ok, Err, true, length, length-append, take, drop, refl, sym, ap, subst, inl, arith, ◌∙◌}
use Rattle.std.specs.Result.{IsErrAnd}
use Rattle.std.specs.Prelude.{codes, slice_get, slice_index_or}
use Rattle.std.specs.List.{All}
use Rattle.std.proofs.lemmas.List.Elements.{All-append, All-cons, All-nil}
use Rattle.std.proofs.lemmas.Option.{get_or_from_slice_get}
use Rattle.model.specs.declared.name_method.NameMethod.{NameMethod}
use Rattle.model.specs.declared.name_method.NameMethod.TheVariants as names
use Rattle.model.specs.Names.{thread_name, thread_ordinal}
use Rattle.model.specs.BuiltInMethods.{object_of}
use Rattle.model.specs.Classes.{Program}
use Rattle.model.specs.Ints.{signed}
use Rattle.model.specs.LimitStands.{Bounds}
use Rattle.model.specs.Operands.{words, word_reference}
use Rattle.model.specs.Outcomes.{OutcomeOf, Makes, NullPointer, Raises, not_null}
use Rattle.model.specs.State as model
use Rattle.model.specs.State.{ObjectOf, Instance, Characters, FrameOf, StackOf, WorldOf, StateOf}
use Rattle.model.specs.Step.{SteppedOf, PartOf, part, become}
use Rattle.model.specs.Texts.{Text}
use Rattle.model.specs.ThreadNames.{gives_name, kept_name, kept_ordinal, ordinal_text, named, with_name}
use Rattle.model.specs.Worlds.{allocated, no_object, object_at}
use Rattle.heap.specs.declared.refusal.AllocRefusal.{AllocRefusal}
use Rattle.heap.specs.Heap.{Heap, made, put_field, with_object, word_at, IsRefused as IsHeapRefused}
use Rattle.run_laws.proofs.laws.Lists.{get_front}
use Rattle.linked_code.specs.declared.method.BuiltInMethod.TheVariants as method
use Rattle.linked_code.specs.declared.program.LinkedProgram.{LinkedProgram}
use Rattle.thread_stacks.specs.Stacks.{ShownEntry, on_top}
use Rattle.machine_state.specs.allocations.Allocated.{IsMade, string_of}
use Rattle.machine_state.specs.shown_objects.Shown.{AreUnits}
use Rattle.machine_state.specs.shown_stacks.Shown.{ShowsFrame, ShowsStack}
use Rattle.machine_state.specs.declared.answers.Effect.{Effect}
use Rattle.machine_state.specs.declared.answers.Effect.TheVariants as effect
use Rattle.machine_state.specs.declared.answers.MachineException.TheVariants as exception
use Rattle.machine_state.specs.declared.refusals.EventRefusal.{EventRefusal}
use Rattle.machine_state.specs.declared.refusals.EventRefusal.TheVariants as refusal
use Rattle.machine_state.specs.declared.state.Shared.{Shared}
use Rattle.machine_state.specs.Events.{MayBeRefused}
use Rattle.machine_state.specs.Refusals.{of_heap}
use Rattle.machine_state.specs.Instructions.{Does}
use Rattle.machine_state.specs.Shown.{Represents}
use Rattle.machine_state.proofs.allocations.Allocating.{texts_made, refused as heap_refused}
use Rattle.machine_state.proofs.shown_objects.Objects.{are_fields}
use Rattle.machine_instructions.specs.thread_methods.Called.{IsCalling}
use Rattle.machine_instructions.specs.thread_methods.Moves.{operand_of, went_on, Grows, Answers as AnswersBy}
use Rattle.machine_instructions.specs.thread_methods.Naming.{numbered_name}
use Rattle.machine_instructions.proofs.thread_methods.Calls.{answered, free, gone_on, refused, went}
use Rattle.machine_instructions.proofs.thread_methods.NamedThreads.{class, fields, there, name_slot_at, ordinal_slot_at, object_is_thread, enough, ops, reference}
use Rattle.machine_instructions.proofs.thread_methods.StringCalls.{no_growth}
use Rattle.machine_instructions.proofs.thread_methods.TextAnswers.{signed_units}
use Rattle.machine_instructions.proofs.thread_methods.Written.{written}

module _ (trees : Program) (p : LinkedProgram) (bounds : Bounds) (inflated : List ℕ) (t : ℕ) (old : Shared) (from : List ShownEntry)
    (state : StateOf ℕ) (frame : FrameOf ℕ) (rest : StackOf ℕ) (frames : ℕ) where
  abbrev world : WorldOf ℕ
  world = state.world

  -- ---- a name that is wanted

  module _ (done : OutcomeOf ℕ) where
    abbrev pub wanting : ℕ → SteppedOf (PartOf ℕ)
    wanting word = become words trees frames t world frame rest (not_null (word_reference word) (λ r. done))

    pub none_raises : (word : ℕ) → word ≡ 0 → Does trees p bounds inflated t world (model.Invocation frame ∷ rest) (wanting word) (Ok (effect.Raises exception.NullPointer)) old old from from
    none_raises word e = (ap wanting e, record { shared = refl; stack = refl })

    pub some_done : (word : ℕ) → (word ≡ 0 → ⊥) → wanting word ≡ become words trees frames t world frame rest done
    some_done zero some = absurd (some refl)
    some_done (suc name) some = refl

-- ---- a name that is given

name_units : AreUnits (codes "Thread-")
name_units =
    let P = λ (u : ℕ). u < 2 ^ 16 in
    All-cons P 84 (104 ∷ 114 ∷ 101 ∷ 97 ∷ 100 ∷ 45 ∷ []) (omega arith) (All-cons P 104 (114 ∷ 101 ∷ 97 ∷ 100 ∷ 45 ∷ []) (omega arith) (
    All-cons P 114 (101 ∷ 97 ∷ 100 ∷ 45 ∷ []) (omega arith) (All-cons P 101 (97 ∷ 100 ∷ 45 ∷ []) (omega arith) (
    All-cons P 97 (100 ∷ 45 ∷ []) (omega arith) (All-cons P 100 (45 ∷ []) (omega arith) (
    All-cons P 45 [] (omega arith) (All-nil P)))))))

pub numbered_units : (word : ℕ) → AreUnits (numbered_name word)
numbered_units word = All-append (λ (u : ℕ). u < 2 ^ 16) (codes "Thread-") _ name_units (signed_units (signed word))

module _ (trees : Program) (p : LinkedProgram) (bounds : Bounds) (inflated : List ℕ) (t : ℕ) (old : Shared) (from : List ShownEntry)
    (state : StateOf ℕ) (frame : FrameOf ℕ) (rest : StackOf ℕ) (count next offset : ℕ)
    (is : IsCalling trees p bounds inflated t old from state frame rest (method.ThreadNames names.GetName) count next offset) (frames : ℕ) where
  abbrev own_world : WorldOf ℕ
  own_world = state.world

  abbrev operands : List ℕ
  operands = ops trees p bounds inflated t old from state frame rest names.GetName count next offset is

  abbrev pub thread : ℕ
  thread = reference trees p bounds inflated t old from state frame rest names.GetName count next offset is

  abbrev of_thread : ObjectOf ℕ
  of_thread = object_at own_world thread

  abbrev pub giving : ℕ → ℕ → SteppedOf (PartOf ℕ)
  giving name number = become words trees frames t own_world frame rest (gives_name words (word_reference name) (numbered_name number) offset own_world frame.place.slots operands (drop count frame.place.slots.stack))

  -- by the words in the slots of the name and the number
  pub event_is : giving (word_at old.heap.objects thread 1) (word_at old.heap.objects thread 2)
      ≡ become words trees frames t own_world frame rest
      (gives_name words (words.referent (kept_name words (object_at own_world (object_of words operands 0)))) (ordinal_text words (object_at own_world (object_of words operands 0))) offset own_world frame.place.slots operands (drop count frame.place.slots.stack))
  event_is =
      let c = class trees p bounds inflated t old from state frame rest names.GetName count next offset is in
      let fs = fields trees p bounds inflated t old from state frame rest names.GetName count next offset is in
      let at = there trees p bounds inflated t old from state frame rest names.GetName count next offset is in
      let object_is : of_thread ≡ Instance c fs = get_or_from_slice_get own_world.heap thread (Instance c fs) no_object at in
      let shown = is.lent.represents.world_is.objects in
      let name = (are_fields trees p.components.items old.heap.objects own_world.heap shown thread c fs at thread_name 1
      (name_slot_at trees p bounds inflated t old from state frame rest names.GetName count next offset is)).read 0 in
      let number = (are_fields trees p.components.items old.heap.objects own_world.heap shown thread c fs at thread_ordinal 2
      (ordinal_slot_at trees p bounds inflated t old from state frame rest names.GetName count next offset is)).read 0 in
      let name_is : word_at old.heap.objects thread 1 ≡ kept_name words of_thread = sym name ∙ ap (kept_name words) (sym object_is) in
      let number_is : word_at old.heap.objects thread 2 ≡ kept_ordinal words of_thread = sym number ∙ ap (kept_ordinal words) (sym object_is) in
      (λ i. giving (name_is i) (number_is i))
      ∙ ap (λ r. become words trees frames t own_world frame rest
      (gives_name words (word_reference (kept_name words (object_at own_world r))) (ordinal_text words (object_at own_world r)) offset own_world frame.place.slots operands (drop count frame.place.slots.stack)))
      (sym (object_is_thread trees p bounds inflated t old from state frame rest names.GetName count next offset is))

  abbrev pub GivesBy : (name number : ℕ) → Result Effect EventRefusal → (new : Shared) → (to : List ShownEntry) → Type 0
  GivesBy name number result new to = Does trees p bounds inflated t own_world (model.Invocation frame ∷ rest) (giving name number) result old new from to

  -- the name that there is
  pub gives : (name number : ℕ) → (name ≡ 0 → ⊥) → (result : Result Effect EventRefusal) (to : List ShownEntry) → AnswersBy result count name next from to
      → GivesBy name number result old to
  gives zero number some result to h = absurd (some refl)
  gives (suc name) number some result to h =
      answered trees p bounds inflated t old from state frame rest (method.ThreadNames names.GetName) count next offset is (suc name) (suc name) refl result to h

  -- a new one
  module _ (number : ℕ) where
    abbrev text : Text
    text = numbered_name number

    abbrev grown : WorldOf ℕ
    grown = allocated own_world (Characters text)

    abbrev own : StackOf ℕ
    own = gone_on trees p bounds inflated t old from state frame rest (method.ThreadNames names.GetName) count next offset is (suc (length own_world.heap) ∷ [])

    abbrev after : PartOf ℕ
    after = part (named words own_world (object_of words operands 0) text) own

    shows : ShowsFrame trees p is.shown frame × ShowsStack trees p is.others rest
    shows = subst (λ s. ShowsStack trees p s (model.Invocation frame ∷ rest)) is.is_stack is.lent.shows_stack

    stays_low : Grows count from → ⊥
    stays_low grows =
        no_growth count frame.place.slots.stack (enough trees p bounds inflated t old from state frame rest names.GetName count next offset is)
        (subst (λ ops. length ops < suc (length (drop count ops))) (sym shows.0.operands) (subst (Grows count) is.is_stack grows))

    module _ (between : Heap) (is_between : between ≡ with_object old.heap (string_of text) (length text))
        (opened : old.heap.opening ≤ length old.heap.objects) (objects : made old.heap < old.heap.object_limit)
        (cells : old.heap.counted + length text ≤ old.heap.cell_limit)
        (word : ℕ) (is_word : word ≡ length between.objects) (fits : word < 2 ^ 32)
        (at : ℕ) (is_at : at ≡ thread)
        (heap : Heap) (is_heap : heap ≡ record between { objects = put_field between.objects at 1 word }) where
      counted : word ≡ length old.heap.objects + 1
      counted = is_word ∙ ap (λ (h : Heap). length h.objects) is_between ∙ length-append old.heap.objects (string_of text ∷ [])

      abbrev mid : Shared
      mid = record old { heap = between }

      is_made : IsMade trees p bounds inflated own_world (Characters text) (length old.heap.objects) (length text) old mid
      is_made =
          texts_made trees p bounds inflated own_world old mid is.lent.represents text (numbered_units number) (omega (arith, counted, fits)) opened objects cells
          (ap (λ h. record old { heap = h }) is_between)

      new_word : word ≡ suc (length own_world.heap)
      new_word = let same = is_made.next in omega (arith, counted, same)

      represents : Represents trees p bounds (record old { heap = heap }) (named words own_world (object_of words operands 0) text)
      represents =
          let c = class trees p bounds inflated t old from state frame rest names.GetName count next offset is in
          let fs = fields trees p bounds inflated t old from state frame rest names.GetName count next offset is in
          let still = get_front own_world.heap (Characters text ∷ []) thread (Instance c fs) (there trees p bounds inflated t old from state frame rest names.GetName count next offset is) in
          let put = written trees p bounds grown mid is_made.represents thread c fs still thread_name 1
          (name_slot_at trees p bounds inflated t old from state frame rest names.GetName count next offset is) word in
          let is_new : record old { heap = heap } ≡ record mid { heap = record between { objects = put_field between.objects thread 1 word } } =
          ap (λ h. record old { heap = h }) is_heap ∙ ap (λ r. record old { heap = record between { objects = put_field between.objects r 1 word } }) is_at in
          subst (λ r. Represents trees p bounds (record old { heap = heap }) (with_name grown r (suc (length own_world.heap))))
          (sym (object_is_thread trees p bounds inflated t old from state frame rest names.GetName count next offset is))
          (subst (λ w. Represents trees p bounds (record old { heap = heap }) (with_name grown thread w)) new_word
          (subst (λ (s : Shared). Represents trees p bounds s (with_name grown thread word)) (sym is_new) put))

      pub makes : (result : Result Effect EventRefusal) (to : List ShownEntry) → AnswersBy result count word next from to
          → GivesBy 0 number result (record old { heap = heap }) to
      makes (Ok effect.Done) to h =
          let stack_is : to ≡ on_top (went_on count (suc (length own_world.heap) ∷ []) next) from = h ∙ ap (λ w. on_top (went_on count (w ∷ []) next) from) new_word in
          record {
            cost = Makes (length text);
            next = after;
            is = refl;
            becomes = record {
              within = is_made.within;
              there = tt;
              represents = represents;
              stack = subst (λ s. ShowsStack trees p s own) (sym stack_is) (went trees p bounds inflated t old from state frame rest (method.ThreadNames names.GetName) count next offset is (suc (length own_world.heap) ∷ []));
              flags = ap (λ (h : Heap). h.locks.fat) is_heap ∙ is_made.flags;
              others = inl (record { stacks = refl; threads = refl });
            };
          }
      makes (Ok (effect.Raises fault)) to h = absurd h
      makes (Ok (effect.Throws thrown)) to h = absurd h
      makes (Ok effect.Interrupts) to h = absurd h
      makes (Ok effect.NotEnabled) to h = absurd h
      makes (Err refusal.Objects) to h = absurd h
      makes (Err refusal.Cells) to h = absurd h
      makes (Err refusal.Monitors) to h = absurd h
      makes (Err refusal.Threads) to h = absurd h
      makes (Err refusal.LockCount) to h = absurd h
      makes (Err refusal.Memory) to h = absurd (stays_low h.1)

    -- the heap refuses
    pub unmade : (why : AllocRefusal) (heap : Heap) → IsHeapRefused why (length text) old.heap heap → (result : Result Effect EventRefusal)
        → IsErrAnd result (λ told. told ≡ of_heap why) → GivesBy 0 number result (record old { heap = heap }) from
    unmade why heap told result h =
        let both : MayBeRefused trees bounds inflated own_world (Makes (length text)) true (of_heap why) × (heap ≡ old.heap) =
        heap_refused trees p bounds inflated own_world old (record old { heap = heap }) is.lent.represents (length text) why told
        in
        refused trees p bounds inflated t old from state frame rest (method.ThreadNames names.GetName) count next offset is (record old { heap = heap }) (giving 0 number) (Makes (length text)) after
        refl (of_heap why) both.0 (ap (λ h. record old { heap = h }) both.1) result h

    -- there was no memory for its units
    pub lacks_units : (result : Result Effect EventRefusal) → IsErrAnd result (λ told. told ≡ refusal.Memory) → GivesBy 0 number result old from
    lacks_units result told =
        refused trees p bounds inflated t old from state frame rest (method.ThreadNames names.GetName) count next offset is old (giving 0 number) (Makes (length text)) after
        refl refusal.Memory refl refl result told
