-- A call of a method of StringBuilder: what becomes of the event by it.
use Rattle.std.proofs.Common.{◌≡◌, ◌<◌, ◌≤◌, ◌+◌, ◌-◌, ◌^◌, ℕ, zero, suc, List, [], ◌∷◌, ◌++◌, true, Some, None, Result, Ok, Err, length, length-append, take, drop, refl, sym, ap, subst, inl, arith, ◌∙◌}
use Rattle.std.specs.Prelude.{Option, codes, if◌then◌else◌, slice_index_or, unwrap_or}
use Rattle.std.specs.Fmt.{signed_decimal}
use Rattle.std.specs.Option.{is_none}
use Rattle.std.specs.Result.{IsErrAnd}
use Rattle.std.proofs.Math.Nat.{mod-lt}
use Rattle.std.proofs.lemmas.Bool.{false≢true}
use Rattle.std.proofs.lemmas.List.Elements.{All-append, All-cons, All-nil}
use Rattle.model.specs.declared.builder_method.BuilderMethod.{BuilderMethod}
use Rattle.model.specs.declared.builder_method.BuilderMethod.TheVariants.{ConstructEmpty, ConstructOfString, AppendString, AppendInt, AppendChar, AppendBuilder, ToString}
use Rattle.model.specs.declared.instr.Conversion.TheVariants.{ToChar}
use Rattle.model.specs.BuilderMethods.{IsNull, Keeps, kept_string, text_or_empty, built_text, with_string, builder_shown, composed, builds, builder_does}
use Rattle.model.specs.Classes.{Program}
use Rattle.model.specs.Ints.{signed, converted}
use Rattle.model.specs.LimitStands.{Bounds}
use Rattle.model.specs.Opening.{string_reference}
use Rattle.model.specs.Operands.{words, word_reference}
use Rattle.model.specs.Outcomes.{Makes, Raises, NullPointer}
use Rattle.model.specs.Sites.{object_of}
use Rattle.model.specs.State as model
use Rattle.model.specs.State.{Characters, FrameOf, StackOf, WorldOf, StateOf}
use Rattle.model.specs.Step.{SteppedOf, PartOf, part, become}
use Rattle.model.specs.Texts.{Text}
use Rattle.model.specs.Worlds.{allocated, object_at, string_shown}
use Rattle.heap.specs.declared.refusal.AllocRefusal.{AllocRefusal}
use Rattle.heap.specs.Heap.{Heap, made, with_object, IsRefused as IsHeapRefused}
use Rattle.linked_code.specs.declared.method.BuiltInMethod.TheVariants as method
use Rattle.linked_code.specs.declared.program.LinkedProgram.{LinkedProgram}
use Rattle.thread_stacks.specs.Stacks.{ShownEntry, on_top}
use Rattle.machine_state.specs.shown_objects.Shown.{AreUnits}
use Rattle.machine_state.specs.shown_stacks.Shown.{ShowsFrame, ShowsStack}
use Rattle.machine_state.specs.allocations.Allocated.{IsMade, string_of}
use Rattle.machine_state.specs.declared.answers.Effect.{Effect}
use Rattle.machine_state.specs.declared.answers.Effect.TheVariants as effect
use Rattle.machine_state.specs.declared.answers.MachineException.TheVariants as exception
use Rattle.machine_state.specs.declared.refusals.EventRefusal.{EventRefusal}
use Rattle.machine_state.specs.declared.refusals.EventRefusal.TheVariants as refusal
use Rattle.machine_state.specs.declared.state.Shared.{Shared}
use Rattle.machine_state.specs.Events.{MayBeRefused}
use Rattle.machine_state.specs.Instructions.{Does}
use Rattle.machine_state.specs.Refusals.{of_heap}
use Rattle.machine_state.specs.Shown.{Represents}
use Rattle.machine_state.proofs.allocations.Allocating.{texts_made, refused as heap_refused}
use Rattle.machine_instructions.specs.thread_methods.Builders.{kept_word, kept_text, with_kept, added_by, appended_by, appends}
use Rattle.machine_instructions.specs.thread_methods.Called.{IsCalling, builder_operands}
use Rattle.machine_instructions.specs.thread_methods.Moves.{operand_of, went_on, Grows, Answers as AnswersBy}
use Rattle.machine_instructions.proofs.thread_methods.BuilderObjects.{word_is, kept_text_is, string_is, builder_is, text_shown, keeps}
use Rattle.machine_instructions.proofs.thread_methods.Calls.{operand_is, gone_on, went, free, answered as answered_by, refused}
use Rattle.machine_instructions.proofs.thread_methods.ShownTexts.{units_by_word}
use Rattle.machine_instructions.proofs.thread_methods.StringCalls.{taken, no_growth}
use Rattle.machine_instructions.proofs.thread_methods.TextAnswers.{AreUnitsOf, signed_units}

-- the object of a reference is told by its word
object_is : (w : ℕ) → unwrap_or (word_reference w) 0 ≡ w - 1
object_is zero = refl
object_is (suc r) = omega arith

some_operands : (m : BuilderMethod) → 0 < builder_operands m
some_operands ConstructEmpty = omega arith
some_operands ConstructOfString = omega arith
some_operands AppendString = omega arith
some_operands AppendInt = omega arith
some_operands AppendChar = omega arith
some_operands AppendBuilder = omega arith
some_operands ToString = omega arith

module _ (trees : Program) (p : LinkedProgram) (bounds : Bounds) (inflated : List ℕ) (t : ℕ) (old : Shared) (from : List ShownEntry)
    (state : StateOf ℕ) (frame : FrameOf ℕ) (rest : StackOf ℕ) (m : BuilderMethod) (count next offset : ℕ)
    (is : IsCalling trees p bounds inflated t old from state frame rest (method.StringBuilderBuilds m) count next offset) (frames : ℕ) where
  abbrev world : WorldOf ℕ
  world = state.world

  abbrev ops : List ℕ
  ops = take count frame.place.slots.stack

  read : (k : ℕ) → k < builder_operands m → operand_of k from ≡ slice_index_or ops k 0
  read k h =
      operand_is trees p bounds inflated t old from state frame rest (method.StringBuilderBuilds m) count next offset is k
      ∙ sym (taken count frame.place.slots.stack k (omega (arith, h, is.arguments)))

  object_read : (k : ℕ) → k < builder_operands m → operand_of k from - 1 ≡ object_of words ops k
  object_read k h = ap (λ w. w - 1) (read k h) ∙ sym (object_is (slice_index_or ops k 0))

  -- ---- the event

  abbrev pub event : BuilderMethod → SteppedOf (PartOf ℕ)
  event asked =
      become words trees frames t world frame rest (builder_does words (string_reference trees []) asked offset world frame.place.slots ops (drop count frame.place.slots.stack))

  abbrev pub DoesBy : Result Effect EventRefusal → (new : Shared) → (to : List ShownEntry) → Type 0
  DoesBy result new to = Does trees p bounds inflated t world (model.Invocation frame ∷ rest) (event m) result old new from to

  -- the receiver has a String for its text, and nothing is made
  keeps_string : (r word : ℕ) (heap : Heap) → heap ≡ record old.heap { objects = with_kept old.heap.objects r word }
      → Represents trees p bounds (record old { heap = heap }) (with_string world r word)
  keeps_string r word heap e = keeps trees p bounds is.program.files is.program.linkable old world is.lent.represents r word heap e

  -- ---- constructors

  pub constructs : (r word : ℕ) → m ≡ ConstructEmpty → r ≡ operand_of 0 from - 1 → word ≡ p.empty_text
      → (heap : Heap) → heap ≡ record old.heap { objects = with_kept old.heap.objects r word }
      → (to : List ShownEntry) → to ≡ on_top (went_on count [] next) from
      → DoesBy (Ok effect.Done) (record old { heap = heap }) to
  constructs r word asked is_r is_word heap e to is_to =
      let same : r ≡ object_of words ops 0 = is_r ∙ object_read 0 (some_operands m) in
      let empty : word ≡ suc (string_reference trees []) = is_word ∙ is.program.linked.empty_text in
      let after = with_string world (object_of words ops 0) (suc (string_reference trees [])) in
      subst (λ asked. Does trees p bounds inflated t world (model.Invocation frame ∷ rest) (event asked) (Ok effect.Done) old (record old { heap = heap }) from to) (sym asked)
      (free trees p bounds inflated t old from state frame rest (method.StringBuilderBuilds m) count next offset is after (record old { heap = heap })
      (subst (λ x. Represents trees p bounds (record old { heap = heap }) (with_string world x (suc (string_reference trees [])))) same
      (subst (λ w. Represents trees p bounds (record old { heap = heap }) (with_string world r w)) empty (keeps_string r word heap e)))
      (ap (λ (h : Heap). h.locks.fat) e) refl refl to [] is_to)

  pub raises_null : (word : ℕ) → m ≡ ConstructOfString → word ≡ operand_of 0 from → word ≡ 0 → DoesBy (Ok (effect.Raises exception.NullPointer)) old from
  raises_null word asked is_word none =
      let null : slice_index_or ops 0 0 ≡ 0 = sym (read 0 (some_operands m)) ∙ sym is_word ∙ none in (
        ap event asked ∙ null_raises null,
        record { shared = refl; stack = refl },
      )
    where
      null_raises : slice_index_or ops 0 0 ≡ 0 → event ConstructOfString ≡ become words trees frames t world frame rest (Raises NullPointer)
      null_raises e = ap (λ w. become words trees frames t world frame rest (builds words (string_reference trees []) (if is_none (word_reference w) then IsNull else Keeps) offset world frame.place.slots ops (drop count frame.place.slots.stack))) e

  pub constructs_of : (r word : ℕ) → m ≡ ConstructOfString → r ≡ operand_of 1 from - 1 → word ≡ operand_of 0 from → (word ≡ 0 → ⊥)
      → (heap : Heap) → heap ≡ record old.heap { objects = with_kept old.heap.objects r word }
      → (to : List ShownEntry) → to ≡ on_top (went_on count [] next) from
      → DoesBy (Ok effect.Done) (record old { heap = heap }) to
  constructs_of r word asked is_r is_word some heap e to is_to =
      let two : 1 < builder_operands m = subst (λ x. 1 < builder_operands x) (sym asked) (omega arith) in
      let same : r ≡ object_of words ops 1 = is_r ∙ object_read 1 two in
      let string : word ≡ slice_index_or ops 0 0 = is_word ∙ read 0 (some_operands m) in
      let after = with_string world (object_of words ops 1) (slice_index_or ops 0 0) in
      subst (λ stepped. Does trees p bounds inflated t world (model.Invocation frame ∷ rest) stepped (Ok effect.Done) old (record old { heap = heap }) from to)
      (sym (ap event asked ∙ keeps_it (slice_index_or ops 0 0) refl (λ none. some (string ∙ none))))
      (free trees p bounds inflated t old from state frame rest (method.StringBuilderBuilds m) count next offset is after (record old { heap = heap })
      (subst (λ x. Represents trees p bounds (record old { heap = heap }) (with_string world x (slice_index_or ops 0 0))) same
      (subst (λ w. Represents trees p bounds (record old { heap = heap }) (with_string world r w)) string (keeps_string r word heap e)))
      (ap (λ (h : Heap). h.locks.fat) e) refl refl to [] is_to)
    where
      keeps_it : (w : ℕ) → slice_index_or ops 0 0 ≡ w → (w ≡ 0 → ⊥)
          → event ConstructOfString
          ≡ become words trees frames t world frame rest (builds words (string_reference trees []) Keeps offset world frame.place.slots ops (drop count frame.place.slots.stack))
      keeps_it zero e some = absurd (some refl)
      keeps_it (suc w) e some = ap (λ v. become words trees frames t world frame rest (builds words (string_reference trees []) (if is_none (word_reference v) then IsNull else Keeps) offset world frame.place.slots ops (drop count frame.place.slots.stack))) e

  -- ---- toString

  pub gives : (r word : ℕ) → m ≡ ToString → r ≡ operand_of 0 from - 1 → word ≡ kept_word old.heap.objects r
      → (result : Result Effect EventRefusal) (to : List ShownEntry) → AnswersBy result count word next from to
      → DoesBy result old to
  gives r word asked is_r is_word result to h =
      let same : r ≡ object_of words ops 0 = is_r ∙ object_read 0 (some_operands m) in
      let value : word ≡ kept_string words (object_at world (object_of words ops 0)) =
      is_word ∙ word_is is.program.files trees is.program.linkable p.components.items old.heap.objects world is.lent.represents.world_is.objects r
      ∙ ap (λ x. kept_string words (object_at world x)) same
      in
      subst (λ asked. Does trees p bounds inflated t world (model.Invocation frame ∷ rest) (event asked) result old old from to) (sym asked)
      (answered_by trees p bounds inflated t old from state frame rest (method.StringBuilderBuilds m) count next offset is word (kept_string words (object_at world (object_of words ops 0))) value result to h)

  -- ---- append

  -- what is added, by the definitions
  abbrev added : BuilderMethod → Text
  added ConstructEmpty = []
  added ConstructOfString = []
  added AppendString = string_shown world (word_reference (slice_index_or ops 0 0))
  added AppendInt = signed_decimal (signed (slice_index_or ops 0 0))
  added AppendChar = converted ToChar (slice_index_or ops 0 0) ∷ []
  added AppendBuilder = builder_shown words world (word_reference (slice_index_or ops 0 0))
  added ToString = []

  abbrev text : Text
  text = built_text words world (object_of words ops 1) ++ added m

  appended : (asked : BuilderMethod) → appends asked ≡ true
      → event asked ≡ become words trees frames t world frame rest (composed words (built_text words world (object_of words ops 1) ++ added asked) offset world frame.place.slots ops (drop count frame.place.slots.stack))
  appended ConstructEmpty h = absurd (false≢true h)
  appended ConstructOfString h = absurd (false≢true h)
  appended AppendString h = refl
  appended AppendInt h = refl
  appended AppendChar h = refl
  appended AppendBuilder h = refl
  appended ToString h = absurd (false≢true h)

  -- as the words tell it
  added_is : (asked : BuilderMethod) → added_by asked old.heap.objects (slice_index_or ops 0 0) ≡ added asked
  added_is ConstructEmpty = refl
  added_is ConstructOfString = refl
  added_is AppendString = string_is is.program.files trees is.program.linkable p.components.items old.heap.objects world is.lent.represents.world_is.objects (slice_index_or ops 0 0)
  added_is AppendInt = refl
  added_is AppendChar = refl
  added_is AppendBuilder = builder_is is.program.files trees is.program.linkable p.components.items old.heap.objects world is.lent.represents.world_is.objects (slice_index_or ops 0 0)
  added_is ToString = refl

  two_operands : (asked : BuilderMethod) → appends asked ≡ true → 1 < builder_operands asked
  two_operands ConstructEmpty h = absurd (false≢true h)
  two_operands ConstructOfString h = absurd (false≢true h)
  two_operands AppendString h = omega arith
  two_operands AppendInt h = omega arith
  two_operands AppendChar h = omega arith
  two_operands AppendBuilder h = omega arith
  two_operands ToString h = absurd (false≢true h)

  -- each unit is one of 16 bits
  shown_units : (w : ℕ) → AreUnits (text_or_empty world (word_reference w))
  shown_units w =
      subst AreUnits (text_shown world (word_reference w))
      (units_or_none _ (units_by_word is.program.files trees is.program.linkable p.components.items old.heap.objects world is.lent.represents.world_is.objects w))
    where
      units_or_none : (o : Option Text) → AreUnitsOf o → AreUnits (unwrap_or o [])
      units_or_none None h = All-nil (λ u. u < 2 ^ 16)
      units_or_none (Some units) h = h

  null_units : AreUnits (codes "null")
  null_units =
      All-cons (λ u. u < 2 ^ 16) 110 (117 ∷ 108 ∷ 108 ∷ []) (omega arith)
      (All-cons (λ u. u < 2 ^ 16) 117 (108 ∷ 108 ∷ []) (omega arith)
      (All-cons (λ u. u < 2 ^ 16) 108 (108 ∷ []) (omega arith) (All-cons (λ u. u < 2 ^ 16) 108 [] (omega arith) (All-nil (λ u. u < 2 ^ 16)))))

  string_units : (w : ℕ) → AreUnits (string_shown world (word_reference w))
  string_units zero = null_units
  string_units (suc r) = shown_units (suc r)

  built_units : (r : ℕ) → AreUnits (built_text words world r)
  built_units r = shown_units (kept_string words (object_at world r))

  builder_units : (w : ℕ) → AreUnits (builder_shown words world (word_reference w))
  builder_units zero = null_units
  builder_units (suc r) = built_units r

  added_units : (asked : BuilderMethod) → AreUnits (added asked)
  added_units ConstructEmpty = All-nil (λ u. u < 2 ^ 16)
  added_units ConstructOfString = All-nil (λ u. u < 2 ^ 16)
  added_units AppendString = string_units (slice_index_or ops 0 0)
  added_units AppendInt = signed_units (signed (slice_index_or ops 0 0))
  added_units AppendChar =
      let small : converted ToChar (slice_index_or ops 0 0) < 2 ^ 16 = mod-lt (slice_index_or ops 0 0) (omega arith) in
      All-cons (λ u. u < 2 ^ 16) (converted ToChar (slice_index_or ops 0 0)) [] small (All-nil (λ u. u < 2 ^ 16))
  added_units AppendBuilder = builder_units (slice_index_or ops 0 0)
  added_units ToString = All-nil (λ u. u < 2 ^ 16)

  units : AreUnits text
  units = All-append (λ u. u < 2 ^ 16) (built_text words world (object_of words ops 1)) (added m) (built_units (object_of words ops 1)) (added_units m)

  module _ (some : appends m ≡ true) where
    two : 1 < builder_operands m
    two = two_operands m some

    pub text_is : appended_by m old.heap.objects from ≡ text
    text_is =
        (λ i. kept_text old.heap.objects (object_read 1 two i) ++ added_by m old.heap.objects (read 0 (some_operands m) i))
        ∙ (λ i. kept_text_is is.program.files trees is.program.linkable p.components.items old.heap.objects world is.lent.represents.world_is.objects (object_of words ops 1) i ++ added_is m i)

    shows : ShowsFrame trees p is.shown frame × ShowsStack trees p is.others rest
    shows = subst (λ s. ShowsStack trees p s (model.Invocation frame ∷ rest)) is.is_stack is.lent.shows_stack

    stays_low : Grows count from → ⊥
    stays_low grows =
        let few = some_operands m in
        no_growth count frame.place.slots.stack (omega (arith, few, is.arguments))
        (subst (λ ops. length ops < suc (length (drop count ops))) (sym shows.0.operands) (subst (Grows count) is.is_stack grows))

    abbrev receiver : ℕ
    receiver = object_of words ops 1

    abbrev grown : WorldOf ℕ
    grown = allocated world (Characters text)

    abbrev own : StackOf ℕ
    own = gone_on trees p bounds inflated t old from state frame rest (method.StringBuilderBuilds m) count next offset is (slice_index_or ops 1 0 ∷ [])

    abbrev after : PartOf ℕ
    after = part (with_string grown receiver (suc (length world.heap))) own

    event_is : event m ≡ become words trees frames t world frame rest (composed words text offset world frame.place.slots ops (drop count frame.place.slots.stack))
    event_is = appended m some

    -- a new String is there, and becomes the text
    module _ (between : Heap) (is_between : between ≡ with_object old.heap (string_of text) (length text))
        (opened : old.heap.opening ≤ length old.heap.objects) (objects : made old.heap < old.heap.object_limit)
        (cells : old.heap.counted + length text ≤ old.heap.cell_limit)
        (word : ℕ) (is_word : word ≡ length between.objects) (fits : word < 2 ^ 32)
        (heap : Heap) (is_heap : heap ≡ record between { objects = with_kept between.objects (operand_of 1 from - 1) word })
        (pushed : ℕ) (is_pushed : pushed ≡ operand_of 1 from) where
      counted : word ≡ length old.heap.objects + 1
      counted = is_word ∙ ap (λ (h : Heap). length h.objects) is_between ∙ length-append old.heap.objects (string_of text ∷ [])

      abbrev mid : Shared
      mid = record old { heap = between }

      is_made : IsMade trees p bounds inflated world (Characters text) (length old.heap.objects) (length text) old mid
      is_made =
          texts_made trees p bounds inflated world old mid is.lent.represents text units (omega (arith, counted, fits)) opened objects cells
          (ap (λ h. record old { heap = h }) is_between)

      new_word : word ≡ suc (length world.heap)
      new_word = let same = is_made.next in omega (arith, counted, same)

      represents : Represents trees p bounds (record old { heap = heap }) (with_string grown receiver (suc (length world.heap)))
      represents =
          subst (λ x. Represents trees p bounds (record old { heap = heap }) (with_string grown x (suc (length world.heap)))) (object_read 1 two)
          (subst (λ w. Represents trees p bounds (record old { heap = heap }) (with_string grown (operand_of 1 from - 1) w)) new_word
          (keeps trees p bounds is.program.files is.program.linkable mid grown is_made.represents (operand_of 1 from - 1) word heap is_heap))

      pub makes : (result : Result Effect EventRefusal) (to : List ShownEntry) → AnswersBy result count pushed next from to
          → DoesBy result (record old { heap = heap }) to
      makes (Ok effect.Done) to h =
          let stack_is : to ≡ on_top (went_on count (slice_index_or ops 1 0 ∷ []) next) from = h ∙ ap (λ w. on_top (went_on count (w ∷ []) next) from) (is_pushed ∙ read 1 two) in
          record {
            cost = Makes (length text);
            next = after;
            is = event_is;
            becomes = record {
              within = is_made.within;
              there = tt;
              represents = represents;
              stack = subst (λ s. ShowsStack trees p s own) (sym stack_is) (went trees p bounds inflated t old from state frame rest (method.StringBuilderBuilds m) count next offset is (slice_index_or ops 1 0 ∷ []));
              flags = ap (λ (h : Heap). h.locks.fat) is_heap ∙ is_made.flags;
              others = inl (record { stacks = refl; threads = refl });
            };
          }
      makes (Ok (effect.Raises fault)) to h = absurd h
      makes (Ok (effect.Throws thrown)) to h = absurd h
      makes (Ok effect.Interrupts) to h = absurd h
      makes (Ok effect.NotEnabled) to h = absurd h
      makes (Err refusal.Objects) to h = absurd h
      makes (Err refusal.Cells) to h = absurd h
      makes (Err refusal.Monitors) to h = absurd h
      makes (Err refusal.Threads) to h = absurd h
      makes (Err refusal.LockCount) to h = absurd h
      makes (Err refusal.Memory) to h = absurd (stays_low h.1)

    -- the heap refuses
    pub unmade : (why : AllocRefusal) (heap : Heap) → IsHeapRefused why (length text) old.heap heap → (result : Result Effect EventRefusal)
        → IsErrAnd result (λ told. told ≡ of_heap why) → DoesBy result (record old { heap = heap }) from
    unmade why heap told result h =
        let both : MayBeRefused trees bounds inflated world (Makes (length text)) true (of_heap why) × (heap ≡ old.heap) =
        heap_refused trees p bounds inflated world old (record old { heap = heap }) is.lent.represents (length text) why told
        in
        refused trees p bounds inflated t old from state frame rest (method.StringBuilderBuilds m) count next offset is (record old { heap = heap }) (event m) (Makes (length text)) after
        event_is (of_heap why) both.0 (ap (λ h. record old { heap = h }) both.1) result h

    -- there was no memory for its units
    pub lacks_units : (result : Result Effect EventRefusal) → IsErrAnd result (λ told. told ≡ refusal.Memory) → DoesBy result old from
    lacks_units result told =
        refused trees p bounds inflated t old from state frame rest (method.StringBuilderBuilds m) count next offset is old (event m) (Makes (length text)) after
        event_is refusal.Memory refl refl result told
