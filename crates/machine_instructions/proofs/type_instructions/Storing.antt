-- References that are stored in arrays.
use Rattle.std.proofs.Common.{◌≡◌, ◌+◌, ◌<◌, ◌≤◌, ℕ, zero, suc, List, [], ◌∷◌, Option, Some, None, Ok, Bool, true, false, length, drop, refl, sym, ap, subst, arith, ◌∙◌}
use Rattle.std.specs.Prelude.{sum_by, slice_get, slice_set, slice_index_or, nat_lt, IsTrue}
use Rattle.std.specs.Option.{option_and_then}
use Rattle.std.proofs.lemmas.Bool.{and_parts, false≢true, lt-ltb, le-ltb}
use Rattle.std.proofs.lemmas.Option.{get_or_from_slice_get}
use Rattle.model.specs.Classes.{Program}
use Rattle.model.specs.LimitStands.{Bounds, opening_count}
use Rattle.model.specs.ReferenceTypes.{ReferenceArray, is_assignable}
use Rattle.model.specs.Types.{Want, AReference, AnInt}
use Rattle.model.specs.Operands.{words, word_reference, over_words, pops_meet, is_ready}
use Rattle.model.specs.Outcomes.{Free, OutcomeOf, Goes, not_null}
use Rattle.model.specs.Objects.{any_object}
use Rattle.model.specs.Arrays.{in_range, at_index, may_stand_in, if_storable, stored, store_reference_meaning}
use Rattle.model.specs.Sites.{MeaningOf, Site}
use Rattle.model.specs.Meanings.{meaning_of}
use Rattle.model.specs.State.{ObjectOf, Instance, Primitives, References, Characters, types_of, FrameOf, StackOf, StateOf, WorldOf}
use Rattle.model.specs.Step.{become}
use Rattle.model.specs.Worlds.{cells_of, no_object, object_at, with_object, elements_of, with_element}
use Rattle.heap.specs.declared.kind.ObjectKind.{ObjectKind}
use Rattle.heap.specs.declared.kind.ObjectKind.TheVariants as kind
use Rattle.heap.specs.Heap.{Object, Heap, words_at, put_element}
use Rattle.linked_code.specs.declared.instruction.LinkedInstruction.{LinkedInstruction}
use Rattle.linked_code.specs.declared.method.LinkedCode.{LinkedCode}
use Rattle.linked_code.specs.declared.types.LinkedType.{LinkedType}
use Rattle.linked_code.specs.declared.program.LinkedProgram.{LinkedProgram}
use Rattle.linked_code.specs.Linked.{offset_in}
use Rattle.run_laws.specs.word_operands.Operands.{word_meets, is_word_with}
use Rattle.machine_state.specs.shown_objects.Shown.{IsKindOf, ShowsObjects}
use Rattle.machine_state.specs.shown_objects.Laws.{is_array, kept_in, HasElements}
use Rattle.machine_state.proofs.shown_objects.Objects.{are_elements}
use Rattle.thread_stacks.specs.Stacks.{ShownFrame, ShownEntry, with_top}
use Rattle.machine_state.specs.declared.answers.Effect.{Effect}
use Rattle.machine_state.specs.declared.answers.Effect.TheVariants as effect
use Rattle.machine_state.specs.declared.answers.MachineException.TheVariants as exception
use Rattle.machine_state.specs.declared.state.Shared.{Shared}
use Rattle.machine_state.specs.Shown.{Represents}
use Rattle.machine_state.specs.linked_frames.Frames.{IsRunning}
use Rattle.machine_state.proofs.linked_frames.Frames.{finds_shown, meaning_is}
use Rattle.machine_instructions.specs.Leaving.{Leaves}
use Rattle.machine_instructions.specs.type_instructions.Words.{component_by, component_in, TestsWord, TestsStore}
use Rattle.machine_instructions.proofs.type_instructions.Events.{IsEvent, DoesSo, slots_after, operand_is, event_by, goes_on, done_free, stays}

-- ---- what may stand in an array

-- by its component type, if it is an array of references
abbrev pub TestsIf : LinkedProgram → List Object → ℕ → Option LinkedType → Bool → Type 0
TestsIf p objects word None answer = answer ≡ false
TestsIf p objects word (Some type) answer = TestsWord p objects word type answer

pub store_tested : (p : LinkedProgram) (objects : List Object) (r word : ℕ) (answer : Bool) (component : Option LinkedType)
    → component ≡ option_and_then (component_in p.components.items) (slice_get objects r) → TestsIf p objects word component answer
    → TestsStore p objects r word answer
store_tested p objects r word answer component is tests files trees linkable linked world shows =
    at objects world.heap shows r (subst (λ c. TestsIf p objects word c answer) is tests)
  where
    none : answer ≡ false → answer ≡ may_stand_in words trees world no_object word
    none e = e

    by : (of : ObjectKind) (m : ObjectOf ℕ) → IsKindOf trees p.components.items of m
        → TestsIf p objects word (component_by p.components.items of) answer → answer ≡ may_stand_in words trees world m word
    by (kind.References number) (References type elements) h t =
        subst (λ c. TestsIf p objects word c answer) h.1 t files trees linkable linked (linked.components number h.0 h.1).tested world.heap type shows h.2
    by (kind.Instance number) (Instance class fields) h t = t
    by (kind.Instance number) (Characters text) h t = t
    by kind.Ints (Primitives of elements) h t = t
    by (kind.Narrow narrow) (Primitives of elements) h t = t
    by (kind.References number) (Instance class fields) h t = absurd h
    by (kind.References number) (Primitives of elements) h t = absurd h
    by (kind.References number) (Characters text) h t = absurd h
    by (kind.Instance number) (Primitives of elements) h t = absurd h
    by (kind.Instance number) (References of elements) h t = absurd h
    by kind.Ints (Instance class fields) h t = absurd h
    by kind.Ints (References of elements) h t = absurd h
    by kind.Ints (Characters text) h t = absurd h
    by (kind.Narrow narrow) (Instance class fields) h t = absurd h
    by (kind.Narrow narrow) (References of elements) h t = absurd h
    by (kind.Narrow narrow) (Characters text) h t = absurd h

    at : (os : List Object) (ms : List (ObjectOf ℕ)) → ShowsObjects trees p.components.items os ms
        → (k : ℕ) → TestsIf p objects word (option_and_then (component_in p.components.items) (slice_get os k)) answer
        → answer ≡ may_stand_in words trees world (slice_index_or ms k no_object) word
    at [] [] h k t = none t
    at [] (m ∷ ms) h k t = absurd h
    at (o ∷ os) [] h k t = absurd h
    at (o ∷ os) (m ∷ ms) h zero t = by o.kind m h.0.kind t
    at (o ∷ os) (m ∷ ms) h (suc k) t = at os ms h.1 k t

-- ---- the array

-- the third of the operands that are popped is as wanted
third : (accepts : Want → ℕ → Bool) (a b c : Want) (ss : List ℕ) → pops_meet accepts (a ∷ b ∷ c ∷ []) ss ≡ true
    → accepts c (slice_index_or ss 2 0) ≡ true
third accepts a b c [] h = absurd (false≢true h)
third accepts a b c (x ∷ []) h = absurd (false≢true (and_parts (accepts a x) false h).1)
third accepts a b c (x ∷ y ∷ []) h = absurd (false≢true (and_parts (accepts b y) false (and_parts (accepts a x) _ h).1).1)
third accepts a b c (x ∷ y ∷ z ∷ ss) h = (and_parts (accepts c z) true (and_parts (accepts b y) _ (and_parts (accepts a x) _ h).1).1).0

-- an array of references that is there
record IsHeld (heap : List (ObjectOf ℕ)) (r : ℕ) : Type 0 where
  pub array : ObjectOf ℕ
  pub there : slice_get heap r ≡ Some array
  pub is_array : is_array array ≡ true
  pub keeps : (word : ℕ) → kept_in array word ≡ word

held : (trees : Program) (heap : List (ObjectOf ℕ)) (r : ℕ)
    → is_word_with (types_of heap) (λ type. is_assignable trees type (ReferenceArray any_object)) (suc r) ≡ true → IsHeld heap r
held trees [] r e = absurd (false≢true e)
held trees (Instance class fields ∷ heap) zero e = absurd (false≢true e)
held trees (Primitives of elements ∷ heap) zero e = absurd (false≢true e)
held trees (Characters text ∷ heap) zero e = absurd (false≢true e)
held trees (References of elements ∷ heap) zero e = record { array = References of elements; there = refl; is_array = refl; keeps = λ word. refl }
held trees (m ∷ heap) (suc r) e = let h = held trees heap r e in record { array = h.array; there = h.there; is_array = h.is_array; keeps = h.keeps }

-- ---- aastore

abbrev array_want : Want
array_want = AReference (ReferenceArray any_object)

module _ {trees : Program} {p : LinkedProgram} {bounds : Bounds} {inflated : List ℕ} {t : ℕ} {shared : Shared} {stack : List
    ShownEntry} {state : StateOf ℕ} {frame : FrameOf ℕ} {rest : StackOf ℕ} {code : LinkedCode} {site : Site} {meaning : MeaningOf
    ℕ} {instruction : LinkedInstruction} (is : IsRunning trees p bounds inflated t shared stack state frame rest code site meaning
    instruction) (frames : ℕ) (word index r : ℕ) (from : ShownFrame) (top : from ≡ is.shown)
    (word_read : word ≡ slice_index_or from.operands 0 0) (index_read : index ≡ slice_index_or from.operands 1 0) (array_read : suc r ≡ slice_index_or from.operands 2 0)
    (means : meaning_of words trees site ≡ Some (store_reference_meaning words trees site)) where
  abbrev storing : ℕ → ℕ → ℕ → OutcomeOf ℕ
  storing a b x =
      at_index (in_range state.world x b) (if_storable (may_stand_in words trees state.world (object_at state.world x) a) (stored site.next state.world x b a frame.place.slots (drop 3 frame.place.slots.stack)))

  -- what comes of it where the index is one of the array
  abbrev if_within : OutcomeOf ℕ
  if_within =
      if_storable (may_stand_in words trees state.world (object_at state.world r) word) (stored site.next state.world r index word frame.place.slots (drop 3 frame.place.slots.stack))

  store_event : (outcome : OutcomeOf ℕ) → storing word index r ≡ outcome
      → IsEvent is frames (become words trees frames t state.world frame rest outcome)
  store_event outcome e =
      event_by is frames (store_reference_meaning words trees site) means refl outcome
      ((λ i. not_null (word_reference (operand_is is from top 3 2 (omega arith) (suc r) array_read i))
      (storing (operand_is is from top 3 0 (omega arith) word word_read i) (operand_is is from top 3 1 (omega arith) index index_read i)))
      ∙ e)

  array : IsHeld state.world.heap r
  array =
      let accepts : Want → ℕ → Bool = word_meets trees (types_of state.world.heap) in
      let ready = subst (λ (x : MeaningOf ℕ). IsTrue (is_ready accepts over_words x.wants is.stands.at.body.code.max_stack (record { locals = is.shown.locals; stack = is.shown.operands })))
      (meaning_is trees p bounds inflated t shared stack state frame rest code site meaning instruction is (store_reference_meaning words trees site) means)
      (finds_shown trees p bounds inflated t shared stack state frame rest code site meaning instruction is).ready in
      let wanted : accepts array_want (slice_index_or is.shown.operands 2 0) ≡ true =
      third accepts (AReference any_object) AnInt array_want is.shown.operands (and_parts (pops_meet accepts (AReference any_object ∷ AnInt ∷ array_want ∷ []) is.shown.operands) _ ready).0
      in
      held trees state.world.heap r (subst (λ w. accepts array_want w ≡ true) (sym (array_read ∙ ap (λ (f : ShownFrame). slice_index_or f.operands 2 0) top)) wanted)

  elements : HasElements trees p.components.items shared.heap.objects state.world.heap r array.array
  elements = are_elements trees p.components.items shared.heap.objects state.world.heap is.lent.represents.world_is.objects r array.array array.there array.is_array

  object_is : object_at state.world r ≡ array.array
  object_is = get_or_from_slice_get state.world.heap r array.array no_object array.there

  range_is : (within : Bool) → nat_lt index (length (words_at shared.heap.objects r)) ≡ within → in_range state.world r index ≡ within
  range_is within e = ap (λ m. nat_lt index (length (elements_of m))) object_is ∙ ap (λ l. nat_lt index (length l)) elements.are ∙ e

  pub outside : length (words_at shared.heap.objects r) ≤ index
      → DoesSo is frames (Ok (effect.Raises exception.ArrayIndexOutOfBounds)) shared (with_top from stack)
  outside le = (store_event _ (ap (λ b. at_index b if_within) (range_is false (le-ltb index (length (words_at shared.heap.objects r)) le))), stays is from top)

  module _ (lt : index < length (words_at shared.heap.objects r)) where
    within : in_range state.world r index ≡ true
    within = range_is true (lt-ltb index (length (words_at shared.heap.objects r)) lt)

    tested : (answer : Bool) → TestsStore p shared.heap.objects r word answer
        → storing word index r ≡ if_storable answer
        (stored site.next state.world r index word frame.place.slots (drop 3 frame.place.slots.stack))
    tested answer tests =
        ap (λ b. at_index b if_within) within
        ∙ ap (λ b. if_storable b (stored site.next state.world r index word frame.place.slots (drop 3 frame.place.slots.stack)))
        (sym (tests is.program.files trees is.program.linkable is.program.linked state.world is.lent.represents.world_is.objects))

    pub not_storable : TestsStore p shared.heap.objects r word false
        → DoesSo is frames (Ok (effect.Raises exception.ArrayStore)) shared (with_top from stack)
    not_storable tests = (store_event _ (tested false tests), stays is from top)

    abbrev after : WorldOf ℕ
    after = with_object state.world r (with_element index word (object_at state.world r))

    abbrev stored_in : Shared
    stored_in = record shared { heap = record shared.heap { objects = put_element shared.heap.objects r index word } }

    shows : Represents trees p bounds stored_in after
    shows =
        record {
          world_is = record {
            objects =
                subst (λ m. ShowsObjects trees p.components.items (put_element shared.heap.objects r index word) (slice_set state.world.heap r m))
                (ap (λ v. with_element index v array.array) (array.keeps word) ∙ ap (with_element index word) (sym object_is))
                (elements.written index word);
            counted =
                is.lent.represents.world_is.counted
                ∙ sym (ap (λ m. sum_by cells_of (drop (opening_count trees) (slice_set state.world.heap r m)))
                (ap (with_element index word) object_is ∙ sym (ap (λ v. with_element index v array.array) (array.keeps word)))
                ∙ elements.counted index word (opening_count trees));
            monitors = is.lent.represents.world_is.monitors;
            statics = is.lent.represents.world_is.statics;
            statuses = is.lent.represents.world_is.statuses;
            ready = is.lent.represents.world_is.ready;
            threads = is.lent.represents.world_is.threads;
            printed = is.lent.represents.world_is.printed;
            interned = is.lent.represents.world_is.interned;
            unnamed = is.lent.represents.world_is.unnamed;
          };
          limits = record {
            opening = is.lent.represents.limits.opening;
            objects = is.lent.represents.limits.objects;
            cells = is.lent.represents.limits.cells;
            monitors = is.lent.represents.limits.monitors;
            threads = is.lent.represents.limits.threads;
          };
        }

    pub stores : TestsStore p shared.heap.objects r word true → site.next ≡ offset_in code.starts.items (is.shown.place + 1)
        → (heap : Heap) → heap ≡ record shared.heap { objects = put_element shared.heap.objects r index word }
        → (to : ShownFrame) (told : Effect) → Leaves (Ok told) 3 [] from to
        → DoesSo is frames (Ok told) (record shared { heap = heap }) (with_top to stack)
    stores tests next heap heap_is to told left =
        subst (λ (h : Heap). DoesSo is frames (Ok told) (record shared { heap = h }) (with_top to stack)) (sym heap_is)
        (done_free is frames after stored_in 3 [] from to told left top
        (store_event (Goes Free after (slots_after is 3 []) site.next) (tested true tests) ∙ goes_on is frames Free after 3 [] next)
        shows refl refl refl)
