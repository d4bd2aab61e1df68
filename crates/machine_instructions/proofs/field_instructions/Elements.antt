-- Loads and stores of elements, and lengths of arrays.
use Rattle.std.proofs.Common.{◌≡◌, ℕ, suc, ◌+◌, ◌<◌, ◌≤◌, List, [], ◌∷◌, ◌++◌, length, take, drop, Bool, true, false, Some, Result, Ok, refl, sym, ap, subst, ◌∙◌, arith}
use Rattle.std.specs.Prelude.{nat_lt, slice_index_or, slice_set}
use Rattle.std.proofs.lemmas.Bool.{false≢true, lt-ltb, le-ltb}
use Rattle.std.proofs.lemmas.Option.{get_or_from_slice_get}
use Rattle.model.specs.declared.instr.ArrayKind.{ArrayKind}
use Rattle.model.specs.declared.instr.ArrayKind.TheVariants as array_kind
use Rattle.model.specs.Classes.{Program}
use Rattle.model.specs.Frames.{at_offset}
use Rattle.model.specs.LimitStands.{Bounds}
use Rattle.model.specs.ReferenceTypes.{Primitive, ReferenceType, PrimitiveArray, ReferenceArray, Int, Char, Short, is_assignable}
use Rattle.model.specs.Types.{VerificationType, Want, AnInt, AReference, AnArray, AByteArray, is_array_type, is_byte_array_type}
use Rattle.model.specs.Objects.{any_object}
use Rattle.model.specs.Operands.{words, word_reference, pops_meet}
use Rattle.model.specs.Outcomes.{Free, NullPointer, ArrayIndexOutOfBounds, OutcomeOf, not_null}
use Rattle.model.specs.State as model
use Rattle.model.specs.State.{ObjectOf, Instance, Primitives, References, Characters, FrameOf, StackOf, WorldOf, StateOf, type_of, types_of}
use Rattle.model.specs.Worlds.{no_object, object_at, with_object, elements_of, with_element}
use Rattle.model.specs.Arrays.{in_range, at_index, element_at, stored, kept_by, load_meaning, an_int, its_component, load_of, store_int_meaning, store_of, array_length_meaning}
use Rattle.model.specs.Sites.{MeaningOf, Site, pushing}
use Rattle.model.specs.Meanings.{meaning_of}
use Rattle.model.specs.Step.{SteppedOf, Next, PartOf, part, become, raised}
use Rattle.heap.specs.Heap.{Heap, words_at, word_at, put_element}
use Rattle.linked_code.specs.declared.instruction.LinkedInstruction.{LinkedInstruction}
use Rattle.linked_code.specs.declared.method.LinkedCode.{LinkedCode}
use Rattle.linked_code.specs.declared.program.LinkedProgram.{LinkedProgram}
use Rattle.linked_code.specs.Arrays.{is_narrow}
use Rattle.linked_code.specs.Linked.{offset_in}
use Rattle.run_laws.specs.word_operands.Operands.{word_meets, is_word_with}
use Rattle.thread_stacks.specs.Stacks.{ShownFrame, ShownEntry, IsTopFrame, with_top}
use Rattle.machine_state.specs.shown_objects.Laws.{is_array, kept_in, HasElements}
use Rattle.machine_state.proofs.shown_objects.Objects.{are_elements}
use Rattle.machine_state.specs.declared.answers.Effect.{Effect}
use Rattle.machine_state.specs.declared.refusals.EventRefusal.{EventRefusal}
use Rattle.machine_state.specs.declared.state.Shared.{Shared}
use Rattle.machine_state.specs.Instructions.{instruction_event, Does}
use Rattle.machine_state.specs.linked_frames.Frames.{IsRunning, event_of}
use Rattle.machine_state.proofs.linked_frames.Frames.{event_is}
use Rattle.machine_instructions.specs.Leaving.{Leaves}
use Rattle.machine_instructions.proofs.field_instructions.OnTop.{pops_met, lent_shows, operand_is, IsShownAfter, done, done_or_refused}
use Rattle.machine_instructions.proofs.field_instructions.Referred.{meets_first, meets_second, meets_third, referred, with_objects}

-- ---- arrays by what is wanted

module _ (trees : Program) where
  array_of_ints : (of : Primitive) (m : ObjectOf ℕ) → is_assignable trees (type_of m) (PrimitiveArray of) ≡ true → is_array m ≡ true
  array_of_ints of (Instance class fields) e = absurd (false≢true e)
  array_of_ints of (Characters text) e = absurd (false≢true e)
  array_of_ints of (Primitives own elements) e = refl
  array_of_ints of (References own elements) e = refl

  array_of_references : (of : ReferenceType) (m : ObjectOf ℕ) → is_assignable trees (type_of m) (ReferenceArray of) ≡ true → is_array m ≡ true
  array_of_references of (Instance class fields) e = absurd (false≢true e)
  array_of_references of (Characters text) e = absurd (false≢true e)
  array_of_references of (Primitives own elements) e = refl
  array_of_references of (References own elements) e = refl

  array_of_bytes : (m : ObjectOf ℕ) → is_byte_array_type (type_of m) ≡ true → is_array m ≡ true
  array_of_bytes (Instance class fields) e = absurd (false≢true e)
  array_of_bytes (Characters text) e = absurd (false≢true e)
  array_of_bytes (Primitives own elements) e = refl
  array_of_bytes (References own elements) e = refl

  array_of_any : (m : ObjectOf ℕ) → is_array_type (type_of m) ≡ true → is_array m ≡ true
  array_of_any (Instance class fields) e = absurd (false≢true e)
  array_of_any (Characters text) e = absurd (false≢true e)
  array_of_any (Primitives own elements) e = refl
  array_of_any (References own elements) e = refl

-- what an array keeps
keeps : (m : ObjectOf ℕ) (word : ℕ) → kept_by words m word ≡ kept_in m word
keeps (Instance class fields) word = refl
keeps (Primitives own elements) word = refl
keeps (References own elements) word = refl
keeps (Characters text) word = refl

module _ (trees : Program) (p : LinkedProgram) (bounds : Bounds) (inflated : List ℕ) (t : ℕ) (old : Shared) (stack : List ShownEntry) (state : StateOf ℕ) (frame : FrameOf ℕ) (rest : StackOf ℕ) (code : LinkedCode) (site : Site) (meaning : MeaningOf ℕ) (instruction : LinkedInstruction) (is : IsRunning trees p bounds inflated t old stack state frame rest code site meaning instruction) where
  -- the array that a word refers to
  pub record Held (r : ℕ) : Type 0 where
    pub array : ObjectOf ℕ
    pub there : object_at state.world r ≡ array
    pub elements : HasElements trees p.components.items old.heap.objects state.world.heap r array
    pub are : elements_of (object_at state.world r) ≡ words_at old.heap.objects r

  held : (test : ReferenceType → Bool) → ((m : ObjectOf ℕ) → test (type_of m) ≡ true → is_array m ≡ true) → (r : ℕ) → is_word_with (types_of state.world.heap) test (suc r) ≡ true → Held r
  held test array r e =
      let m = referred state.world.heap test r e in
      let there : object_at state.world r ≡ m.object = get_or_from_slice_get state.world.heap r m.object no_object m.there in
      let has = are_elements trees p.components.items old.heap.objects state.world.heap is.lent.represents.world_is.objects r m.object m.there (array m.object m.passes) in
      record { array = m.object; there = there; elements = has; are = ap elements_of there ∙ has.are }

  -- what is wanted as an array is one
  abbrev pub IsArrayWant : Want → Type 0
  IsArrayWant want = (r : ℕ) → word_meets trees (types_of state.world.heap) want (suc r) ≡ true → Held r

  ints_held : (of : Primitive) → IsArrayWant (AReference (PrimitiveArray of))
  ints_held of r e = held (λ t. is_assignable trees t (PrimitiveArray of)) (array_of_ints trees of) r e

  references_held : (of : ReferenceType) → IsArrayWant (AReference (ReferenceArray of))
  references_held of r e = held (λ t. is_assignable trees t (ReferenceArray of)) (array_of_references trees of) r e

  bytes_held : IsArrayWant AByteArray
  bytes_held r e = held is_byte_array_type (array_of_bytes trees) r e

  any_held : IsArrayWant AnArray
  any_held r e = held is_array_type (array_of_any trees) r e

  -- a load, whatever the array holds
  pub record Loads : Type 0 where
    pub want : Want
    pub type : List VerificationType → VerificationType
    pub means : meaning_of words trees site ≡ Some (load_meaning words site want 0 type)
    pub held_by : IsArrayWant want

  pub loads : (kind : ArrayKind) → meaning_of words trees site ≡ Some (load_of words trees site kind) → Loads
  loads array_kind.Int is = record { want = AReference (PrimitiveArray Int); type = an_int; means = is; held_by = ints_held Int }
  loads array_kind.Reference is = record { want = AReference (ReferenceArray any_object); type = its_component trees; means = is; held_by = references_held any_object }
  loads array_kind.ByteOrBoolean is = record { want = AByteArray; type = an_int; means = is; held_by = bytes_held }
  loads array_kind.Char is = record { want = AReference (PrimitiveArray Char); type = an_int; means = is; held_by = ints_held Char }
  loads array_kind.Short is = record { want = AReference (PrimitiveArray Short); type = an_int; means = is; held_by = ints_held Short }

  -- a store of an int, whatever the array keeps of it
  pub record Stores : Type 0 where
    pub want : Want
    pub means : meaning_of words trees site ≡ Some (store_int_meaning words site want)
    pub held_by : IsArrayWant want

  pub stores_int : meaning_of words trees site ≡ Some (store_of words trees site array_kind.Int) → Stores
  stores_int is = record { want = AReference (PrimitiveArray Int); means = is; held_by = ints_held Int }

  pub stores_narrow : (kind : ArrayKind) → is_narrow kind ≡ true → meaning_of words trees site ≡ Some (store_of words trees site kind) → Stores
  stores_narrow array_kind.Int narrow is = absurd (false≢true narrow)
  stores_narrow array_kind.Reference narrow is = absurd (false≢true narrow)
  stores_narrow array_kind.ByteOrBoolean narrow is = record { want = AByteArray; means = is; held_by = bytes_held }
  stores_narrow array_kind.Char narrow is = record { want = AReference (PrimitiveArray Char); means = is; held_by = ints_held Char }
  stores_narrow array_kind.Short narrow is = record { want = AReference (PrimitiveArray Short); means = is; held_by = ints_held Short }

  -- ---- an index

  outside : (r i : ℕ) → Held r → length (words_at old.heap.objects r) ≤ i → in_range state.world r i ≡ false
  outside r i h e = ap (λ l. nat_lt i (length l)) h.are ∙ le-ltb i (length (words_at old.heap.objects r)) e

  inside : (r i : ℕ) → Held r → i < length (words_at old.heap.objects r) → in_range state.world r i ≡ true
  inside r i h e = ap (λ l. nat_lt i (length l)) h.are ∙ lt-ltb i (length (words_at old.heap.objects r)) e

  -- ---- what becomes of the event

  module _ (found : ShownFrame) (lent : IsTopFrame stack (Some found)) (frames : ℕ) (next : site.next ≡ offset_in code.starts.items (is.shown.place + 1)) where
    abbrev event : SteppedOf (PartOf ℕ)
    event = instruction_event trees frames (event_of t) state.world frame rest meaning

    abbrev event_as : (m : MeaningOf ℕ) → meaning_of words trees site ≡ Some m → event ≡ instruction_event trees frames (event_of t) state.world frame rest m
    event_as m means = event_is trees p bounds inflated t old stack state frame rest code site meaning instruction is frames (event_of t) m means

    abbrev becomes : OutcomeOf ℕ → SteppedOf (PartOf ℕ)
    becomes outcome = become words trees frames t state.world frame rest outcome

    abbrev own : StackOf ℕ
    own = model.Invocation frame ∷ rest

    abbrev gone_to : (to : ℕ) → WorldOf ℕ → (count : ℕ) → List ℕ → SteppedOf (PartOf ℕ)
    gone_to to world count results =
        Next Free (part world (model.Invocation (at_offset frame to (record { locals = frame.place.slots.locals; stack = results ++ drop count frame.place.slots.stack })) ∷ rest))

    operand : (n k w : ℕ) → k < n → slice_index_or found.operands k 0 ≡ w → slice_index_or (take n frame.place.slots.stack) k 0 ≡ w
    operand = operand_is trees p bounds inflated t old stack state frame rest code site meaning instruction is found lent

    shown_operand : (k w : ℕ) → slice_index_or found.operands k 0 ≡ w → slice_index_or is.shown.operands k 0 ≡ w
    shown_operand k w e = ap (λ (f : ShownFrame). slice_index_or f.operands k 0) (sym (lent_shows trees p bounds inflated t old stack state frame rest code site meaning instruction is found lent)) ∙ e

    abbrev accepts : Want → ℕ → Bool
    accepts = word_meets trees (types_of state.world.heap)

    abbrev pops : (m : MeaningOf ℕ) → meaning_of words trees site ≡ Some m → pops_meet accepts m.wants.pops is.shown.operands ≡ true
    pops = pops_met trees p bounds inflated t old stack state frame rest code site meaning instruction is

    -- it is done, with a word left where memory lets it be
    left_word : (count word : ℕ) → event ≡ gone_to site.next state.world count (word ∷ []) → (left : ShownFrame) (result : Result Effect EventRefusal) → Leaves result count (word ∷ []) found left
        → Does trees p bounds inflated t state.world own event result old old stack (with_top left stack)
    left_word count word goes left result leaves =
        subst (λ s. Does trees p bounds inflated t state.world own s result old old stack (with_top left stack)) (sym (goes ∙ ap (λ n. gone_to n state.world count (word ∷ [])) next))
        (done_or_refused trees p bounds inflated t old stack state frame rest code site meaning instruction is count (word ∷ []) found lent left result leaves)

    -- ---- loads

    module _ (l : Loads) where
      abbrev load_with : (w i : ℕ) → OutcomeOf ℕ
      load_with w i =
          not_null (word_reference w) (λ r. at_index (in_range state.world r i) (pushing site.next (element_at 0 state.world r i ∷ []) state.world frame.place.slots (drop 2 frame.place.slots.stack)))

      load_by : (w i : ℕ) → slice_index_or found.operands 1 0 ≡ w → slice_index_or found.operands 0 0 ≡ i → event ≡ becomes (load_with w i)
      load_by w i is_w is_i =
          event_as (load_meaning words site l.want 0 l.type) l.means
          ∙ ap (λ x. becomes (load_with x (slice_index_or (take 2 frame.place.slots.stack) 0 0))) (operand 2 1 w (omega arith) is_w)
          ∙ ap (λ x. becomes (load_with w x)) (operand 2 0 i (omega arith) is_i)

      pub load_of_null : slice_index_or found.operands 1 0 ≡ 0 → event ≡ raised words trees t NullPointer state.world own
      load_of_null e = load_by 0 (slice_index_or found.operands 0 0) e refl

      loaded : (r : ℕ) → slice_index_or found.operands 1 0 ≡ suc r → Held r
      loaded r e = l.held_by r (subst (λ x. accepts l.want x ≡ true) (shown_operand 1 (suc r) e) (meets_second accepts AnInt l.want [] is.shown.operands (pops (load_meaning words site l.want 0 l.type) l.means)))

      pub load_outside : (r i : ℕ) → slice_index_or found.operands 1 0 ≡ suc r → slice_index_or found.operands 0 0 ≡ i → length (words_at old.heap.objects r) ≤ i → event ≡ raised words trees t ArrayIndexOutOfBounds state.world own
      load_outside r i is_r is_i e =
          load_by (suc r) i is_r is_i
          ∙ ap (λ b. becomes (at_index b (pushing site.next (element_at 0 state.world r i ∷ []) state.world frame.place.slots (drop 2 frame.place.slots.stack)))) (outside r i (loaded r is_r) e)

      pub load_done : (r i word : ℕ) → slice_index_or found.operands 1 0 ≡ suc r → slice_index_or found.operands 0 0 ≡ i → i < length (words_at old.heap.objects r) → word ≡ word_at old.heap.objects r i
          → (left : ShownFrame) (result : Result Effect EventRefusal) → Leaves result 2 (word ∷ []) found left
          → Does trees p bounds inflated t state.world own event result old old stack (with_top left stack)
      load_done r i word is_r is_i e is_word =
          let h = loaded r is_r in
          left_word 2 word
          (load_by (suc r) i is_r is_i
          ∙ ap (λ b. becomes (at_index b (pushing site.next (element_at 0 state.world r i ∷ []) state.world frame.place.slots (drop 2 frame.place.slots.stack)))) (inside r i h e)
          ∙ ap (λ x. gone_to site.next state.world 2 (x ∷ [])) (ap (λ l. slice_index_or l i 0) h.are ∙ sym is_word))

    -- ---- stores

    module _ (s : Stores) where
      abbrev stored_in : (r i v : ℕ) → OutcomeOf ℕ
      stored_in r i v = stored site.next state.world r i (kept_by words (object_at state.world r) v) frame.place.slots (drop 3 frame.place.slots.stack)

      abbrev store_with : (w i v : ℕ) → OutcomeOf ℕ
      store_with w i v = not_null (word_reference w) (λ r. at_index (in_range state.world r i) (stored_in r i v))

      store_by : (w i v : ℕ) → slice_index_or found.operands 2 0 ≡ w → slice_index_or found.operands 1 0 ≡ i → slice_index_or found.operands 0 0 ≡ v → event ≡ becomes (store_with w i v)
      store_by w i v is_w is_i is_v =
          event_as (store_int_meaning words site s.want) s.means
          ∙ ap (λ x. becomes (store_with x (slice_index_or (take 3 frame.place.slots.stack) 1 0) (slice_index_or (take 3 frame.place.slots.stack) 0 0))) (operand 3 2 w (omega arith) is_w)
          ∙ ap (λ x. becomes (store_with w x (slice_index_or (take 3 frame.place.slots.stack) 0 0))) (operand 3 1 i (omega arith) is_i)
          ∙ ap (λ x. becomes (store_with w i x)) (operand 3 0 v (omega arith) is_v)

      pub store_of_null : slice_index_or found.operands 2 0 ≡ 0 → event ≡ raised words trees t NullPointer state.world own
      store_of_null e = store_by 0 (slice_index_or found.operands 1 0) (slice_index_or found.operands 0 0) e refl refl

      storable : (r : ℕ) → slice_index_or found.operands 2 0 ≡ suc r → Held r
      storable r e = s.held_by r (subst (λ x. accepts s.want x ≡ true) (shown_operand 2 (suc r) e) (meets_third accepts AnInt AnInt s.want [] is.shown.operands (pops (store_int_meaning words site s.want) s.means)))

      pub store_outside : (r i : ℕ) → slice_index_or found.operands 2 0 ≡ suc r → slice_index_or found.operands 1 0 ≡ i → length (words_at old.heap.objects r) ≤ i → event ≡ raised words trees t ArrayIndexOutOfBounds state.world own
      store_outside r i is_r is_i e =
          store_by (suc r) i (slice_index_or found.operands 0 0) is_r is_i refl
          ∙ ap (λ b. becomes (at_index b (stored_in r i (slice_index_or found.operands 0 0)))) (outside r i (storable r is_r) e)

      pub store_done : (r i v : ℕ) → slice_index_or found.operands 2 0 ≡ suc r → slice_index_or found.operands 1 0 ≡ i → slice_index_or found.operands 0 0 ≡ v → i < length (words_at old.heap.objects r)
          → (heap : Heap) → heap ≡ record old.heap { objects = put_element old.heap.objects r i v }
          → (left : ShownFrame) (answer : Effect) → Leaves (Ok answer) 3 [] found left
          → Does trees p bounds inflated t state.world own event (Ok answer) old (record old { heap = heap }) stack (with_top left stack)
      store_done r i v is_r is_i is_v e heap is_heap left answer leaves =
          let h = storable r is_r in
          let array = with_element i (kept_in h.array v) h.array in
          let is_array : with_element i (kept_by words (object_at state.world r) v) (object_at state.world r) ≡ array =
          ap (λ x. with_element i (kept_by words x v) x) h.there ∙ ap (λ x. with_element i x h.array) (keeps h.array v)
          in
          let after = with_object state.world r array in
          let goes : event ≡ gone_to (offset_in code.starts.items (is.shown.place + 1)) after 3 [] =
          store_by (suc r) i v is_r is_i is_v
          ∙ ap (λ b. becomes (at_index b (stored_in r i v))) (inside r i h e)
          ∙ ap (λ x. gone_to site.next (with_object state.world r x) 3 []) is_array
          ∙ ap (λ n. gone_to n after 3 []) next
          in
          let new : Shared = record old { heap = record old.heap { objects = put_element old.heap.objects r i v } } in
          let shown : IsShownAfter trees p bounds inflated t old stack state frame rest code site meaning instruction is after new =
          record {
            represents = with_objects trees p bounds old state.world is.lent.represents (put_element old.heap.objects r i v) (slice_set state.world.heap r array) (h.elements.written i v) (h.elements.counted i v);
            fat = refl;
            stacks = refl;
            threads = refl;
          }
          in
          subst (λ s. Does trees p bounds inflated t state.world own s (Ok answer) old (record old { heap = heap }) stack (with_top left stack)) (sym goes)
          (subst (λ (x : Heap). Does trees p bounds inflated t state.world own (gone_to (offset_in code.starts.items (is.shown.place + 1)) after 3 []) (Ok answer) old (record old { heap = x }) stack (with_top left stack)) (sym is_heap)
          (done trees p bounds inflated t old stack state frame rest code site meaning instruction is after new shown 3 [] found lent left answer leaves))

    -- ---- lengths

    module _ (means : meaning_of words trees site ≡ Some (array_length_meaning words site)) where
      abbrev measure_with : (w : ℕ) → OutcomeOf ℕ
      measure_with w = not_null (word_reference w) (λ r. pushing site.next (length (elements_of (object_at state.world r)) ∷ []) state.world frame.place.slots (drop 1 frame.place.slots.stack))

      measure_by : (w : ℕ) → slice_index_or found.operands 0 0 ≡ w → event ≡ becomes (measure_with w)
      measure_by w is_w = event_as (array_length_meaning words site) means ∙ ap (λ x. becomes (measure_with x)) (operand 1 0 w (omega arith) is_w)

      pub length_of_null : slice_index_or found.operands 0 0 ≡ 0 → event ≡ raised words trees t NullPointer state.world own
      length_of_null e = measure_by 0 e

      pub length_done : (r word : ℕ) → slice_index_or found.operands 0 0 ≡ suc r → word ≡ length (words_at old.heap.objects r)
          → (left : ShownFrame) (result : Result Effect EventRefusal) → Leaves result 1 (word ∷ []) found left
          → Does trees p bounds inflated t state.world own event result old old stack (with_top left stack)
      length_done r word is_r is_word =
          let h = any_held r (subst (λ x. accepts AnArray x ≡ true) (shown_operand 0 (suc r) is_r) (meets_first accepts AnArray [] is.shown.operands (pops (array_length_meaning words site) means))) in
          left_word 1 word (measure_by (suc r) is_r ∙ ap (λ x. gone_to site.next state.world 1 (x ∷ [])) (ap (λ l. length l) h.are ∙ sym is_word))
