-- getfield and putfield by slots.
use Rattle.std.proofs.Common.{◌≡◌, ℕ, suc, ◌+◌, List, [], ◌∷◌, take, drop, Bool, true, false, Some, Result, Ok, refl, sym, ap, subst, ◌∙◌, arith}
use Rattle.std.specs.Prelude.{slice_get, slice_index_or, slice_set, if◌then◌else◌}
use Rattle.std.proofs.lemmas.Option.{get_or_from_slice_get}
use Rattle.model.specs.Names.{Name, Member, name_eq}
use Rattle.model.specs.Classes.{Program}
use Rattle.model.specs.LimitStands.{Bounds}
use Rattle.model.specs.ReferenceTypes.{ReferenceType, ClassType, is_assignable}
use Rattle.model.specs.Types.{AnOwner}
use Rattle.model.specs.DescribedTypes.{made_type, declared_want, field_declared}
use Rattle.model.specs.Calls.{of_class}
use Rattle.model.specs.Opening.{first_of}
use Rattle.model.specs.Operands.{words, word_reference}
use Rattle.model.specs.Outcomes.{NullPointer, not_null}
use Rattle.model.specs.State as model
use Rattle.model.specs.State.{Instance, FrameOf, StackOf, WorldOf, StateOf, type_of, types_of}
use Rattle.model.specs.Worlds.{no_object, object_at, with_object, fields_of, with_field, value_in, put_value, kept}
use Rattle.model.specs.Sites.{MeaningOf, Site, pushing}
use Rattle.model.specs.Meanings.{get_field_of, put_field_of, owner_want}
use Rattle.model.specs.Step.{SteppedOf, PartOf, become, raised}
use Rattle.heap.specs.Heap.{Heap, put_field, word_at}
use Rattle.linked_code.specs.declared.instruction.LinkedInstruction.{LinkedInstruction}
use Rattle.linked_code.specs.declared.instruction.LinkedInstruction.TheVariants as linked
use Rattle.model.specs.declared.primitive.Primitive.{Primitive}
use Rattle.model.specs.declared.primitive.Primitive.TheVariants as primitive
use Rattle.linked_code.specs.declared.method.LinkedCode.{LinkedCode}
use Rattle.linked_code.specs.declared.program.LinkedProgram.{LinkedProgram}
use Rattle.model.specs.Primitives.{primitive_of}
use Rattle.linked_code.specs.Fields.{HaveSlot, IsGetField, IsPutField}
use Rattle.linked_code.specs.Linked.{IsLinked, offset_in}
use Rattle.run_laws.specs.word_operands.Operands.{is_word_with, word_meets}
use Rattle.thread_stacks.specs.Stacks.{ShownFrame, ShownEntry, IsTopFrame, with_top}
use Rattle.machine_state.specs.shown_objects.Laws.{IsField}
use Rattle.machine_state.proofs.shown_objects.Strings.{instance_with}
use Rattle.machine_state.proofs.shown_objects.Objects.{are_fields}
use Rattle.machine_state.specs.declared.answers.Effect.{Effect}
use Rattle.machine_state.specs.declared.refusals.EventRefusal.{EventRefusal}
use Rattle.machine_state.specs.declared.state.Shared.{Shared}
use Rattle.machine_state.specs.Instructions.{instruction_event, Does}
use Rattle.machine_state.specs.linked_frames.Frames.{IsRunning, event_of}
use Rattle.machine_state.proofs.linked_frames.Frames.{event_is}
use Rattle.machine_instructions.specs.Leaving.{Leaves}
use Rattle.machine_instructions.specs.field_instructions.Puts as puts
use Rattle.machine_instructions.proofs.field_instructions.OnTop.{pops_met, lent_shows, operand_is, goes_on, IsShownAfter, done, done_or_refused}
use Rattle.machine_instructions.proofs.field_instructions.Referred.{meets_first, meets_second, referred, with_objects}

module _ (trees : Program) (p : LinkedProgram) (bounds : Bounds) (inflated : List ℕ) (t : ℕ) (old : Shared) (stack : List ShownEntry)
    (state : StateOf ℕ) (frame : FrameOf ℕ) (rest : StackOf ℕ) (code : LinkedCode) (site : Site) (meaning : MeaningOf ℕ) where
  -- the instance that a word refers to, with the slot of a field
  record Held (field : Member) (n r : ℕ) : Type 0 where
    pub class : Name
    pub fields : List (Member × ℕ)
    pub object : object_at state.world r ≡ Instance class fields
    pub field_is : IsField trees p.components.items old.heap.objects state.world.heap r n field class fields

  module _ (instruction : LinkedInstruction) (is : IsRunning trees p bounds inflated t old stack state frame rest code site meaning instruction) where
    held : (type : ReferenceType) (field : Member) (n r : ℕ) → HaveSlot trees type field n
        → is_word_with (types_of state.world.heap) (λ t. is_assignable trees t type) (suc r) ≡ true → Held field n r
    held type field n r slots e =
        let m = referred state.world.heap (λ t. is_assignable trees t type) r e in
        let c = slots (type_of m.object) m.passes in
        let i = instance_with trees m.object c.0 field n c.1 c.2 in
        let there : slice_get state.world.heap r ≡ Some (Instance c.0 i.0) = m.there ∙ ap (λ x. Some x) i.1 in
        record {
          class = c.0;
          fields = i.0;
          object = get_or_from_slice_get state.world.heap r (Instance c.0 i.0) no_object there;
          field_is = are_fields trees p.components.items old.heap.objects state.world.heap is.lent.represents.world_is.objects r c.0 i.0 there field n c.2;
        }

  -- ---- getfield

  module _ (slot : ℕ) (is : IsRunning trees p bounds inflated t old stack state frame rest code site meaning (linked.GetField slot)) (found : ShownFrame) (lent : IsTopFrame stack (Some found)) (frames : ℕ) where
    abbrev l : IsGetField trees site (offset_in code.starts.items (is.shown.place + 1)) slot
    l = is.stands.linked

    abbrev got : MeaningOf ℕ
    got = get_field_of words trees (offset_in code.starts.items (is.shown.place + 1)) l.named l.field

    -- by the word of the object
    event_by : (w : ℕ) → slice_index_or found.operands 0 0 ≡ w
        → instruction_event trees frames (event_of t) state.world frame rest meaning
        ≡ become words trees frames t state.world frame rest
        (not_null (word_reference w) (λ r. pushing (offset_in code.starts.items (is.shown.place + 1)) (value_in (first_of words l.field) l.field (fields_of (object_at state.world r)) ∷ []) state.world frame.place.slots (drop 1 frame.place.slots.stack)))
    event_by w e =
        event_is trees p bounds inflated t old stack state frame rest code site meaning (linked.GetField slot) is frames (event_of t) got l.is
        ∙ ap (λ x. become words trees frames t state.world frame rest
        (not_null (word_reference x) (λ r. pushing (offset_in code.starts.items (is.shown.place + 1)) (value_in (first_of words l.field) l.field (fields_of (object_at state.world r)) ∷ []) state.world frame.place.slots (drop 1 frame.place.slots.stack))))
        (operand_is trees p bounds inflated t old stack state frame rest code site meaning (linked.GetField slot) is found lent 1 0 w (omega arith) e)

    pub get_field_of_null : slice_index_or found.operands 0 0 ≡ 0
        → instruction_event trees frames (event_of t) state.world frame rest meaning
        ≡ raised words trees t NullPointer state.world (model.Invocation frame ∷ rest)
    get_field_of_null e = event_by 0 e

    meets : (w : ℕ) → slice_index_or found.operands 0 0 ≡ w → word_meets trees (types_of state.world.heap) (of_class trees l.named) w ≡ true
    meets w e =
        let same = lent_shows trees p bounds inflated t old stack state frame rest code site meaning (linked.GetField slot) is found lent in
        subst (λ x. word_meets trees (types_of state.world.heap) (of_class trees l.named) x ≡ true) (ap (λ (f : ShownFrame). slice_index_or f.operands 0 0) (sym same) ∙ e)
        (meets_first (word_meets trees (types_of state.world.heap)) (of_class trees l.named) [] is.shown.operands
        (pops_met trees p bounds inflated t old stack state frame rest code site meaning (linked.GetField slot) is got l.is))

    pub get_field_done : (r word : ℕ) → slice_index_or found.operands 0 0 ≡ suc r → word ≡ word_at old.heap.objects r slot
        → (left : ShownFrame) (result : Result Effect EventRefusal) → Leaves result 1 (word ∷ []) found left
        → Does trees p bounds inflated t state.world (model.Invocation frame
        ∷ rest) (instruction_event trees frames (event_of t) state.world frame rest meaning) result old old stack (with_top left stack)
    get_field_done r word is_r is_word left result leaves =
        let h = held (linked.GetField slot) is (made_type trees (ClassType l.named)) l.field slot r l.slots (meets (suc r) is_r) in
        let first = first_of words l.field in
        let value : value_in first l.field (fields_of (object_at state.world r)) ≡ word = ap (λ x. value_in first l.field (fields_of x)) h.object ∙ h.field_is.read first ∙ sym is_word in
        let goes = event_by (suc r) is_r
        ∙ ap (λ x. goes_on trees p bounds inflated t old stack state frame rest code site meaning (linked.GetField slot) is state.world 1 (x ∷ [])) value in
        subst (λ s. Does trees p bounds inflated t state.world (model.Invocation frame ∷ rest) s result old old stack (with_top left stack)) (sym goes)
        (done_or_refused trees p bounds inflated t old stack state frame rest code site meaning (linked.GetField slot) is 1 (word ∷ []) found lent left result leaves)

  -- ---- putfield

  linked_put : (at : ℕ → ℕ) (place slot : ℕ) (of : Primitive)
      → IsLinked trees p at code.instructions.items site place (puts.put_field_instruction of slot)
      → IsPutField trees site (at (place + 1)) slot (primitive_of of)
  linked_put at place slot primitive.Boolean l = l
  linked_put at place slot primitive.Char l = l
  linked_put at place slot primitive.Byte l = l
  linked_put at place slot primitive.Short l = l
  linked_put at place slot primitive.Int l = l

  module _ (of : Primitive) (slot : ℕ) (is : IsRunning trees p bounds inflated t old stack state frame rest code site meaning (puts.put_field_instruction of slot)) (found : ShownFrame) (lent : IsTopFrame stack (Some found)) (frames : ℕ) where
    put : IsPutField trees site (offset_in code.starts.items (is.shown.place + 1)) slot (primitive_of of)
    put = linked_put (offset_in code.starts.items) is.shown.place slot of is.stands.linked

    abbrev puts_it : MeaningOf ℕ
    puts_it = put_field_of words trees (offset_in code.starts.items (is.shown.place + 1)) put.named put.field

    -- by the words of the object and of the value
    abbrev put_with : ℕ → ℕ → SteppedOf (PartOf ℕ)
    put_with w v =
        become words trees frames t state.world frame rest
        (not_null (word_reference w) (λ r. pushing (offset_in code.starts.items (is.shown.place + 1)) [] (with_object state.world r (with_field put.field (put_value words put.field v) (object_at state.world r))) frame.place.slots (drop 2 frame.place.slots.stack)))

    put_by : (w v : ℕ) → slice_index_or found.operands 1 0 ≡ w → slice_index_or found.operands 0 0 ≡ v
        → instruction_event trees frames (event_of t) state.world frame rest meaning ≡ put_with w v
    put_by w v is_w is_v =
        event_is trees p bounds inflated t old stack state frame rest code site meaning (puts.put_field_instruction of slot) is frames (event_of t) puts_it put.is
        ∙ ap (λ x. put_with x (slice_index_or (take 2 frame.place.slots.stack) 0 0)) (operand_is trees p bounds inflated t old stack state frame rest code site meaning (puts.put_field_instruction of slot) is found lent 2 1 w (omega arith) is_w)
        ∙ ap (λ x. put_with w x) (operand_is trees p bounds inflated t old stack state frame rest code site meaning (puts.put_field_instruction of slot) is found lent 2 0 v (omega arith) is_v)

    pub put_field_of_null : slice_index_or found.operands 1 0 ≡ 0
        → instruction_event trees frames (event_of t) state.world frame rest meaning
        ≡ raised words trees t NullPointer state.world (model.Invocation frame ∷ rest)
    put_field_of_null e = put_by 0 (slice_index_or found.operands 0 0) e refl

    meets_owner : (w : ℕ) → slice_index_or found.operands 1 0 ≡ w
        → word_meets trees (types_of state.world.heap) (owner_want trees put.named put.field) w ≡ true
    meets_owner w e =
        let same = lent_shows trees p bounds inflated t old stack state frame rest code site meaning (puts.put_field_instruction of slot) is found lent in
        subst (λ x. word_meets trees (types_of state.world.heap) (owner_want trees put.named put.field) x ≡ true) (ap (λ (f : ShownFrame). slice_index_or f.operands 1 0) (sym same) ∙ e)
        (meets_second (word_meets trees (types_of state.world.heap)) (declared_want trees (field_declared put.field.descriptor)) (owner_want trees put.named put.field) [] is.shown.operands
        (pops_met trees p bounds inflated t old stack state frame rest code site meaning (puts.put_field_instruction of slot) is puts_it put.is))

    owned : (r : ℕ) (b : Bool) → word_meets
        trees (types_of state.world.heap) (if b then AnOwner put.named else of_class trees put.named) (suc r) ≡ true → Held put.field slot r
    owned r true e = held (puts.put_field_instruction of slot) is (ClassType put.named) put.field slot r put.own e
    owned r false e = held (puts.put_field_instruction of slot) is (made_type trees (ClassType put.named)) put.field slot r put.slots e

    pub put_field_done : (r v word : ℕ) → slice_index_or found.operands 1 0 ≡ suc r → slice_index_or found.operands 0 0 ≡ v
        → word ≡ kept (primitive_of of) v
        → (heap : Heap) → heap ≡ record old.heap { objects = put_field old.heap.objects r slot word }
        → (left : ShownFrame) (answer : Effect) → Leaves (Ok answer) 2 [] found left
        → Does trees p bounds inflated t state.world (model.Invocation frame
        ∷ rest) (instruction_event trees frames (event_of t) state.world frame rest meaning) (Ok answer) old (record old { heap = heap })
        stack (with_top left stack)
    put_field_done r v word is_r is_v is_word heap is_heap left answer leaves =
        let h = owned r (name_eq put.named put.field.class) (meets_owner (suc r) is_r) in
        let object = with_field put.field word (Instance h.class h.fields) in
        let is_object : with_field put.field (put_value words put.field v) (object_at state.world r) ≡ object =
        ap (λ x. with_field put.field x (object_at state.world r)) (put.keeps v ∙ sym is_word) ∙ ap (λ x. with_field put.field word x) h.object
        in
        let goes = put_by (suc r) v is_r is_v
        ∙ ap (λ x. goes_on trees p bounds inflated t old stack state frame rest code site meaning (puts.put_field_instruction of slot) is (with_object state.world r x) 2 []) is_object in
        let after = with_object state.world r object in
        let shown : IsShownAfter trees p bounds inflated t old stack state frame rest code site meaning (puts.put_field_instruction of slot) is after (record old { heap = record old.heap { objects = put_field old.heap.objects r slot word } }) =
        record {
          represents = with_objects trees p bounds old state.world is.lent.represents (put_field old.heap.objects r slot word) (slice_set state.world.heap r object) (h.field_is.written word) (h.field_is.counted word);
          fat = refl;
          stacks = refl;
          threads = refl;
        }
        in
        subst (λ s. Does trees p bounds inflated t state.world (model.Invocation frame ∷ rest) s (Ok answer) old (record old { heap = heap }) stack (with_top left stack)) (sym goes)
        (subst (λ (x : Heap). Does trees p bounds inflated t state.world (model.Invocation frame ∷ rest) (goes_on trees p bounds inflated t old stack state frame rest code site meaning (puts.put_field_instruction of slot) is after 2 []) (Ok answer) old (record old { heap = x }) stack (with_top left stack)) (sym is_heap)
        (done trees p bounds inflated t old stack state frame rest code site meaning (puts.put_field_instruction of slot) is after (record old { heap = record old.heap { objects = put_field old.heap.objects r slot word } }) shown 2 [] found lent left answer leaves))
