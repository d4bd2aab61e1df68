-- getstatic and putstatic by slots, and System.out.
use Rattle.std.proofs.Common.{◌≡◌, ℕ, ◌+◌, List, [], ◌∷◌, take, Some, Result, Ok, refl, sym, ap, subst, ◌∙◌, arith, Vec, Global}
use Rattle.std.specs.Prelude.{slice_index, slice_index_or, slice_set}
use Rattle.model.specs.Classes.{Program}
use Rattle.model.specs.LimitStands.{Bounds}
use Rattle.model.specs.Opening.{first_of}
use Rattle.model.specs.Operands.{words}
use Rattle.model.specs.State as model
use Rattle.model.specs.State.{FrameOf, StackOf, StateOf}
use Rattle.model.specs.Worlds.{value_in, with_static, kept}
use Rattle.model.specs.Sites.{MeaningOf, Site}
use Rattle.model.specs.Meanings.{system_stream_meaning, get_static_of, put_static_of}
use Rattle.linked_code.specs.declared.instruction.LinkedInstruction.TheVariants as linked
use Rattle.model.specs.declared.primitive.Primitive.{Primitive}
use Rattle.model.specs.declared.primitive.Primitive.TheVariants as primitive
use Rattle.linked_code.specs.declared.method.LinkedCode.{LinkedCode}
use Rattle.linked_code.specs.declared.program.LinkedProgram.{LinkedProgram}
use Rattle.model.specs.Primitives.{primitive_of}
use Rattle.linked_code.specs.Fields.{IsGetStatic, IsPutStatic}
use Rattle.linked_code.specs.Linked.{IsLinked, offset_in}
use Rattle.thread_stacks.specs.Stacks.{ShownFrame, ShownEntry, IsTopFrame, with_top}
use Rattle.machine_state.specs.shown_objects.Shown.{ShowsStatics}
use Rattle.machine_state.proofs.shown_objects.Objects.{are_statics}
use Rattle.machine_state.specs.declared.answers.Effect.{Effect}
use Rattle.machine_state.specs.declared.refusals.EventRefusal.{EventRefusal}
use Rattle.machine_state.specs.declared.state.Shared.{Shared}
use Rattle.machine_state.specs.Instructions.{instruction_event, Does}
use Rattle.machine_state.specs.linked_frames.Frames.{IsRunning, event_of}
use Rattle.machine_state.proofs.linked_frames.Frames.{event_is}
use Rattle.machine_instructions.specs.Leaving.{Leaves}
use Rattle.machine_instructions.specs.field_instructions.Puts as puts
use Rattle.machine_instructions.proofs.field_instructions.OnTop.{operand_is, goes_on, IsShownAfter, done, done_or_refused}
use Rattle.machine_instructions.proofs.field_instructions.Referred.{with_slots}

module _ (trees : Program) (p : LinkedProgram) (bounds : Bounds) (inflated : List ℕ) (t : ℕ) (old : Shared) (stack : List ShownEntry)
    (state : StateOf ℕ) (frame : FrameOf ℕ) (rest : StackOf ℕ) (code : LinkedCode) (site : Site) (meaning : MeaningOf ℕ) where
  -- ---- System.out and System.err

  module _ (word : ℕ) (is : IsRunning trees p bounds inflated t old stack state frame rest code site meaning (linked.GetSystemStream word)) (found : ShownFrame) (lent : IsTopFrame stack (Some found)) (frames : ℕ) where
    pub get_system_stream_done : (left : ShownFrame) (result : Result Effect EventRefusal) → Leaves result 0 (word ∷ []) found left
        → Does trees p bounds inflated t state.world (model.Invocation frame
        ∷ rest) (instruction_event trees frames (event_of t) state.world frame rest meaning) result old old stack (with_top left stack)
    get_system_stream_done left result leaves =
        let l = is.stands.linked in
        let next = offset_in code.starts.items (is.shown.place + 1) in
        subst (λ s. Does trees p bounds inflated t state.world (model.Invocation frame ∷ rest) s result old old stack (with_top left stack))
        (sym (event_is trees p bounds inflated t old stack state frame rest code site meaning (linked.GetSystemStream word) is frames (event_of t) (system_stream_meaning words next l.stream) l.is
        ∙ ap (λ w. goes_on trees p bounds inflated t old stack state frame rest code site meaning (linked.GetSystemStream word) is state.world 0 (w ∷ [])) (sym l.refers)))
        (done_or_refused trees p bounds inflated t old stack state frame rest code site meaning (linked.GetSystemStream word) is 0 (word ∷ []) found lent left result leaves)

  -- ---- getstatic

  module _ (class slot : ℕ) (is : IsRunning trees p bounds inflated t old stack state frame rest code site meaning (linked.GetStatic class slot)) (found : ShownFrame) (lent : IsTopFrame stack (Some found)) (frames : ℕ) where
    abbrev l : IsGetStatic trees site (offset_in code.starts.items (is.shown.place + 1)) class slot
    l = is.stands.linked

    pub get_static_done : (word : ℕ) → word ≡ slice_index old.statics.items slot
        → (left : ShownFrame) (result : Result Effect EventRefusal) → Leaves result 0 (word ∷ []) found left
        → Does trees p bounds inflated t state.world (model.Invocation frame
        ∷ rest) (instruction_event trees frames (event_of t) state.world frame rest meaning) result old old stack (with_top left stack)
    get_static_done word is_word left result leaves =
        let first = first_of words l.field in
        let static = are_statics trees old.statics.items state.world.statics is.lent.represents.world_is.statics l.field slot l.slots in
        let value : value_in first l.field state.world.statics ≡ word = static.read first ∙ sym is_word in
        let goes = event_is trees p bounds inflated t old stack state frame rest code site meaning (linked.GetStatic class slot) is frames (event_of t) (get_static_of words trees (offset_in code.starts.items (is.shown.place + 1)) l.field) l.is
        ∙ ap (λ x. goes_on trees p bounds inflated t old stack state frame rest code site meaning (linked.GetStatic class slot) is state.world 0 (x ∷ [])) value in
        subst (λ s. Does trees p bounds inflated t state.world (model.Invocation frame ∷ rest) s result old old stack (with_top left stack)) (sym goes)
        (done_or_refused trees p bounds inflated t old stack state frame rest code site meaning (linked.GetStatic class slot) is 0 (word ∷ []) found lent left result leaves)

  -- ---- putstatic

  linked_put : (at : ℕ → ℕ) (place class slot : ℕ) (of : Primitive)
      → IsLinked trees p at code.instructions.items site place (puts.put_static_instruction of class slot)
      → IsPutStatic trees site (at (place + 1)) class slot (primitive_of of)
  linked_put at place class slot primitive.Boolean l = l
  linked_put at place class slot primitive.Char l = l
  linked_put at place class slot primitive.Byte l = l
  linked_put at place class slot primitive.Short l = l
  linked_put at place class slot primitive.Int l = l

  module _ (of : Primitive) (class slot : ℕ) (is : IsRunning trees p bounds inflated t old stack state frame rest code site meaning (puts.put_static_instruction of class slot)) (found : ShownFrame) (lent : IsTopFrame stack (Some found)) (frames : ℕ) where
    put : IsPutStatic trees site (offset_in code.starts.items (is.shown.place + 1)) class slot (primitive_of of)
    put = linked_put (offset_in code.starts.items) is.shown.place class slot of is.stands.linked

    pub put_static_done : (v word : ℕ) → slice_index_or found.operands 0 0 ≡ v → word ≡ kept (primitive_of of) v
        → (statics : Vec ℕ Global) → statics.items ≡ slice_set old.statics.items slot word
        → (left : ShownFrame) (answer : Effect) → Leaves (Ok answer) 1 [] found left
        → Does trees p bounds inflated t state.world (model.Invocation frame
        ∷ rest) (instruction_event trees frames (event_of t) state.world frame rest meaning) (Ok answer)
        old (record old { statics = statics }) stack (with_top left stack)
    put_static_done v word is_v is_word statics is_statics left answer leaves =
        let next = goes_on trees p bounds inflated t old stack state frame rest code site meaning (puts.put_static_instruction of class slot) is in
        let static = are_statics trees old.statics.items state.world.statics is.lent.represents.world_is.statics put.field slot put.slots in
        let after = with_static state.world put.field word in
        let operand = operand_is trees p bounds inflated t old stack state frame rest code site meaning (puts.put_static_instruction of class slot) is found lent 1 0 v (omega arith) is_v in
        let goes = event_is trees p bounds inflated t old stack state frame rest code site meaning (puts.put_static_instruction of class slot) is frames (event_of t) (put_static_of words trees (offset_in code.starts.items (is.shown.place + 1)) put.field) put.is
        ∙ ap (λ x. next (with_static state.world put.field x) 1 []) (put.keeps (slice_index_or (take 1 frame.place.slots.stack) 0 0) ∙ ap (kept (primitive_of of)) operand ∙ sym is_word) in
        let shown : IsShownAfter trees p bounds inflated t old stack state frame rest code site meaning (puts.put_static_instruction of class slot) is after (record old { statics = statics }) =
        record {
          represents = with_slots trees p bounds old state.world is.lent.represents statics after.statics (subst (λ s. ShowsStatics trees s after.statics) (sym is_statics) (static.written word));
          fat = refl;
          stacks = refl;
          threads = refl;
        }
        in
        subst (λ s. Does trees p bounds inflated t state.world (model.Invocation frame ∷ rest) s (Ok answer) old (record old { statics = statics }) stack (with_top left stack)) (sym goes)
        (done trees p bounds inflated t old stack state frame rest code site meaning (puts.put_static_instruction of class slot) is after (record old { statics = statics }) shown 1 [] found lent left answer leaves)
