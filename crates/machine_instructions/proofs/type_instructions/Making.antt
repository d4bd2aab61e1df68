-- Instructions that make an object.
use Rattle.std.proofs.Common.{◌≡◌, ◌+◌, ◌<◌, ◌≤◌, ◌^◌, ℕ, suc, List, [], ◌∷◌, Some, Result, Ok, Err, Bool, true, false, length, drop, replicate, refl, sym, ap, subst, arith, ◌∙◌, inl}
use Rattle.std.specs.Prelude.{slice_index_or}
use Rattle.std.proofs.lemmas.Bool.{lt-leb, le-leb}
use Rattle.std.proofs.lemmas.List.{length-replicate}
use Rattle.model.specs.Classes.{Program}
use Rattle.model.specs.LimitStands.{Bounds}
use Rattle.model.specs.ReferenceTypes.{ReferenceType}
use Rattle.model.specs.Opening.{new_instance}
use Rattle.model.specs.Operands.{words}
use Rattle.model.specs.Outcomes.{Makes, Goes}
use Rattle.model.specs.Arrays.{is_negative, made_array, array_meaning}
use Rattle.model.specs.Objects.{new_meaning}
use Rattle.model.specs.Sites.{MeaningOf, Site}
use Rattle.model.specs.Meanings.{meaning_of}
use Rattle.model.specs.State.{ObjectOf, Primitives, FrameOf, StackOf, StateOf}
use Rattle.model.specs.Step.{Next, part, become}
use Rattle.model.specs.Worlds.{allocated, cells_of}
use Rattle.heap.specs.declared.kind.ObjectKind.{ObjectKind}
use Rattle.heap.specs.declared.kind.ObjectKind.TheVariants as kind
use Rattle.heap.specs.declared.refusal.AllocRefusal.{AllocRefusal}
use Rattle.heap.specs.Heap.{Heap, IsRefused, fresh}
use Rattle.linked_code.specs.declared.instruction.LinkedInstruction.{LinkedInstruction}
use Rattle.linked_code.specs.declared.method.LinkedCode.{LinkedCode}
use Rattle.linked_code.specs.declared.program.LinkedProgram.{LinkedProgram}
use Rattle.linked_code.specs.Linked.{offset_in}
use Rattle.model.specs.Primitives.{primitive_of}
use Rattle.model.specs.declared.primitive.Primitive.{Primitive}
use Rattle.model.specs.declared.primitive.Primitive.TheVariants as primitive
use Rattle.linked_code.specs.Objects.{IsNew}
use Rattle.machine_state.specs.shown_objects.Shown.{ShowsObject}
use Rattle.machine_state.proofs.shown_objects.New.{new_cells, new_shown}
use Rattle.thread_stacks.specs.Stacks.{ShownFrame, ShownEntry, with_top}
use Rattle.machine_state.specs.declared.answers.Effect.{Effect}
use Rattle.machine_state.specs.declared.answers.Effect.TheVariants as effect
use Rattle.machine_state.specs.declared.answers.MachineException.TheVariants as exception
use Rattle.machine_state.specs.declared.refusals.EventRefusal.{EventRefusal}
use Rattle.machine_state.specs.declared.refusals.EventRefusal.TheVariants as refusal
use Rattle.machine_state.specs.declared.state.Shared.{Shared}
use Rattle.machine_state.specs.Refusals.{of_heap}
use Rattle.machine_state.specs.Events.{MayBeRefused}
use Rattle.machine_state.specs.allocations.Allocated.{IsMade}
use Rattle.machine_state.proofs.allocations.Allocating.{made, refused}
use Rattle.machine_state.specs.linked_frames.Frames.{IsRunning}
use Rattle.machine_instructions.specs.Leaving.{gone_on}
use Rattle.machine_instructions.specs.type_instructions.Leaving.{LeavesNew}
use Rattle.machine_instructions.specs.type_instructions.Arrays.{kind_of_array, AreArrays}
use Rattle.machine_instructions.proofs.type_instructions.Events.{IsEvent, DoesSo, own_after, slots_after, place_small, operand_is, operands_there, unchanged, event_by, goes_on, shows_after, stays}

module _ {trees : Program} {p : LinkedProgram} {bounds : Bounds} {inflated : List ℕ} {t : ℕ} {shared : Shared} {stack : List
    ShownEntry} {state : StateOf ℕ} {frame : FrameOf ℕ} {rest : StackOf ℕ} {code : LinkedCode} {site : Site} {meaning : MeaningOf
    ℕ} {instruction : LinkedInstruction} (is : IsRunning trees p bounds inflated t shared stack state frame rest code site meaning
    instruction) where
  abbrev with_heap : Heap → Shared
  with_heap after = record shared { heap = after }

  -- ---- by how it leaves its frame

  module _ (frames : ℕ) (of : ObjectKind) (size cells count : ℕ) (object : ObjectOf ℕ) (shows : ShowsObject trees p.components.items (fresh of size) object)
      (counted : cells ≡ cells_of object)
      (event : IsEvent is frames (Next (Makes cells) (part (allocated state.world object) (own_after is count (suc (length state.world.heap) ∷ [])))))
      (after : Heap) (from to : ShownFrame) (top : from ≡ is.shown) where
    not_made : (told : EventRefusal) (why : AllocRefusal) → told ≡ of_heap why → IsRefused why cells shared.heap after → to ≡ from
        → DoesSo is frames (Err told) (with_heap after) (with_top to stack)
    not_made told why is_told told_so same =
        let both : MayBeRefused trees bounds inflated state.world (Makes cells) true (of_heap why) × (after ≡ shared.heap) = refused trees p bounds inflated state.world shared (with_heap after) is.lent.represents cells why told_so in (
          record { cost = Makes cells; next = _; is = event; may = subst (MayBeRefused trees bounds inflated state.world (Makes cells) true) (sym is_told) both.0 },
          record { shared = ap with_heap both.1; stack = unchanged is to (same ∙ top) },
        )

    pub makes : (result : Result Effect EventRefusal) → LeavesNew result of size cells count shared.heap after from to
        → count ≤ length is.shown.operands → DoesSo is frames result (with_heap after) (with_top to stack)
    makes (Ok effect.Done) left there =
        let reference = left.0 in
        let m : IsMade trees p bounds inflated state.world object reference cells shared (with_heap after) =
        made trees p bounds inflated state.world shared (with_heap after) is.lent.represents of reference size cells left.1 refl object shows counted
        in
        let small : from.place < 2 ^ 63 = subst (λ (f : ShownFrame). f.place < 2 ^ 63) (sym top) (place_small is) in
        let has : count ≤ length from.operands = subst (λ (f : ShownFrame). count ≤ length f.operands) (sym top) there in
        record {
          cost = Makes cells;
          next = part (allocated state.world object) (own_after is count (suc (length state.world.heap) ∷ []));
          is = event;
          becomes = record {
            within = m.within;
            there = tt;
            represents = m.represents;
            stack = shows_after is count (suc (length state.world.heap) ∷ []) from to top (left.2 small has ∙ ap (λ r. gone_on count (suc r ∷ []) from) m.next);
            flags = m.flags;
            others = inl (record { stacks = refl; threads = refl });
          };
        }
    makes (Ok (effect.Raises fault)) left there = absurd left
    makes (Ok (effect.Throws thrown)) left there = absurd left
    makes (Ok effect.Interrupts) left there = absurd left
    makes (Ok effect.NotEnabled) left there = absurd left
    makes (Err refusal.Memory) left there =
        (record { cost = Makes cells; next = _; is = event; may = refl }, record { shared = ap with_heap left.0; stack = unchanged is to (left.1 ∙ top) })
    makes (Err refusal.Objects) left there = not_made refusal.Objects left.0.0 left.0.1 left.0.2 left.1
    makes (Err refusal.Cells) left there = not_made refusal.Cells left.0.0 left.0.1 left.0.2 left.1
    makes (Err refusal.Monitors) left there = not_made refusal.Monitors left.0.0 left.0.1 left.0.2 left.1
    makes (Err refusal.Threads) left there = not_made refusal.Threads left.0.0 left.0.1 left.0.2 left.1
    makes (Err refusal.LockCount) left there = not_made refusal.LockCount left.0.0 left.0.1 left.0.2 left.1

  -- ---- new

  pub makes_object : (class cells uncounted : ℕ) → IsNew trees site (offset_in code.starts.items (is.shown.place + 1)) class cells uncounted
      → (fields : ℕ) → fields ≡ cells + uncounted
      → (frames : ℕ) (after : Heap) (from to : ShownFrame) → from ≡ is.shown
      → (result : Result Effect EventRefusal) → LeavesNew result (kind.Instance class) fields cells 0 shared.heap after from to
      → DoesSo is frames result (with_heap after) (with_top to stack)
  makes_object class cells uncounted new fields all frames after from to top result left =
      let object = new_instance words trees new.named in
      let count : cells_of object ≡ cells = new_cells trees new.named ∙ sym new.costs in
      let shows : ShowsObject trees p.components.items (fresh (kind.Instance class) fields) object =
      new_shown trees new.named p.components.items class fields new.numbered (all ∙ new.counted)
      in
      let results = suc (length state.world.heap) ∷ [] in
      makes frames (kind.Instance class) fields cells 0 object shows (sym count)
      (event_by is frames (new_meaning words trees site new.named) new.is refl (Goes (Makes cells) (allocated state.world object) (slots_after is 0 results) site.next)
      (ap (λ n. Goes (Makes n) (allocated state.world object) (slots_after is 0 results) site.next) count)
      ∙ goes_on is frames (Makes cells) (allocated state.world object) 0 results new.to)
      after from to top result left (omega arith)

  -- ---- newarray, anewarray

  module _ (type : ReferenceType) (array : List ℕ → ObjectOf ℕ) (means : meaning_of words trees site ≡ Some (array_meaning words trees site type array 0)) (frames : ℕ)
      (w : ℕ) (from : ShownFrame) (top : from ≡ is.shown) (read : w ≡ slice_index_or from.operands 0 0) where
    -- by the word of the count
    array_event : (negative : Bool) → is_negative w ≡ negative
        → IsEvent is frames (become words trees frames t state.world frame
        rest (made_array words negative site.next w array 0 state.world frame.place.slots (drop 1 frame.place.slots.stack)))
    array_event negative e =
        event_by is frames (array_meaning words trees site type array 0) means refl _
        (ap (λ n. made_array words (is_negative n) site.next n array 0 state.world frame.place.slots (drop 1 frame.place.slots.stack)) (operand_is is from top 1 0 (omega arith) w read)
        ∙ ap (λ b. made_array words b site.next w array 0 state.world frame.place.slots (drop 1 frame.place.slots.stack)) e)

    pub below_zero : 2 ^ 31 ≤ w → DoesSo is frames (Ok (effect.Raises exception.NegativeArraySize)) shared (with_top from stack)
    below_zero le = (array_event true (le-leb (2 ^ 31) w le), stays is from top)

    pub makes_array : w < 2 ^ 31 → site.next ≡ offset_in code.starts.items (is.shown.place + 1) → (of : ObjectKind)
        → AreArrays trees p of array
        → (after : Heap) (to : ShownFrame) (result : Result Effect EventRefusal) → LeavesNew result of w w 1 shared.heap after from to
        → DoesSo is frames result (with_heap after) (with_top to stack)
    makes_array lt next of shows after to result left =
        makes frames of w w 1 (array (replicate w 0)) (shows w).0 (shows w).1
        (array_event false (lt-leb (2 ^ 31) w lt) ∙ goes_on is frames (Makes w) (allocated state.world (array (replicate w 0))) 1 (suc (length state.world.heap) ∷ []) next)
        after from to top result left (operands_there is (array_meaning words trees site type array 0) means)

-- ---- arrays of primitive types

pub primitive_arrays : (trees : Program) (p : LinkedProgram) (of : Primitive)
    → AreArrays trees p (kind_of_array of) (λ elements. Primitives (primitive_of of) elements)
primitive_arrays trees p primitive.Boolean count = (record { kind = refl; words = refl }, sym (length-replicate count 0))
primitive_arrays trees p primitive.Char count = (record { kind = refl; words = refl }, sym (length-replicate count 0))
primitive_arrays trees p primitive.Byte count = (record { kind = refl; words = refl }, sym (length-replicate count 0))
primitive_arrays trees p primitive.Short count = (record { kind = refl; words = refl }, sym (length-replicate count 0))
primitive_arrays trees p primitive.Int count = (record { kind = refl; words = refl }, sym (length-replicate count 0))
