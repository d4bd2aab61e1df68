-- Rows as types see them.
use Rattle.std.proofs.Common.{◌≡◌, ℕ, List, [], ◌∷◌, Option, Some, None, Bool, true, false, Result, Ok, Err, length, map, take, drop, reverse, ◌-◌, ◌++◌, slice_set, refl, sym, ap, ◌∙◌}
use Rattle.std.specs.Option.{option_map}
use Rattle.std.specs.Result.{IsErr}
use Rattle.std.proofs.lemmas.List.{length-map, map-set, map-append, reverse-append}
use Rattle.std.specs.declared.alloc.AllocError.{AllocError}
use Rattle.model.specs.Classes.{Program}
use Rattle.model.specs.Types.{VerificationType, type_meets}
use Rattle.model.specs.Operands.{over_types, is_ready, operands, under}
use Rattle.model.specs.Rows as rows
use Rattle.model.specs.Rows.{Row, row_wants, after_row, written}
use Rattle.model.specs.TypeOrder as frames
use Rattle.types.specs.View.{type_in, frame_in}
use Rattle.types.specs.declared.verification_type.VerificationType as Declared
use Rattle.types.specs.declared.frame_type.FrameType.{FrameType}
use Rattle.smallvec.specs.SmallVec.{SmallVec}
use Rattle.instruction_types.specs.operand_types.View.{want_in}
use Rattle.instruction_types.specs.operand_types.RowView.{typed, typed_out, typed_write, out_in, writes_in, row_in, left_in}
use Rattle.instruction_types.specs.operand_types.Local.{row_ready, row_leaves, FlowsLocally}
use Rattle.instruction_types.specs.declared.operand_types.row.Out.{Out}
use Rattle.instruction_types.specs.declared.operand_types.row.LocalWrite.{LocalWrite}
use Rattle.instruction_types.specs.declared.operand_types.row.TypeRow.{TypeRow}
use Rattle.instruction_types.specs.declared.operand_types.local.LocalFlow.{LocalFlow}
use Rattle.instruction_types.specs.declared.operand_types.local.LocalFlow.TheVariants as flow
use Rattle.instruction_types.proofs.operand_types.Lists.{under_reversed}
use Rattle.instruction_types.proofs.operand_types.Operands.{shown_by}

-- ---- what types don't see makes no difference to them

same_out : (ops : List VerificationType) (o : rows.Out) → rows.out over_types ops (typed_out o) ≡ rows.out over_types ops o
same_out ops (rows.Copy which) = refl
same_out ops (rows.Number of) = refl
same_out ops rows.Null = refl

same_pushed : (ops : List VerificationType) (os : List rows.Out)
    → map (rows.out over_types ops) (map typed_out os) ≡ map (rows.out over_types ops) os
same_pushed ops [] = refl
same_pushed ops (o ∷ os) = ap (λ t. t ∷ map (rows.out over_types ops) (map typed_out os)) (same_out ops o) ∙ ap (λ ts. rows.out over_types ops o ∷ ts) (same_pushed ops os)

same_written : (ops : List VerificationType) (ws : List (ℕ × rows.Out)) (locals : List VerificationType)
    → written over_types ops (map typed_write ws) locals ≡ written over_types ops ws locals
same_written ops [] locals = refl
same_written ops (w ∷ ws) locals = ap (λ t. written over_types ops (map typed_write ws) (slice_set locals w.0 t)) (same_out ops w.1) ∙ same_written ops ws (slice_set locals w.0 (rows.out over_types ops w.1))

same_wants : (r : Row) → row_wants (typed r) ≡ row_wants r
same_wants r = ap (λ n. record { allowed = true; reads = r.reads; pops = r.pops; grows = n }) (length-map r.pushes typed_out)

same_leaves : (r : Row) (t : frames.FrameType) → row_leaves (typed r) t ≡ row_leaves r t
same_leaves r t =
    let ops : List VerificationType = operands over_types (row_wants r) t.slots in
    ap (λ ls. record { slots = record { locals = ls; stack = map (rows.out over_types ops) (map typed_out r.pushes) ++ under (row_wants r) t.slots }; constructed = t.constructed }) (same_written ops r.writes t.slots.locals)
    ∙ ap (λ ts. record { slots = record { locals = written over_types ops r.writes t.slots.locals; stack = ts ++ under (row_wants r) t.slots }; constructed = t.constructed }) (same_pushed ops r.pushes)

-- ---- a frame type after the code's row

module _ (files : Program) (row : TypeRow) (old new : FrameType) where
  abbrev after : frames.FrameType
  after = row_leaves (row_in files [] 0 row) (frame_in files old)

  abbrev found : List VerificationType
  found = operands over_types (row_wants (row_in files [] 0 row)) (frame_in files old).slots

  kept : row.writes ≡ None → new.locals.items ≡ old.locals.items → map (type_in files) new.locals.items ≡ after.slots.locals
  kept none e = ap (map (type_in files)) e ∙ ap (λ w. written over_types found (writes_in w) (map (type_in files) old.locals.items)) (sym none)

  wrote : (w : LocalWrite) (v : Declared.VerificationType) → row.writes ≡ Some w → new.locals.items ≡ slice_set old.locals.items w.local v
      → type_in files v ≡ left_in files row old w.out
      → map (type_in files) new.locals.items ≡ after.slots.locals
  wrote w v some set is =
      ap (map (type_in files)) set ∙ map-set (type_in files) old.locals.items w.local v
      ∙ ap (λ x. slice_set (map (type_in files) old.locals.items) w.local x) is
      ∙ ap (λ o. written over_types found (writes_in o) (map (type_in files) old.locals.items)) (sym some)

  laid_out : (os : List Out) → map (left_in files row old) os ≡ map (rows.out over_types found) (map out_in os)
  laid_out [] = refl
  laid_out (o ∷ os) = ap (λ l. left_in files row old o ∷ l) (laid_out os)

  stacked : (left : List Declared.VerificationType)
      → new.stack.items ≡ take (length old.stack.items - length row.pops.now) old.stack.items ++ left
      → reverse (map (type_in files) left) ≡ map (left_in files row old) row.pushes.now
      → reverse (map (type_in files) new.stack.items) ≡ after.slots.stack
  stacked left e is =
      let under = take (length old.stack.items - length row.pops.now) old.stack.items in
      ap (λ l. reverse (map (type_in files) l)) e ∙ ap reverse (map-append (type_in files) under left) ∙ reverse-append (map (type_in files) under) (map (type_in files) left)
      ∙ ap (λ l. l ++ reverse (map (type_in files) under)) (is ∙ laid_out row.pushes.now)
      ∙ ap (λ l. map (rows.out over_types found) (map out_in row.pushes.now) ++ l) (under_reversed (type_in files) (length row.pops.now) old.stack.items)
      ∙ ap (λ n. map (rows.out over_types found) (map out_in row.pushes.now) ++ drop n (frame_in files old).slots.stack) (sym (length-map row.pops.now (want_in files)))

  pub ran_reading : (left : List Declared.VerificationType) → row.writes ≡ None → new.locals.items ≡ old.locals.items
      → new.stack.items ≡ take (length old.stack.items - length row.pops.now) old.stack.items ++ left
      → new.constructed ≡ old.constructed → reverse (map (type_in files) left) ≡ map (left_in files row old) row.pushes.now
      → frame_in files new ≡ after
  ran_reading left none locals stack mark is = shown_by files new after.slots.locals after.slots.stack old.constructed (kept none locals) (stacked left stack is) mark

  pub ran_writing : (left : List Declared.VerificationType) (w : LocalWrite) (v : Declared.VerificationType) → row.writes ≡ Some w
      → new.locals.items ≡ slice_set old.locals.items w.local v
      → type_in files v ≡ left_in files row old w.out
      → new.stack.items ≡ take (length old.stack.items - length row.pops.now) old.stack.items ++ left
      → new.constructed ≡ old.constructed → reverse (map (type_in files) left) ≡ map (left_in files row old) row.pushes.now
      → frame_in files new ≡ after
  ran_writing left w v some locals at stack mark is = shown_by files new after.slots.locals after.slots.stack old.constructed (wrote w v some locals at) (stacked left stack is) mark

-- ---- what the code's row says of the model's

abbrev some_of : {A : Type 0} → A → Option A → A
some_of d None = d
some_of d (Some x) = x

module _ (files : Program) (max_stack : ℕ) (old new : frames.FrameType) where
  same_ready : (row r : Row) → Some row ≡ Some (typed r) → row_ready files row max_stack old ≡ row_ready files r max_stack old
  same_ready row r e = ap (λ o. row_ready files (some_of row o) max_stack old) e ∙ ap (λ w. is_ready (type_meets files) over_types w max_stack old.slots) (same_wants r)

  pub no_row : (o : Option Row) → None ≡ option_map typed o → new ≡ old → FlowsLocally files max_stack old new (Ok flow.NotLocal) o
  no_row None e same = same
  no_row (Some r) e same = absurd cc

  pub not_ready : (row : Row) (b : Bool) (o : Option Row) → Some row ≡ option_map typed o → b ≡ row_ready files row max_stack old
      → b ≡ false → new ≡ old → FlowsLocally files max_stack old new (Ok flow.NotReady) o
  not_ready row b None e asked is same = absurd cc
  not_ready row b (Some r) e asked is same = (sym (same_ready row r e) ∙ sym asked ∙ is, same)

  pub no_memory : (row : Row) (b : Bool) (result : Result LocalFlow AllocError) (o : Option Row) → Some row ≡ option_map typed o
      → b ≡ row_ready files row max_stack old → b ≡ true → IsErr result → new ≡ old
      → FlowsLocally files max_stack old new result o
  no_memory row b (Ok x) o e asked is err same = absurd cc
  no_memory row b (Err x) None e asked is err same = absurd cc
  no_memory row b (Err x) (Some r) e asked is err same = (sym (same_ready row r e) ∙ sym asked ∙ is, same)

  pub leads : (row : Row) (b : Bool) (targets : SmallVec ℕ) (o : Option Row) → Some row ≡ option_map typed o
      → b ≡ row_ready files row max_stack old → b ≡ true
      → new ≡ row_leaves row old → targets.items ≡ row.to ∷ row.others → FlowsLocally files max_stack old new (Ok (flow.Leads targets)) o
  leads row b targets None e asked is left to = absurd cc
  leads row b targets (Some r) e asked is left to = (
    sym (same_ready row r e) ∙ sym asked ∙ is,
    left ∙ ap (λ o. row_leaves (some_of row o) old) e ∙ same_leaves r old,
    to ∙ ap (λ o. (some_of row o).to ∷ (some_of row o).others) e,
  )
