-- A local instruction of linked files reads and writes local variables of its frame alone.
use Rattle.std.proofs.Common.{◌≡◌, ℕ, zero, suc, ◌+◌, ◌<◌, List, [], ◌∷◌, Bool, true, false, option_map, Option, Some, None, refl, sym, ap, ◌∙◌, subst, arith}
use Rattle.std.specs.Prelude.{slice_index_or, nat_le}
use Rattle.std.specs.Option.{option_map_or}
use Rattle.std.specs.List.{list_any}
use Rattle.std.proofs.lemmas.Bool.{false≢true, or_parts, leb-false}
use Rattle.std.proofs.lemmas.Option.{same_Some}
use Rattle.model.specs.declared.instr.Instr.{Instr}
use Rattle.model.specs.declared.instr.Instr.TheVariants as instr
use Rattle.model.specs.declared.instr.StackMove.{StackMove}
use Rattle.model.specs.declared.instr.StackMove.TheVariants.{Pop, Pop2, Dup, DupX1, DupX2, Dup2, Dup2X1, Dup2X2, Swap}
use Rattle.model.specs.Names.{Member}
use Rattle.model.specs.Tree.{CodeTree}
use Rattle.model.specs.Pool.{integers_of}
use Rattle.model.specs.Classes.{Program, Body, body_of}
use Rattle.model.specs.Instruction.{Sized, instr_at, sized_at}
use Rattle.model.specs.InstructionStarts.{is_start}
use Rattle.model.specs.CodeParts.{marked_from, any_instruction}
use Rattle.model.specs.CodeConditions.{jump_off_boundary, unsorted_matches, local_above_max, malformed_instruction}
use Rattle.model.specs.Rows.{Row, move_row, constant_row, local_row}
use Rattle.model.specs.Sites.{Site, site_with, site_at}
use Rattle.run_laws.proofs.laws.Found.{map_or_at}
use Rattle.run_laws.proofs.laws.Homes.{Coded, coded_of}
use Rattle.run_laws.proofs.laws.Unrefused.{Unrefused}
use Rattle.run_laws.proofs.laws.LinkedCode.{well_formed}
use Rattle.run_laws.specs.word_operands.Operands.{IsInFrame}

-- ---- by the instruction

module _ (body : Body) where
  below_max : (n : ℕ) → nat_le body.code.max_locals n ≡ false → n < body.code.max_locals
  below_max n h = leb-false body.code.max_locals n h

  -- a row with no local variables, or with some
  is_row : (r row : Row) → IsInFrame body r → Some r ≡ Some row → IsInFrame body row
  is_row r row h e = subst (IsInFrame body) (same_Some r row e) h

  constant_in : (next : ℕ) (row : Row) (o : Option ℕ) → option_map (constant_row next) o ≡ Some row → IsInFrame body row
  constant_in next row None e = absurd cc
  constant_in next row (Some bits) e = is_row (constant_row next bits) row (record { reads = tt; writes = tt }) e

  move_in : (move : StackMove) (next : ℕ) → IsInFrame body (move_row move next)
  move_in Pop next = record { reads = tt; writes = tt }
  move_in Pop2 next = record { reads = tt; writes = tt }
  move_in Dup next = record { reads = tt; writes = tt }
  move_in DupX1 next = record { reads = tt; writes = tt }
  move_in DupX2 next = record { reads = tt; writes = tt }
  move_in Dup2 next = record { reads = tt; writes = tt }
  move_in Dup2X1 next = record { reads = tt; writes = tt }
  move_in Dup2X2 next = record { reads = tt; writes = tt }
  move_in Swap next = record { reads = tt; writes = tt }

  module _ (integers : List (Option ℕ)) (code : List ℕ) (pc next : ℕ) (row : Row) where
    row_in : (i : Instr) → local_above_max body.code i ≡ false → local_row integers code pc next i ≡ Some row → IsInFrame body row
    row_in instr.Nop h e = is_row _ row (record { reads = tt; writes = tt }) e
    row_in instr.Null h e = is_row _ row (record { reads = tt; writes = tt }) e
    row_in (instr.Const n) h e = is_row _ row (record { reads = tt; writes = tt }) e
    row_in (instr.LoadConstant index) h e = constant_in next row (slice_index_or integers index None) e
    row_in (instr.Load kind local) h e = is_row _ row (record { reads = (below_max local h, tt); writes = tt }) e
    row_in (instr.Store kind local) h e = is_row _ row (record { reads = tt; writes = (below_max local h, tt) }) e
    row_in (instr.Move move) h e = is_row (move_row move next) row (move_in move next) e
    row_in (instr.Compute op) h e = is_row _ row (record { reads = tt; writes = tt }) e
    row_in instr.Negate h e = is_row _ row (record { reads = tt; writes = tt }) e
    row_in (instr.Increment local by) h e = is_row _ row (record { reads = (below_max local h, tt); writes = (below_max local h, tt) }) e
    row_in (instr.Convert to) h e = is_row _ row (record { reads = tt; writes = tt }) e
    row_in (instr.If comparison by) h e = is_row _ row (record { reads = tt; writes = tt }) e
    row_in (instr.IfInts comparison by) h e = is_row _ row (record { reads = tt; writes = tt }) e
    row_in (instr.IfReferences equal by) h e = is_row _ row (record { reads = tt; writes = tt }) e
    row_in (instr.IfNull null by) h e = is_row _ row (record { reads = tt; writes = tt }) e
    row_in (instr.Goto by) h e = is_row _ row (record { reads = tt; writes = tt }) e
    row_in (instr.TableSwitch default low high at) h e = is_row _ row (record { reads = tt; writes = tt }) e
    row_in (instr.LookupSwitch default pairs at) h e = is_row _ row (record { reads = tt; writes = tt }) e
    row_in _ h e = absurd cc

-- ---- where instructions of linked files stand

unmarked : (q : ℕ → Bool) (base : ℕ) (marks : List Bool) (k : ℕ) → list_any q (marked_from base marks) ≡ false
    → slice_index_or marks k false ≡ true → q (base + k) ≡ false
unmarked q base [] k h m = absurd (false≢true m)
unmarked q base (true ∷ marks) zero h m = subst (λ n. q n ≡ false) (omega arith) (or_parts (q base) _ h).0
unmarked q base (false ∷ marks) zero h m = absurd (false≢true m)
unmarked q base (true ∷ marks) (suc k) h m = subst (λ n. q n ≡ false) (omega arith) (unmarked q (suc base) marks k (or_parts (q base) _ h).1 m)
unmarked q base (false ∷ marks) (suc k) h m = subst (λ n. q n ≡ false) (omega arith) (unmarked q (suc base) marks k h m)

-- a condition that stands at no boundary
pub no_instruction : (test : ℕ → Instr → Bool) (c : CodeTree) (pc : ℕ) (i : Instr) → any_instruction test c ≡ false
    → is_start c.code pc ≡ true → instr_at c.code pc ≡ Some i → test pc i ≡ false
no_instruction test c pc i h start is =
    let at : ℕ → Bool = λ k. option_map_or (test k) (instr_at c.code k) false in
    let here : at pc ≡ false = subst (λ k. at k ≡ false) (omega arith) (unmarked at 0 _ pc h start) in
    sym (map_or_at (test pc) (instr_at c.code pc) false i is) ∙ here

module _ (files : Program) where
  module _ (ok : Unrefused files) where
    variables_in : (method : Member) (body : Body) (c : Coded files method body) (offset : ℕ) (i : Instr)
        → is_start c.code.code offset ≡ true → instr_at c.code.code offset ≡ Some i → local_above_max c.code i ≡ false
    variables_in method body c offset i start is =
        let formed : malformed_instruction files c.home.file c.code offset i ≡ false = well_formed files ok method body c offset i start is in
        let e = or_parts (jump_off_boundary c.code offset i) _ formed in
        let f = or_parts (unsorted_matches c.code i) _ e.1 in
        (or_parts (local_above_max c.code i) _ f.1).0

    in_code : (method : Member) (body : Body) (offset : ℕ) (i : Instr) → body_of files method ≡ Some body
        → is_start body.code.code offset ≡ true → instr_at body.code.code offset ≡ Some i → local_above_max body.code i ≡ false
    in_code method body offset i e =
        let c = coded_of files method body e in
        subst (λ (b : Body). is_start b.code.code offset ≡ true → instr_at b.code.code offset ≡ Some i → local_above_max b.code i ≡ false) (sym c.is_body)
        (variables_in method body c offset i)

    module _ (method : Member) (body : Body) (offset : ℕ) (is_body : body_of files method ≡ Some body) (start : is_start body.code.code offset ≡ true) where
      abbrev RowsOf : Site → Type 0
      RowsOf site = (row : Row) → local_row (integers_of site.body.pool) site.body.code.code site.offset site.next site.instr ≡ Some row → IsInFrame body row

      rows_at : (z : Sized) → sized_at body.code.code offset ≡ Some z → RowsOf (site_with method body offset z)
      rows_at z q row e =
          row_in body (integers_of body.pool) body.code.code offset (offset + z.1) row z.0
          (in_code method body offset z.0 is_body start (ap (option_map (λ (s : Sized). s.0)) q)) e

      rows_by : (o : Option Sized) → sized_at body.code.code offset ≡ o → (site : Site)
          → option_map (site_with method body offset) o ≡ Some site → RowsOf site
      rows_by None q site e = absurd cc
      rows_by (Some z) q site e = subst RowsOf (same_Some (site_with method body offset z) site e) (rows_at z q)

      pub rows_in : (site : Site) → site_at method body offset ≡ Some site → RowsOf site
      rows_in site e = rows_by (sized_at body.code.code offset) refl site e
