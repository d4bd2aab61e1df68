-- Local instructions: their rows, as the flow of types sees them.
use Rattle.std.proofs.Common.{◌≡◌, ℕ, List, [], ◌∷◌, map, cond, Bool, false, ◌||◌, Option, Some, None, refl, sym, ap, ◌∙◌}
use Rattle.std.specs.Prelude.{Result, Ok, Err, IfOk}
use Rattle.model.specs.declared.instr.Instr.{Instr}
use Rattle.model.specs.declared.instr.Instr.TheVariants as instr
use Rattle.model.specs.declared.instr.Invocation.TheVariants as invocation
use Rattle.model.specs.Pool.{integers_of}
use Rattle.model.specs.Classes.{Program}
use Rattle.model.specs.Types.{VerificationType}
use Rattle.model.specs.Operands.{Slots, over_types, values, operands}
use Rattle.model.specs.Rows.{Row, row_wants, after_row, local_row}
use Rattle.model.specs.TypeOrder.{FrameType}
use Rattle.model.specs.Sites.{Site}
use Rattle.model.specs.Meanings.{local_meaning, local_or, meaning_of}
use Rattle.model.specs.Typing.{constructs_this, marked, successors}
use Rattle.std.specs.declared.alloc.AllocError.{AllocError}
use mathlib.Core.Bool.{or-false}
use Rattle.instruction_types.specs.declared.operand_types.local.LocalFlow.{LocalFlow}
use Rattle.instruction_types.specs.declared.operand_types.local.LocalFlow.TheVariants as flow
use Rattle.instruction_types.specs.operand_types.Local.{row_leaves, FlowsLocally}
use Rattle.verifier.specs.flow.Successors.{successors_by}
use Rattle.verifier.specs.flow.Local.{AnswersLocally}

-- a local instruction calls no constructor
constructs_none : (site : Site) (ops : List VerificationType) (ints : List (Option ℕ)) (code : List ℕ) (offset next : ℕ) (i : Instr)
    (row : Row) → local_row ints code offset next i ≡ Some row → constructs_this site ops i ≡ false
constructs_none site ops ints code offset next (instr.Invoke invocation.Special index) row e = absurd cc
constructs_none site ops ints code offset next other row e = refl

-- all targets have one frame type
marked_all : (c : Bool) (slots : Slots VerificationType) (tos : List ℕ)
    → map (marked c) (map (λ to. (to, slots)) tos) ≡ map (λ to. (to, record { slots = slots; constructed = c })) tos
marked_all c slots [] = refl
marked_all c slots (to ∷ tos) = ap (λ l. (to, record { slots = slots; constructed = c }) ∷ l) (marked_all c slots tos)

module _ (files : Program) (site : Site) where
  abbrev row_here : Option Row
  row_here = local_row (integers_of site.body.pool) site.body.code.code site.offset site.next site.instr

  row_means : (o : Option Row) (row : Row) → row_here ≡ o → o ≡ Some row → meaning_of values files site ≡ Some (local_meaning values row)
  row_means o row e q = ap (local_or values files site) (e ∙ q)

  row_leads : (row : Row) (t : FrameType) → row_here ≡ Some row
      → successors site (local_meaning values row) t ≡ map (λ to. (to, row_leaves row t)) (row.to ∷ row.others)
  row_leads row t e =
      let ops = operands over_types (row_wants row) t.slots in
      let none : (t.constructed || constructs_this site ops site.instr) ≡ t.constructed =
      ap (λ b. t.constructed || b) (constructs_none site ops (integers_of site.body.pool) site.body.code.code site.offset site.next site.instr row e) ∙ or-false t.constructed in
      ap (λ c. map (marked c) (map (λ to. (to, after_row over_types row t.slots)) (row.to ∷ row.others))) none
      ∙ marked_all t.constructed (after_row over_types row t.slots) (row.to ∷ row.others)

  pub answers : (old new : FrameType) (result : Result LocalFlow AllocError) (o : Option Row) → row_here ≡ o
      → FlowsLocally files site.body.code.max_stack old new result o → IfOk result (AnswersLocally files site old new)
  answers old new (Err e) o q h = tt
  answers old new (Ok flow.NotLocal) None q h = (h, ap (local_or values files site) q)
  answers old new (Ok flow.NotReady) None q h = absurd h
  answers old new (Ok (flow.Leads targets)) None q h = absurd h
  answers old new (Ok flow.NotLocal) (Some row) q h = absurd h
  answers old new (Ok flow.NotReady) (Some row) q h =
      ap (successors_by files site old) (row_means (Some row) row q refl) ∙ ap (λ b. cond b (Some (successors site (local_meaning values row) old)) None) h.0
  answers old new (Ok (flow.Leads targets)) (Some row) q h =
      ap (successors_by files site old) (row_means (Some row) row q refl)
      ∙ ap (λ b. cond b (Some (successors site (local_meaning values row) old)) None) h.0
      ∙ ap (λ l. Some l) (row_leads row old q ∙ ap (λ t. map (λ to. (to, t)) (row.to ∷ row.others)) (sym h.1) ∙ ap (λ tos. map (λ to. (to, new)) tos) (sym h.2))
