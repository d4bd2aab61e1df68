use Rattle.std.proofs.Common.{◌≡◌, ◌∙◌, ℕ, refl, sym, ap}
use Rattle.model.specs.declared.instr.Instr.TheVariants as instrs
use Rattle.model.specs.declared.instr.FieldAccess.{FieldAccess}
use Rattle.model.specs.declared.instr.FieldAccess.TheVariants as access
use Rattle.model.specs.Tree.{FileTree}
use Rattle.model.specs.Classes.{Program}
use Rattle.model.specs.Resolution.{unresolved_instruction}
use Rattle.classfile.specs.View.{file_of}
use Rattle.link_conditions.specs.declared.resolution.table.Row.{Row}
use Rattle.link_conditions.proofs.resolution.instruction.is_access_unresolved.Goals as goal

same_of_put : (files : Program) (file : FileTree) (k : ℕ)
    → unresolved_instruction files file (instrs.Field access.GetField k) ≡ unresolved_instruction files file (instrs.Field access.PutField k)
same_of_put files file k = refl

pub returns-in-PutField : goal.returns-in-PutField
returns-in-PutField c =
    let files = c.args.hierarchy.now in
    let file = file_of c.args.file.now in
    ap (λ (row : Row). row.instance_field) c.row_at-row.ensures
    ∙ same_of_put files file c.args.index
    ∙ ap (λ (how : FieldAccess). unresolved_instruction files file (instrs.Field how c.args.index)) (sym c.in-PutField.is)
