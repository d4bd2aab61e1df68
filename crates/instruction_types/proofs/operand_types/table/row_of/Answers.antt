use Rattle.std.proofs.Common.{◌∙◌, sym, ap, Some}
use Rattle.std.specs.Option.{option_map}
use Rattle.model.specs.Pool.{integers_of}
use Rattle.model.specs.Rows.{local_row}
use Rattle.instruction_types.specs.operand_types.RowView.{typed}
use Rattle.instruction_types.proofs.operand_types.table.row_of.Goals as goal

pub returns-in-Increment : goal.returns-in-Increment
returns-in-Increment c =
    let site = c.args.site in
    λ files. ap (λ r. Some r) (c.increment_row.ensures files site.code.now site.offset c.in-Increment.by)
    ∙ ap (λ i. option_map typed (local_row (integers_of site.pool.now) site.code.now site.offset site.next i)) (sym c.in-Increment.is)
