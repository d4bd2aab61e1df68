use Rattle.std.proofs.Common.{◌∙◌, length, ap}
use Rattle.model.specs.Classes.{classes_of}
use Rattle.hierarchy.specs.declared.rows.Above.TheVariants as above
use Rattle.hierarchy.specs.Above.{next_rows, rows_of}
use Rattle.hierarchy.specs.Numbers.{named_rows}
use Rattle.hierarchy.proofs.Indices.{ok_weaken}
use Rattle.hierarchy.proofs.RowLaws.{rows_step}
use Rattle.hierarchy.proofs.rows.interface_rows.Goals as goal

pub returns : goal.returns
returns c =
    let files = c.args.set.now in
    let near = ap (named_rows c.args.names.now) c.deref.ensures.value ∙ c.in_ok-near.ensures ∙ ap (rows_of files above.Interfaces) c.count.ensures in
    ok_weaken _ _ (λ rows is. is ∙ ap (next_rows files above.Interfaces) near ∙ rows_step files above.Interfaces (length (classes_of files))) c.rows_above.result c.rows_above.ensures
