use Rattle.hierarchy.specs.Numbers.{named_rows}
use Rattle.hierarchy.proofs.Indices.{ok_weaken}
use Rattle.hierarchy.proofs.FieldLaws.{of_rows}
use Rattle.hierarchy.proofs.fields.rows_for_fields.Goals as goal

pub returns-else-are_flat : goal.returns-else-are_flat
returns-else-are_flat c = ok_weaken _ _ (λ rows is. of_rows c.args.set.now (named_rows c.args.names.now rows.items) is) c.ordered_supertype_rows.result c.ordered_supertype_rows.ensures
