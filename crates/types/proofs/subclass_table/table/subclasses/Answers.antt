use Rattle.std.proofs.Common.{◌≤◌, ◌*◌, length, sym, subst, arith}
use Rattle.model.specs.Classes.{classes_of}
use Rattle.types.specs.subclass_table.Rows.{FitIn, AreRows}
use Rattle.types.proofs.subclass_table.Placing.{fits}
use Rattle.types.proofs.subclass_table.Reading.{says}
use Rattle.types.proofs.subclass_table.table.subclasses.Goals as goal

pub rows_of-requires : goal.rows_of-requires
rows_of-requires c =
    let columns = c.in_ok-columns.columns in
    let few : length columns.classes.items ≤ c.div_ceil-width.result * 64 = omega (arith, c.div_ceil-width.ensures, c.len.ensures) in
    subst (λ l. FitIn l c.div_ceil-width.result) (sym c.deref-2.ensures.value) (fits c.deref.result.now columns.by_class.items columns.classes.items c.div_ceil-width.result c.in_ok-columns.ensures.columns few)

pub returns-clause-right : goal.returns-clause-right
returns-clause-right c =
    let files = c.args.hierarchy.now in
    let width = c.div_ceil-width.result in
    says files (record { columns = c.in_ok-columns.columns.by_class; width = width; bits = c.in_ok-bits.bits })
    (subst (λ l. AreRows files l width c.in_ok-bits.bits.items (length (classes_of files))) c.deref-2.ensures.value c.in_ok-bits.ensures)
