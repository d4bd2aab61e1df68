use Rattle.std.proofs.Common.{◌≤◌, length, arith, sym, subst, ap}
use Rattle.classfile.specs.View.{file_of}
use Rattle.model.specs.ReferenceTypes.{is_subclass_or_implements}
use Rattle.types.specs.subclass_table.Rows.{IsRow}
use Rattle.types.proofs.subclass_table.Making.{with_superclass}
use Rattle.types.proofs.subclass_table.class_rows.row_with_superclass.Goals as goal

pub returns-clause-row : goal.returns-clause-row
returns-clause-row c = λ columns steps p are is.
    let files = c.args.set.now in
    let name = c.in-Some.name.now in
    let row = c.in_ok-below.below.items in
    let its = c.in-Some-rows_of_name.ensures columns (length c.args.near.now) steps are in
    let other = subst (IsRow files columns (is_subclass_or_implements files name)) (sym c.deref.ensures.value) its.below in
    let wide : length c.deref.result.now ≤ length row = omega (arith, ap length c.deref.ensures.value, its.below_wide, ap length c.in_ok-below.ensures.items) in
    with_superclass files columns steps (file_of c.args.file.now) p row c.deref.result.now c.add_row.new.row.items name (sym c.in-Some.ensures) its.settled
    (subst (IsRow files columns p) (sym c.in_ok-below.ensures.items) is) other (c.add_row.ensures.bits wide)
