use Rattle.std.proofs.Common.{map}
use Rattle.model.specs.Spelling.{table, field, method, skipped}
use Rattle.class_tree.specs.View.{field_of, method_of, skipped_of}
use Rattle.class_tree.proofs.Appended.{three}
use Rattle.class_tree.proofs.spelled.put_members.Goals as goal

pub returns : goal.returns
returns c =
    let file = c.args.file.now in
    three c.args.out.now.items _ _ _ (table field (map field_of file.fields.items)) (table method (map method_of file.methods.items)) (table skipped (map skipped_of file.attributes.items))
    (rw c.deref.ensures.value at c.in_ok-put_table.ensures) (rw c.deref-2.ensures.value at c.in_ok-put_table-2.ensures) (rw c.deref-3.ensures.value at c.in_ok-put_table-3.ensures)
