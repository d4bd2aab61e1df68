use Rattle.std.proofs.Common.{map}
use Rattle.std.proofs.lemmas.List.{map-id}
use Rattle.model.specs.Spelling.{u2, sized, table, exception, skipped}
use Rattle.class_tree.specs.View.{skipped_of}
use Rattle.class_tree.proofs.Appended.{five}
use Rattle.class_tree.proofs.spelled.CodeSpelled.put.Goals as goal

pub returns : goal.returns
returns c =
    let s = c.args.self.now in
    five c.args.out.now.items _ _ _ _ _ (u2 s.max_stack) (u2 s.max_locals) (sized s.code.items) (table exception s.exceptions.items) (table skipped (map skipped_of s.attributes.items))
    c.in_ok-put.ensures c.in_ok-put-2.ensures (rw c.deref.ensures.value at c.in_ok-put_sized.ensures) (rw (c.deref-2.ensures.value, map-id) at c.in_ok-put_table.ensures) (rw c.deref-3.ensures.value at c.in_ok-put_table-2.ensures)
