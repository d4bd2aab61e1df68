use Rattle.std.proofs.lemmas.List.{map-id}
use Rattle.class_tree.specs.View.{code_of}
use Rattle.class_tree.proofs.Fronts.{code_long}
use Rattle.class_tree.proofs.spelled.CodeSpelled.length.Goals as goal

pub returns : goal.returns
returns c =
    code_long (code_of c.args.self.now) c.length_of.result c.length_of-2.result c.length_around.result c.saturating_add.result c.saturating_add-2.result (rw c.deref.ensures.value at c.length_around.ensures)
    (rw (c.deref-2.ensures.value, map-id) at c.length_of.ensures) c.saturating_add.ensures (rw c.deref-3.ensures.value at c.length_of-2.ensures) c.saturating_add-2.ensures
