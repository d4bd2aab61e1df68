use Rattle.std.proofs.Common.{◌≡◌, true, map}
use Rattle.std.specs.List.{list_all}
use Rattle.std.proofs.lemmas.Bool.{and_from}
use Rattle.model.specs.Conditions.{field_indices, method_indices, skipped_indices}
use Rattle.class_tree.specs.View.{field_of, method_of, skipped_of}
use Rattle.class_tree.proofs.index.check_members.Goals as goal

pub returns : goal.returns
returns c =
    let file = c.args.file.now in
    let pool = file.pool in
    let fields : list_all (field_indices pool) (map field_of file.fields.items) ≡ true = rw (c.deref.ensures.value, c.requires) at c.in_ok-behind.ensures in
    let methods : list_all (method_indices pool) (map method_of file.methods.items) ≡ true = rw (c.deref-2.ensures.value, c.requires) at c.in_ok-behind-2.ensures in
    let attributes : list_all (skipped_indices pool) (map skipped_of file.attributes.items) ≡ true = rw (c.deref-3.ensures.value, c.requires) at c.in_ok-check_each.ensures in
    and_from _ _ fields (and_from _ _ methods attributes)
