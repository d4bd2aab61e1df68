use Rattle.std.proofs.Common.{◌∙◌, List, sym, ap}
use Rattle.std.specs.Prelude.{position}
use Rattle.model.specs.Lookup.{is_field}
use Rattle.class_tree.specs.declared.tree.Field.{Field}
use Rattle.class_tree.specs.View.{field_of}
use Rattle.hierarchy.proofs.Finding.{position-map}
use Rattle.hierarchy.proofs.declared.field_place.Goals as goal

pub returns : goal.returns
returns c =
    let file = c.args.file.now in
    let test = is_field file.pool c.args.name.now c.args.descriptor.now in
    c.field_among.ensures ∙ ap (λ (l : List Field). position (λ f. test (field_of f)) l) c.deref.ensures.value ∙ sym (position-map test field_of file.fields.items)
