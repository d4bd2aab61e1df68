use Rattle.std.proofs.Common.{◌∙◌, List, sym, ap}
use Rattle.std.specs.Prelude.{position}
use Rattle.model.specs.Classes.{is_method}
use Rattle.class_tree.specs.declared.tree.Method.{Method}
use Rattle.class_tree.specs.View.{method_of}
use Rattle.hierarchy.proofs.Finding.{position-map}
use Rattle.hierarchy.proofs.declared.method_place.Goals as goal

pub returns : goal.returns
returns c =
    let file = c.args.file.now in
    let test = is_method file.pool c.args.name.now c.args.descriptor.now in
    c.method_among.ensures ∙ ap (λ (l : List Method). position (λ m. test (method_of m)) l) c.deref.ensures.value ∙ sym (position-map test method_of file.methods.items)
