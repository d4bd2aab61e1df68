use Rattle.std.proofs.Common.{◌∙◌, List, sym, ap}
use Rattle.std.specs.Prelude.{position}
use Rattle.class_tree.specs.declared.tree.Method.{Method}
use Rattle.classfile.specs.View.{method_of, file_of}
use Rattle.hierarchy.proofs.Finding.{position-map}
use Rattle.link_conditions.specs.class_rules.Rules.{method_breaks_rule}
use Rattle.link_conditions.proofs.class_rules.method.first_method.Goals as goal

pub returns : goal.returns
returns c =
    let test = method_breaks_rule c.args.set.now (file_of c.args.file.now) in
    c.first_among.ensures ∙ ap (λ (l : List Method). position (λ m. test (method_of m)) l) c.deref.ensures.value ∙ sym (position-map test method_of c.args.file.now.methods.items)
