use Rattle.std.proofs.Common.{◌∙◌, List, not, sym, ap}
use Rattle.std.specs.List.{list_any}
use Rattle.class_tree.specs.declared.tree.Method.{Method}
use Rattle.model.specs.Tree.{MethodTree}
use Rattle.classfile.specs.View.{method_of, file_of}
use Rattle.constant_pool.proofs.Passing.{any_map}
use Rattle.link_conditions.specs.class_rules.Declared.{is_told}
use Rattle.link_conditions.proofs.class_rules.declared_methods.has_untold.Goals as goal

pub returns : goal.returns
returns c =
    let test = λ (m : MethodTree). not (is_told c.args.table.now c.args.class (file_of c.args.file.now) m) in
    c.has_untold_among.ensures
    ∙ ap (λ (l : List Method). list_any (λ m. test (method_of m)) l) c.deref.ensures.value
    ∙ sym (any_map test method_of c.args.file.now.methods.items)
