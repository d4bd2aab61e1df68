use Rattle.std.proofs.Common.{◌≡◌, ◌∙◌, length, map}
use Rattle.class_tree.specs.View.{method_of, file_of}
use Rattle.class_tree.specs.CodePlace.{before_methods, methods_front, front_of_code}
use Rattle.constant_pool.specs.Checking.{saturated}
use Rattle.class_tree.proofs.Fronts.{joined}
use Rattle.class_tree.proofs.Stands.{code_stands}
use Rattle.class_tree.proofs.tree.ClassFile.code_offset.Goals as goal

pub returns-clause-place : goal.returns-clause-place
returns-clause-place c =
    let file = c.args.self.now in
    c.saturating_add.ensures ∙ joined (before_methods (file_of file)) (methods_front (map method_of file.methods.items) c.args.method) c.first_method.result c.length_before.result c.first_method.ensures (rw c.deref.ensures.value at c.length_before.ensures)

pub returns-clause-stands : goal.returns-clause-stands
returns-clause-stands c bytes m x l small there h =
    let file = c.args.self.now in
    let place : c.saturating_add.result ≡ saturated (length (front_of_code (file_of file) c.args.method)) =
    c.saturating_add.ensures ∙ joined (before_methods (file_of file)) (methods_front (map method_of file.methods.items) c.args.method) c.first_method.result c.length_before.result c.first_method.ensures (rw c.deref.ensures.value at c.length_before.ensures) in
    code_stands bytes (file_of file) c.args.method m x c.saturating_add.result place l small there h
