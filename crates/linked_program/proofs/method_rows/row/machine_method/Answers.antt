use Rattle.std.proofs.Common.{rules, ◌≡◌, ◌∙◌, ap}
use Rattle.classfile.specs.View.{file_of, method_of}
use Rattle.model.specs.Names.{Name}
use Rattle.model.specs.Conditions.{text_at}
use Rattle.model.specs.Classes.{name_of}
use Rattle.model.specs.BuiltInMethods.{built_in_method}
use Rattle.linked_program.proofs.method_rows.row.machine_method.Goals as goal

pub returns : goal.returns
returns c =
    let file = file_of c.args.file.now in
    let m = method_of c.args.method.now in
    let class : c.class_name.result.now ≡ name_of file = search rules in
    let name : c.text.result.now ≡ text_at file.pool m.name = search rules in
    let descriptor : c.text-2.result.now ≡ text_at file.pool m.descriptor = search rules in
    c.built_in_method.ensures
    ∙ ap (λ (x : Name). built_in_method (record { class = x; name = c.text.result.now; descriptor = c.text-2.result.now })) class
    ∙ ap (λ (x : Name). built_in_method (record { class = name_of file; name = x; descriptor = c.text-2.result.now })) name
    ∙ ap (λ (x : Name). built_in_method (record { class = name_of file; name = text_at file.pool m.name; descriptor = x })) descriptor
