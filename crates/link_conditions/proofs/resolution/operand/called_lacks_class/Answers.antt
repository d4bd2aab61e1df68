use Rattle.std.proofs.Common.{rules, ◌≡◌, true, ◌∙◌}
use Rattle.std.specs.Prelude.{is_some}
use Rattle.model.specs.Pool.{class_name_at, name_and_type_at}
use Rattle.classfile.specs.View.{file_of}
use Rattle.link_conditions.proofs.resolution.Texts.{called_said}
use Rattle.link_conditions.proofs.resolution.operand.called_lacks_class.Goals as goal

pub returns-then-is_some-2 : goal.returns-then-is_some-2
returns-then-is_some-2 c =
    let file = file_of c.args.file.now in
    let class : is_some (class_name_at file.pool c.args.class) ≡ true = search rules in
    let member : is_some (name_and_type_at file.pool c.args.name_and_type) ≡ true = search rules in
    c.class_or_descriptor_lacks.ensures ∙ called_said c.args.set.now file c.args.class c.args.name_and_type class member
