use Rattle.std.proofs.Common.{rules, ◌≡◌, true, Some, ◌∙◌}
use Rattle.model.specs.Tree.{Class}
use Rattle.model.specs.Spelling.{entry_at}
use Rattle.model.specs.Pool.{utf8_at}
use Rattle.model.specs.DescriptorParts.{is_array_class}
use Rattle.classfile.specs.View.{file_of}
use Rattle.link_conditions.proofs.resolution.Texts.{array_said}
use Rattle.link_conditions.proofs.resolution.operand.is_class_unresolved.Goals as goal

pub returns-in-Some : goal.returns-in-Some
returns-in-Some c =
    let pool = c.args.file.now.pool in
    let name = c.in-Some-Class.name in
    let text = c.in-Some.text.now in
    let at : entry_at pool c.args.index ≡ Class name = search rules in
    let named : utf8_at pool name ≡ Some text = search rules in
    let array : is_array_class text ≡ true = search rules in
    c.text_lacks_class.ensures ∙ array_said c.args.set.now (file_of c.args.file.now) c.args.index name text at named array
