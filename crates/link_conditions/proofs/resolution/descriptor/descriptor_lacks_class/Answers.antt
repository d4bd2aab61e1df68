use Rattle.std.proofs.Common.{rules, ◌≡◌, true, ◌∙◌}
use Rattle.std.specs.Prelude.{is_some}
use Rattle.model.specs.Tree.{NameAndType}
use Rattle.model.specs.Spelling.{entry_at}
use Rattle.model.specs.Pool.{utf8_at}
use Rattle.link_conditions.proofs.resolution.Texts.{descriptor_said}
use Rattle.link_conditions.proofs.resolution.descriptor.descriptor_lacks_class.Goals as goal

pub returns-then-is_some-2 : goal.returns-then-is_some-2
returns-then-is_some-2 c =
    let pool = c.args.file.now.pool in
    let name = c.in-Some-NameAndType.name in
    let descriptor = c.in-Some-NameAndType.descriptor in
    let at : entry_at pool c.args.index ≡ NameAndType name descriptor = search rules in
    let named : is_some (utf8_at pool name) ≡ true = search rules in
    let described : is_some (utf8_at pool descriptor) ≡ true = search rules in
    c.text_lacks_class.ensures ∙ descriptor_said c.args.set.now pool c.args.index name descriptor at named described
