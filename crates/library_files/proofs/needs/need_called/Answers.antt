use Rattle.std.proofs.Common.{rules, ◌≡◌, true, ap}
use Rattle.std.specs.Prelude.{is_some}
use Rattle.model.specs.Tree.{NameAndType}
use Rattle.model.specs.Spelling.{entry_at}
use Rattle.model.specs.Pool.{utf8_at, class_name_at}
use Rattle.library_files.proofs.Needing.{on_ok, adds_both, adds_same, called_named}
use Rattle.library_files.proofs.needs.need_called.Goals as goal

pub returns : goal.returns
returns c =
    let pool = c.args.file.now.pool in
    let name = c.in-Some-NameAndType.name in
    let descriptor = c.in-Some-NameAndType.descriptor in
    let at : entry_at pool c.args.name_and_type ≡ NameAndType name descriptor = search rules in
    let class : is_some (class_name_at pool c.args.class) ≡ true = search rules in
    let named : is_some (utf8_at pool name) ≡ true = search rules in
    let described : is_some (utf8_at pool descriptor) ≡ true = search rules in
    on_ok c.need_descriptor.result
    (λ adds. adds_same pool c.args.texts.now c.need_descriptor.new.self _ _ (called_named pool c.args.class c.args.name_and_type name descriptor at class named described)
    (adds_both pool c.args.texts.now c.need_class_operand.new.texts c.need_descriptor.new.self _ _ c.in_ok-need_class_operand.ensures (adds pool)))
    c.need_descriptor.ensures
