use Rattle.std.proofs.Common.{◌∙◌, ℕ, false, sym, ap, Option}
use Rattle.std.specs.Option.{option_map_or}
use Rattle.model.specs.Names.{Name}
use Rattle.model.specs.Profile.{method_name}
use Rattle.classfile.specs.View.{file_of, method_of}
use Rattle.link_conditions.specs.class_rules.Declared.{number_of, is_told_by}
use Rattle.link_conditions.proofs.class_rules.declared_methods.is_told.Goals as goal

pub returns-in-Some : goal.returns-in-Some
returns-in-Some c =
    let table = c.args.table.now in
    let m = method_of c.args.method.now in
    let numbered = ap (λ (n : Name). number_of table n c.text-descriptor.result.now) c.text-name.ensures ∙ ap (λ (d : Name). number_of table (method_name (file_of c.args.file.now) m) d) c.text-descriptor.ensures in
    c.is_told_by.ensures
    ∙ sym (ap (λ (o : Option ℕ). option_map_or (is_told_by table c.args.class m) o false) (sym numbered ∙ sym c.in-Some.ensures))

pub returns-in-None : goal.returns-in-None
returns-in-None c =
    let table = c.args.table.now in
    let m = method_of c.args.method.now in
    let numbered = ap (λ (n : Name). number_of table n c.text-descriptor.result.now) c.text-name.ensures ∙ ap (λ (d : Name). number_of table (method_name (file_of c.args.file.now) m) d) c.text-descriptor.ensures in
    sym (ap (λ (o : Option ℕ). option_map_or (is_told_by table c.args.class m) o false) (sym numbered ∙ sym c.in-None.ensures))
