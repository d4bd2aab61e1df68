use Rattle.std.proofs.Common.{◌≡◌, ◌∙◌, ℕ, List, sym, ap}
use Rattle.std.specs.List.{list_any}
use Rattle.model.specs.Names.{Name}
use Rattle.model.specs.Profile.{method_name, method_descriptor}
use Rattle.classfile.specs.View.{file_of, method_of}
use Rattle.link_conditions.specs.class_rules.Declared.{number_of, may_be_bad}
use Rattle.link_conditions.proofs.class_rules.Suspected.{none_numbered, none_flagged}
use Rattle.link_conditions.proofs.class_rules.suspects.suspects_of.Goals as goal

pub returns-in_default : goal.returns-in_default
returns-in_default c =
    let file = file_of c.args.file.now in
    let again = method_of c.args.again.now in
    let table = c.args.methods.now.table in
    let numbered = ap (λ (n : Name). number_of table n c.text-descriptor.result.now) c.text-name.ensures ∙ ap (λ (d : Name). number_of table (method_name file again) d) c.text-descriptor.ensures in
    none_numbered c.args.set.now file again table (c.requires c.if-not-methods.false) (sym numbered ∙ sym c.in_default.ensures)

pub returns-then-any_may_be_bad : goal.returns-then-any_may_be_bad
returns-then-any_may_be_bad c =
    let file = file_of c.args.file.now in
    let again = method_of c.args.again.now in
    let table = c.args.methods.now.table in
    let numbered = ap (λ (n : Name). number_of table n c.text-descriptor.result.now) c.text-name.ensures ∙ ap (λ (d : Name). number_of table (method_name file again) d) c.text-descriptor.ensures in
    (c.requires c.if-not-methods.false, sym numbered ∙ sym c.in-Some.ensures)

pub returns-else-any_may_be_bad : goal.returns-else-any_may_be_bad
returns-else-any_may_be_bad c =
    let file = file_of c.args.file.now in
    let again = method_of c.args.again.now in
    let table = c.args.methods.now.table in
    let numbered = ap (λ (n : Name). number_of table n c.text-descriptor.result.now) c.text-name.ensures ∙ ap (λ (d : Name). number_of table (method_name file again) d) c.text-descriptor.ensures in
    none_flagged c.args.set.now file again table (c.requires c.if-not-methods.false) c.in-Some.number (sym numbered ∙ sym c.in-Some.ensures)
    (ap (λ (l : List ℕ). list_any (may_be_bad again) l) (sym c.flags_of.ensures) ∙ sym c.any_may_be_bad.ensures ∙ c.if-any_may_be_bad.false)
