use Rattle.std.proofs.Common.{rules, ◌≡◌, ◌∙◌}
use Rattle.std.specs.List.{list_any}
use Rattle.model.specs.DescriptorParts.{types_in, method_types}
use Rattle.link_conditions.specs.resolution.Rows.{names_missing}
use Rattle.link_conditions.proofs.resolution.Texts.{lacks_by_types}
use Rattle.link_conditions.proofs.resolution.descriptor.lacks_class.Goals as goal

pub returns-in-Some-2 : goal.returns-in-Some-2
returns-in-Some-2 c =
    let types : list_any (names_missing c.args.set.now) (method_types c.in-Some-2.method) ≡ list_any (names_missing c.args.set.now) (types_in c.args.text.now) = search rules in
    c.method_lacks_class.ensures ∙ types ∙ lacks_by_types c.args.set.now c.args.text.now
