use Rattle.std.proofs.Common.{◌∙◌, ap}
use Rattle.std.specs.List.{list_any}
use Rattle.model.specs.Names.{name_eq}
use Rattle.link_conditions.proofs.limits_of_linking.text_set.TextSet.contains.Goals as goal
use Rattle.hierarchy.proofs.RowLaws.{any_map}

pub returns : goal.returns
returns c =
    let set = c.self.inside in
    c.contains.ensures ∙ any_map (λ text. text.items) (name_eq c.args.text.now) set.texts.keys ∙ ap (list_any (name_eq c.args.text.now)) c.self.view_is
