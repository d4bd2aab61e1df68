use Rattle.std.proofs.Common.{◌≡◌, ◌∙◌, false, map, sym, ap}
use Rattle.std.specs.List.{list_any}
use Rattle.model.specs.Names.{name_eq}
use Rattle.link_conditions.proofs.limits_of_linking.TextLaws.{pushed}
use Rattle.link_conditions.proofs.limits_of_linking.text_set.TextSet.add.Goals as goal

pub returns : goal.returns
returns c =
    let set = c.self.inside in
    let new : list_any (name_eq c.args.text.now) c.args.self.now ≡ false = sym c.contains.ensures ∙ c.if-contains.false in
    ap (λ l. map (λ text. text.items) l) c.in-Ok.ensures.keys
    ∙ pushed (λ text. text.items) set.texts.keys c.in_ok-text.text c.args.self.now c.args.text.now c.self.view_is c.in_ok-text.ensures.items new
