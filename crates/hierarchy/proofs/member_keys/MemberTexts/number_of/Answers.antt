use Rattle.std.proofs.Common.{◌∙◌, sym, ap, List}
use Rattle.std.specs.Prelude.{position}
use Rattle.model.specs.Names.{Name, name_eq}
use Rattle.hierarchy.proofs.Finding.{position-map}
use Rattle.hierarchy.proofs.member_keys.MemberTexts.number_of.Goals as goal

pub returns : goal.returns
returns c =
    c.get_index_of.ensures.index
    ∙ sym (position-map (name_eq c.args.text.now) (λ text. text.items) c.self.inside.texts.keys)
    ∙ ap (λ (l : List Name). position (name_eq c.args.text.now) l) c.self.view_is
