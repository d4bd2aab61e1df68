use Rattle.std.proofs.Common.{◌∙◌, sym, ap}
use Rattle.std.specs.Prelude.{position}
use Rattle.model.specs.Names.{name_eq}
use Rattle.hierarchy.proofs.Finding.{position-map}
use Rattle.linker.proofs.linked_types.names.NameNumbers.number_of.Goals as goal

pub returns : goal.returns
returns c =
    let set = c.self.inside in
    c.get_index_of.ensures.index ∙ sym (position-map (name_eq c.args.name.now) (λ name. name.items) set.names.keys) ∙ ap (position (name_eq c.args.name.now)) c.self.view_is
