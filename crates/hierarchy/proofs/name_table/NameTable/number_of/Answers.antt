use Rattle.std.proofs.Common.{◌∙◌, sym, ap, subst}
use Rattle.std.specs.Prelude.{position}
use Rattle.model.specs.Names.{name_eq}
use Rattle.hierarchy.specs.Numbers.{AreApart}
use Rattle.hierarchy.proofs.Finding.{position-map}
use Rattle.hierarchy.proofs.NumberLaws.{are_apart}
use Rattle.hierarchy.proofs.name_table.NameTable.number_of.Goals as goal

pub returns-in-Some-clause-number : goal.returns-in-Some-clause-number
returns-in-Some-clause-number c =
    let named = name_eq c.args.name.now in
    c.in-Some.ensures.index ∙ sym (position-map named (λ name. name.items) c.self.inside.names.keys) ∙ ap (position named) c.self.view_is

pub returns-in-Some-clause-apart : goal.returns-in-Some-clause-apart
returns-in-Some-clause-apart c = subst AreApart c.self.view_is (are_apart (λ name. name.items) c.self.inside.names.keys c.len-count.ensures.unique)

pub returns-in-None-clause-number : goal.returns-in-None-clause-number
returns-in-None-clause-number c =
    let named = name_eq c.args.name.now in
    c.in-None.ensures.index ∙ sym (position-map named (λ name. name.items) c.self.inside.names.keys) ∙ ap (position named) c.self.view_is

pub returns-in-None-clause-apart : goal.returns-in-None-clause-apart
returns-in-None-clause-apart c = subst AreApart c.self.view_is (are_apart (λ name. name.items) c.self.inside.names.keys c.len-count.ensures.unique)
