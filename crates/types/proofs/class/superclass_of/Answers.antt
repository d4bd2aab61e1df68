use Rattle.std.proofs.Common.{◌≡◌, ◌∙◌, sym, ap, Some}
use Rattle.std.specs.Prelude.{option_map}
use Rattle.model.specs.Classes.{superclass_of}
use Rattle.hierarchy.specs.Places.{name_at}
use Rattle.types.proofs.Classes.{placed}
use Rattle.types.proofs.class.superclass_of.Goals as goal

pub returns : goal.returns
returns c =
    let files = c.args.set.now in
    let name = c.in-Some.name.now in
    let above : superclass_of files (name_at files c.args.class) ≡ Some name = ap (λ n. superclass_of files n) (sym c.name_at.ensures) ∙ sym c.in-Some.ensures in
    ap (λ o. option_map (name_at files) o) c.place_of.ensures.place ∙ placed files name (c.requires _ name above) ∙ sym above
