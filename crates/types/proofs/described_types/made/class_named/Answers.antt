use Rattle.std.proofs.Common.{◌∙◌, sym, ap}
use Rattle.model.specs.ReferenceTypes.{ClassType}
use Rattle.model.specs.DescribedTypes.{made_type}
use Rattle.types.proofs.described_types.Places.{missing_there, named_there}
use Rattle.types.proofs.described_types.made.class_named.Goals as goal

pub returns-in_default : goal.returns-in_default
returns-in_default c = missing_there c.args.set.now c.args.name.now (sym c.place_of.ensures.place ∙ c.in_default.is)

pub returns : goal.returns
returns c =
    let files = c.args.set.now in
    let there = named_there files c.args.name.now c.in-Some.place (sym c.place_of.ensures.place ∙ c.in-Some.is) in
    (c.made_class.ensures ∙ ap (λ n. made_type files (ClassType n)) there.0, there.1)
