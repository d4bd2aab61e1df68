use Rattle.std.proofs.Common.{◌∙◌, sym, ap}
use Rattle.model.specs.Classes.{is_interface}
use Rattle.hierarchy.specs.Places.{name_at}
use Rattle.types.proofs.described_types.Places.{made_interface}
use Rattle.types.proofs.described_types.made.made_class.Goals as goal

pub returns-then-is_interface : goal.returns-then-is_interface
returns-then-is_interface c =
    let files = c.args.set.now in
    made_interface files (name_at files c.args.class) (ap (is_interface files) (sym c.name_at.ensures) ∙ sym c.is_interface.ensures ∙ c.if-is_interface.true)
