use Rattle.std.proofs.Common.{sym, subst}
use Rattle.instruction_types.specs.Places.{IsPlaceOf}
use Rattle.instruction_types.proofs.ClassesAndMembers.{placed}
use Rattle.instruction_types.proofs.places.place_of.Goals as goal

pub returns : goal.returns
returns c = subst (IsPlaceOf c.args.set.now c.args.name.now) (sym c.place_of.ensures.place) (placed c.args.set.now c.args.name.now)
