use Rattle.std.proofs.Common.{arith, sym}
use Rattle.linker.proofs.linked_types.Types.{class_fits, class_numbered, class_missing}
use Rattle.linker.proofs.linked_types.named.class_type.Goals as goal

pub returns-in_default : goal.returns-in_default
returns-in_default c = class_missing c.args.set.now c.args.name.now c.args.dimensions (sym c.in_default.ensures.place)

pub overflow_cast-result : goal.overflow_cast-result
overflow_cast-result c = omega (arith, class_fits c.args.set.now c.args.name.now c.requires c.in-Some.place (sym c.in-Some.ensures.place))

pub returns : goal.returns
returns c = class_numbered c.args.set.now c.args.name.now c.args.dimensions c.in-Some.place (sym c.in-Some.ensures.place)
