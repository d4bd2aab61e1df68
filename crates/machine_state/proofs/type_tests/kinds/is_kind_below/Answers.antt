use Rattle.machine_state.proofs.type_tests.Typed.{tested}
use Rattle.machine_state.proofs.type_tests.kinds.is_kind_below.Goals as goal

pub returns : goal.returns
returns c = tested c.types_are_tested.ensures.holds c.args.program.now c.args.kind c.args.of c.is_below.result c.is_below.ensures
