use Rattle.machine_state.proofs.method_selection.Objects.{of_array}
use Rattle.machine_state.proofs.method_selection.kinds.class_of_kind.Goals as goal

-- src/kinds.rt:9:1
pub returns-in-Ints : goal.returns-in-Ints
returns-in-Ints c = of_array c.args.kind c.in-Ints.is
