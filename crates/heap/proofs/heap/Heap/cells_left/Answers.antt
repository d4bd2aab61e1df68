use Rattle.std.proofs.Common.{arith}
use Rattle.heap.proofs.heap.Heap.cells_left.Goals as goal

pub overflow_sub-result : goal.overflow_sub-result
overflow_sub-result c = omega (arith, c.self.invariant.cells_fit)

pub returns : goal.returns
returns c = rw (← c.self.view_is) (omega (arith, c.self.invariant.cells_fit))
