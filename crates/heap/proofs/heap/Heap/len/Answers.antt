use Rattle.std.proofs.Common.{arith}
use Rattle.heap.proofs.Laid.{length-objects_of}
use Rattle.heap.proofs.heap.Heap.len.Goals as goal

pub returns-clause-objects : goal.returns-clause-objects
returns-clause-objects c = rw (← c.self.view_is)
    (omega (arith, c.len.ensures, length-objects_of c.self.inside.table.items c.self.inside.cells.items))
