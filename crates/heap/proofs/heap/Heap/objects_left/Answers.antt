use Rattle.std.proofs.Common.{arith}
use Rattle.heap.proofs.Sound.{objects_left}
use Rattle.heap.proofs.heap.Heap.objects_left.Goals as goal

pub returns : goal.returns
returns c =
    rw (← c.self.view_is) (
    omega (
      arith,
      c.len.ensures,
      objects_left c.self.inside.table.items c.self.inside.cells.items c.self.inside.monitors
          c.self.inside.opening c.self.inside.counted c.self.inside.object_limit
          c.self.inside.cell_limit c.self.invariant,
    )
    )
