use Rattle.std.proofs.Common.{◌≡◌, ◌+◌, length, arith}
use Rattle.heap.specs.Layout.{start_at}
use Rattle.heap.proofs.Laid.{length-words_at}
use Rattle.heap.proofs.heap.Heap.length.Goals as goal

pub returns : goal.returns
returns c =
    let is : c.word_count.result + start_at c.self.inside.table.items (length c.self.inside.cells.items) c.args.object
    ≡ start_at c.self.inside.table.items (length c.self.inside.cells.items) (c.args.object + 1) =
    rw (c.as_slice-table.ensures.value, c.as_slice-cells.ensures.value) at c.word_count.ensures in
    rw (← c.self.view_is) (omega (
      arith,
      is,
      length-words_at c.self.inside.table.items c.self.inside.cells.items
          c.args.object c.self.invariant.laid,
    ))
