use Rattle.heap.proofs.Laid.{kind-objects_of}
use Rattle.heap.proofs.heap.Heap.class_of.Goals as goal

pub returns : goal.returns
returns c =
    rw (
      ← c.self.view_is,
      kind-objects_of c.self.inside.table.items c.self.inside.cells.items c.args.object,
      ←
          c.as_slice.ensures.value,
    ) c.kind.ensures
