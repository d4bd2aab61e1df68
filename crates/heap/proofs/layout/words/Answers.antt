use Rattle.std.proofs.Common.{◌+◌, length, arith, sym}
use Rattle.heap.proofs.Laid.{start_le_next, start_le_end, words_at_range}
use Rattle.heap.proofs.layout.words.Goals as goal

pub part-requires : goal.part-requires
part-requires c = record {
  up = omega (
    arith,
    c.start-first.ensures,
    c.start-next.ensures,
    start_le_next c.args.table.now
        (length c.args.cells.now) c.args.object c.requires,
  );
  within = omega (
    arith,
    c.start-next.ensures,
    start_le_end c.args.table.now (length c.args.cells.now)
        (c.args.object + 1) c.requires,
  );
}

pub returns : goal.returns
returns c = rw (c.part.ensures, c.start-first.ensures, c.start-next.ensures)
    (sym (words_at_range c.args.table.now c.args.cells.now c.args.object))
