use Rattle.std.proofs.Common.{◌+◌, length, arith}
use Rattle.heap.proofs.Laid.{start_le_end}
use Rattle.heap.proofs.layout.place.Goals as goal

pub overflow_add-result : goal.overflow_add-result
overflow_add-result c = omega (
  arith,
  c.start-first.ensures,
  c.word_count.ensures,
  start_le_end c.args.table.now
      (length c.args.cells.now) (c.args.object + 1) c.requires,
)

pub returns-then-number-word_count-clause-there : goal.returns-then-number-word_count-clause-there
returns-then-number-word_count-clause-there c = record {
  is = omega (arith, c.start-first.ensures);
  within = omega (arith, c.start-first.ensures, c.word_count.ensures);
  there = omega (
    arith,
    c.start-first.ensures,
    c.word_count.ensures,
    start_le_end c.args.table.now
        (length c.args.cells.now) (c.args.object + 1) c.requires,
  );
}
