use Rattle.std.proofs.Common.{length, arith}
use Rattle.heap.proofs.Laid.{start_le_next, next_lt_start}
use Rattle.heap.proofs.layout.word_count.Goals as goal

pub overflow_sub-result : goal.overflow_sub-result
overflow_sub-result c = omega (
  arith,
  c.start-next.ensures,
  c.start-first.ensures,
  start_le_next c.args.table.now
      (length c.args.cells.now) c.args.object c.requires,
)

pub overflow_cast-result : goal.overflow_cast-result
overflow_cast-result c = omega (
  arith,
  c.start-next.ensures,
  c.start-first.ensures,
  next_lt_start c.args.table.now
      (length c.args.cells.now) c.args.object c.requires,
)

pub returns : goal.returns
returns c = omega (
  arith,
  c.start-next.ensures,
  c.start-first.ensures,
  start_le_next c.args.table.now
      (length c.args.cells.now) c.args.object c.requires,
)
