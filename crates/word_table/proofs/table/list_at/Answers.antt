use Rattle.std.proofs.Common.{◌+◌, length, arith}
use Rattle.word_table.proofs.Laid.{start_le_next, start_le_end, list_there}
use Rattle.word_table.proofs.table.list_at.Goals as goal

pub part-requires : goal.part-requires
part-requires c = record {
  up = omega (arith, c.start-first.ensures, c.start-next.ensures, start_le_next c.args.starts.now (length c.args.words.now) c.args.number c.requires.laid);
  within = omega (arith, c.start-next.ensures, start_le_end c.args.starts.now (length c.args.words.now) (c.args.number + 1) c.requires.laid);
}

pub returns : goal.returns
returns c = rw (c.part.ensures, c.start-first.ensures, c.start-next.ensures) (list_there c.args.starts.now c.args.words.now c.args.number c.requires.there)
