use Rattle.std.proofs.Common.{arith}
use Rattle.word_table.proofs.Laid.{length-lists_of}
use Rattle.word_table.proofs.table.WordTable.len.Goals as goal

pub returns : goal.returns
returns c = rw (← c.self.view_is) (omega (arith, c.len.ensures, length-lists_of c.self.inside.starts.items c.self.inside.words.items))
