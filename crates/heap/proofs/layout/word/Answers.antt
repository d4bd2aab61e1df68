use Rattle.std.proofs.Common.{sym}
use Rattle.heap.proofs.Laid.{word_there, word_not_there}
use Rattle.heap.proofs.layout.word.Goals as goal

pub returns-in-Some : goal.returns-in-Some
returns-in-Some c =
    sym (word_there c.args.table.now c.args.cells.now c.args.object c.args.number c.in-Some.place
    c.in-Some.ensures.there.is c.in-Some.ensures.there.within)

pub returns-in-None : goal.returns-in-None
returns-in-None c = sym (word_not_there c.args.table.now c.args.cells.now c.args.object c.args.number
    c.in-None.ensures.not_there)
