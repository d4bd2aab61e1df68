use Rattle.std.proofs.Common.{sym}
use Rattle.heap.proofs.Laid.{field_there, field_not_there}
use Rattle.heap.proofs.layout.set_word.Goals as goal

pub returns-in-Some : goal.returns-in-Some
returns-in-Some c =
    field_there c.args.table.now c.args.cells.now c.args.object c.args.number c.in-Some.place c.args.word c.requires
    c.in-Some.ensures.there.is c.in-Some.ensures.there.within

pub returns-in_default : goal.returns-in_default
returns-in_default c =
    sym (field_not_there c.args.table.now c.args.cells.now c.args.object c.args.number c.args.word c.requires
    c.in_default.ensures.not_there)
