use Rattle.std.proofs.Common.{sym, ◌∙◌}
use Rattle.waiting_circles.proofs.needs.Begun.{enters_main, main_there}
use Rattle.waiting_circles.proofs.needs.begins.entered_by_main.Goals as goal

pub returns-in-Some : goal.returns-in-Some
returns-in-Some c = λ trees program.
    c.entered.ensures
    ∙ enters_main c.methods_are_read.ensures.holds c.args.program.now c.in-Some.row.now (sym c.in-Some.ensures) c.class_object-object.result c.class_object-object.ensures trees program

pub returns-in-None : goal.returns-in-None
returns-in-None c = main_there c.methods_are_read.ensures.holds c.args.program.now (sym c.in-None.ensures)
