use Rattle.std.proofs.Common.{sym}
use Rattle.thread_rules.proofs.needed_classes.Needed.{first_there, first_missing}
use Rattle.thread_rules.proofs.needed_classes.first_class.Goals as goal

pub returns-in-Some : goal.returns-in-Some
returns-in-Some c = first_there c.methods_are_read.ensures.holds c.args.program.now c.in-Some.row.now (sym c.in-Some.ensures)

pub returns-in-None : goal.returns-in-None
returns-in-None c = first_missing c.methods_are_read.ensures.holds c.args.program.now (sym c.in-None.ensures)
