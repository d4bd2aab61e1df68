use Rattle.std.proofs.Common.{None}
use Rattle.race_actions.proofs.looking.Parts.{looked_on_top, none_on_top}
use Rattle.race_actions.proofs.looking.class_of.Goals as goal

pub returns-in-Some : goal.returns-in-Some
returns-in-Some c = looked_on_top c.args.program.now c.args.stack.now c.in-Some.instruction c.class_looked.result c.in-Some.ensures c.class_looked.ensures

pub returns-in-None : goal.returns-in-None
returns-in-None c = none_on_top c.args.program.now c.args.stack.now None c.in-None.ensures
