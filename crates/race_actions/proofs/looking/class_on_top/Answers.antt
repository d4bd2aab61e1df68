use Rattle.race_actions.proofs.looking.Parts.{initialises_top, empty_top, invocation_top}
use Rattle.race_actions.proofs.looking.class_on_top.Goals as goal

pub returns-in-Initialisation : goal.returns-in-Initialisation
returns-in-Initialisation c = initialises_top c.args.stack.now c.in-Initialisation.class _ c.in-Initialisation.ensures

pub returns-in-Empty : goal.returns-in-Empty
returns-in-Empty c = empty_top c.args.stack.now c.in-Empty.ensures

pub returns-in-Invocation : goal.returns-in-Invocation
returns-in-Invocation c = invocation_top c.args.stack.now c.in-Invocation.ensures
