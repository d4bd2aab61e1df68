use Rattle.std.proofs.Common.{sym, subst}
use Rattle.state_actions.specs.looked_classes.Looked.{LooksFor}
use Rattle.state_actions.proofs.looked_classes.Looking.{looks}
use Rattle.state_actions.proofs.looked_classes.class_looked.Goals as goal

pub returns : goal.returns
returns c = subst (LooksFor c.args.instruction) (sym c.class_in.ensures) (looks c.args.instruction)
