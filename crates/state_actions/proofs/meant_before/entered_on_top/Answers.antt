use Rattle.std.proofs.Common.{Some, None, refl}
use Rattle.state_actions.proofs.changed_monitors.Meant.{top_entered, no_top}
use Rattle.state_actions.proofs.meant_before.entered_on_top.Goals as goal

pub returns-in-Some : goal.returns-in-Some
returns-in-Some c = top_entered c.args.stack.now (Some c.in-Some.frame) c.in-Some.ensures c.in-Some.frame refl

pub returns-in-None : goal.returns-in-None
returns-in-None c = no_top c.args.stack.now None c.in-None.ensures refl
