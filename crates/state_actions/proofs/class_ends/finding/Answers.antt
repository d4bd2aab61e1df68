use Rattle.std.proofs.Common.{refl}
use Rattle.state_actions.proofs.class_ends.Finished.{found_told, not_found_told}
use Rattle.state_actions.proofs.class_ends.finding.Goals as goal

pub returns-then-is_finished : goal.returns-then-is_finished
returns-then-is_finished c = (refl, found_told c.args.shared.now c.args.class c.is_finished.result c.is_finished.ensures c.if-is_finished.true)

pub returns-else-is_finished : goal.returns-else-is_finished
returns-else-is_finished c = (tt, not_found_told c.args.shared.now c.args.class c.is_finished.result c.is_finished.ensures c.if-is_finished.false)
