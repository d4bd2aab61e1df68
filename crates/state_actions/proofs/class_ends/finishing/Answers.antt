use Rattle.std.proofs.Common.{refl}
use Rattle.state_actions.proofs.class_ends.Finished.{was_finished_told, unfinished_told, finished_told}
use Rattle.state_actions.proofs.class_ends.finishing.Goals as goal

pub returns-then-was_finished : goal.returns-then-was_finished
returns-then-was_finished c = (tt, was_finished_told c.args.shared.now c.args.class c.args.was_finished c.if-was_finished.true)

pub returns-then-is_finished : goal.returns-then-is_finished
returns-then-is_finished c =
    (refl, finished_told c.args.shared.now c.args.class c.args.was_finished c.is_finished.result c.is_finished.ensures c.if-was_finished.false c.if-is_finished.true)

pub returns-else-is_finished : goal.returns-else-is_finished
returns-else-is_finished c =
    (tt, unfinished_told c.args.shared.now c.args.class c.args.was_finished c.is_finished.result c.is_finished.ensures c.if-is_finished.false)
