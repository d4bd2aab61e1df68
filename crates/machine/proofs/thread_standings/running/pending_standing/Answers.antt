use Rattle.machine.proofs.thread_standings.Tops.{pending_over_none, pending_over_some}
use Rattle.machine.proofs.thread_standings.running.pending_standing.Goals as goal

pub returns-then-is_empty : goal.returns-then-is_empty
returns-then-is_empty c = λ exception thrown trees bounds inflated state own program lent.
    pending_over_none trees c.args.program.now c.args.thread exception thrown state.world c.empty_standing.result c.args.stack.now own lent.shows_stack c.if-is_empty.ensures
    (c.empty_standing.ensures trees bounds state.world program lent.represents)

pub returns-else-is_empty : goal.returns-else-is_empty
returns-else-is_empty c = λ exception thrown trees bounds inflated state own program lent.
    pending_over_some trees c.args.program.now c.args.thread exception thrown state.world c.args.stack.now own lent.shows_stack c.if-is_empty.ensures
