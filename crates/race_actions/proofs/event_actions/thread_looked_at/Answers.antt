use Rattle.std.proofs.Common.{None}
use Rattle.race_actions.proofs.event_actions.Adding.{thread_known, no_thread}
use Rattle.race_actions.proofs.event_actions.thread_looked_at.Goals as goal

pub returns-in-Some : goal.returns-in-Some
returns-in-Some c =
    thread_known c.args.tables.now.linked.now c.args.program.now c.args.shared.now c.args.thread c.in-Some.stack.now c.in-Some.ensures c.looked_at.result c.looked_at.ensures

pub returns-in-None : goal.returns-in-None
returns-in-None c = no_thread c.args.tables.now.linked.now c.args.program.now c.args.shared.now c.args.thread c.in-None.ensures None
