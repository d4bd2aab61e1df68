use Rattle.std.proofs.Common.{arith, sym}
use Rattle.heap.proofs.monitor.Waiting.{notify_past}
use Rattle.heap.proofs.monitor.table.Table.notify.Goals as goal

pub returns-else-pick-waiter_count-clause-after : goal.returns-else-pick-waiter_count-clause-after
returns-else-pick-waiter_count-clause-after c =
    rw (← c.self.view_is) (notify_past c.self.inside.records c.args.index c.args.thread c.args.pick
    (sym c.if-not-is_owner.ensures) (omega arith))
