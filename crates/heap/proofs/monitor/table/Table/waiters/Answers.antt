use Rattle.std.proofs.Common.{◌<◌, length, arith}
use Rattle.model.specs.Monitors.{monitor_at}
use Rattle.heap.proofs.monitor.Waiting.{push_found}
use Rattle.heap.proofs.monitor.table.Table.waiters.Goals as goal

pub loop-pick-preserved : goal.loop-pick-preserved
loop-pick-preserved c =
    let within : c.loop-pick.pick < length (monitor_at c.self.inside.records c.args.index).waiters = omega arith in
    push_found (monitor_at c.self.inside.records c.args.index).waiters c.loop-pick.waiters.items c.push.new.self.items
    c.loop-pick.pick c.member.result within c.member.ensures
    c.loop-pick.invariant c.in_ok-push.ensures.items
