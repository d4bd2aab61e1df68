use Rattle.std.proofs.Common.{arith}
use Rattle.model.specs.Monitors.{monitor_at}
use Rattle.heap.proofs.Same.{one_joined}
use Rattle.heap.proofs.monitor.records.Records.join_all.Goals as goal

pub waiters-preserved : goal.waiters-preserved
waiters-preserved c =
    one_joined c.args.self.now c.waiters.self c.join.new.self c.args.at c.waiters.pick
    (monitor_at c.args.other.now c.args.index).waiters c.member.result
    c.requires.here (omega arith) c.member.ensures c.waiters.invariant c.in_ok-join.ensures.ok
