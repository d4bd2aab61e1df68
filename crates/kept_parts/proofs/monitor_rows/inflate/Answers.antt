use Rattle.kept_parts.proofs.Waiters.{wakes}
use Rattle.kept_parts.proofs.monitor_rows.inflate.Goals as goal

pub returns : goal.returns
returns c = wakes c.args.object 0 1 c.args.heap.now c.join.new.heap c.wake_all.new.self c.in_ok-join.ensures c.wake_all.ensures
