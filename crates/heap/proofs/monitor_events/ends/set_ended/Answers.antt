use Rattle.heap.proofs.monitor_events.Ending.{ended_by_two}
use Rattle.heap.proofs.monitor_events.ends.set_ended.Goals as goal

pub returns : goal.returns
returns c =
    ended_by_two c.args.thread c.args.threads.now c.set_pending.new.self c.set_status.new.self c.pending-pending.result
    c.requires
    c.pending-pending.ensures c.set_pending.ensures c.set_status.ensures
