use Rattle.std.proofs.Common.{◌≤◌, length, refl, arith}
use Rattle.heap.specs.java_threads.Table.{thread_at}
use Rattle.machine_threads.proofs.thread_wakes.Ending.{ended_alone}
use Rattle.machine_threads.proofs.thread_wakes.ends.end_and_wake.Goals as goal

-- src/ends.rt:34:1
pub returns-else-object-len : goal.returns-else-object-len
returns-else-object-len c =
    let past : length c.args.shared.now.heap.locks.monitors ≤ (thread_at c.args.shared.now.threads.threads c.args.thread).object =
    omega (arith, c.object.ensures, c.len.ensures.monitors, c.if-object-len.false) in
    ended_alone c.args.thread c.args.shared.now (record c.args.shared.now { threads = c.set_ended.new.threads }) c.set_ended.ensures refl past
