use Rattle.std.proofs.Common.{take}
use Rattle.model.specs.Monitors.{monitor_at}
use Rattle.model.specs.Worlds.{all_woken}
use Rattle.heap.specs.java_threads.Statuses.{cause_of}
use Rattle.heap.specs.monitor_events.Tables.{ThreadsBecome}
use Rattle.heap.proofs.monitor_events.waking.wake_members.Given as goal

abbrev pub invariant-loop-pick : goal.invariant-loop-pick
invariant-loop-pick l =
    ThreadsBecome (λ world. all_woken l.fn.object (cause_of l.fn.cause) world
    (take l.pick (monitor_at l.fn.heap.locks.monitors l.fn.object).waiters)) l.initial.threads l.threads
