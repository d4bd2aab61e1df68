use Rattle.std.proofs.Common.{sym, arith}
use Rattle.model.specs.Monitors.{monitor_at}
use Rattle.heap.specs.java_threads.Statuses.{cause_of}
use Rattle.heap.proofs.monitor_events.Woken.{woken_at, woken_to, no_member}
use Rattle.heap.proofs.monitor_events.waking.wake_members.Goals.{in-Some, in_default}
use Rattle.heap.proofs.monitor_events.waking.wake_members.Goals as goal

pub loop-pick-preserved : goal.loop-pick-preserved
loop-pick-preserved c =
    elim c.match-waiter.branch [
      | in-Some w ↦ rw (w.threads-is) (
          woken_at c.args.object (cause_of c.args.cause) (monitor_at c.args.heap.now.locks.monitors
          c.args.object).waiters c.loop-pick.pick _ c.args.threads.now c.loop-pick.threads _
          (sym w.in-Some.ensures) c.loop-pick.invariant w.wake.ensures
          )
      | in_default w ↦ no_member (monitor_at c.args.heap.now.locks.monitors c.args.object).waiters c.loop-pick.pick
          (omega (arith, c.loop-pick-test.true, c.waiter_count-pick-end.ensures)) (sym w.in_default.ensures)
    ]

pub returns : goal.returns
returns c =
    woken_to c.args.object (cause_of c.args.cause) (monitor_at c.args.heap.now.locks.monitors c.args.object).waiters
    c.loop-pick.pick c.args.threads.now c.loop-pick.threads
    (omega (arith, c.loop-pick-test.false, c.waiter_count-pick-end.ensures)) c.loop-pick.invariant
