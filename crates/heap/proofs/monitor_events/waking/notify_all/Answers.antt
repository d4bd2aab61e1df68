use Rattle.model.specs.State.{Notified}
use Rattle.model.specs.Monitors as monitors
use Rattle.heap.proofs.monitor_events.Woken.{woken_over}
use Rattle.heap.proofs.monitor_events.waking.notify_all.Goals as goal

pub returns-then-owner-clause-after : goal.returns-then-owner-clause-after
returns-then-owner-clause-after c =
    rw (c.if-owner.true) (record {
      world = λ world.
          woken_over c.args.object Notified world (monitors.notify_all c.args.object c.args.thread
          c.args.heap.now.locks.monitors).after
          c.args.heap.now c.notify_all.new.self c.args.threads.now c.wake_members.new.threads c.wake_members.ensures
          c.notify_all.ensures.answers.monitors;
      fat_are = c.notify_all.ensures.answers.fat;
      lock_limit = c.notify_all.ensures.answers.limit;
      rest = c.notify_all.ensures.rest;
      thread_limit = c.wake_members.ensures.limit;
    })
