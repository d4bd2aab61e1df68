use Rattle.std.proofs.Common.{slice_get}
use Rattle.model.specs.Monitors as monitors
use Rattle.model.specs.Monitors.{monitor_at}
use Rattle.heap.proofs.monitor_events.Woken.{one_over}
use Rattle.heap.proofs.monitor_events.waiting.notify.Goals as goal

pub returns-in-Some-clause-after : goal.returns-in-Some-clause-after
returns-in-Some-clause-after c =
    rw (c.if-owner.true) (record {
      world = λ world.
          one_over c.args.object world (monitors.notify c.args.object c.args.thread c.args.pick
          c.args.heap.now.locks.monitors).after
          c.notify.new.self c.args.threads.now c.wake.new.threads c.in-Some.waiter
          (slice_get (monitor_at c.args.heap.now.locks.monitors c.args.object).waiters c.args.pick)
          c.wake.ensures c.notify.ensures.answers.monitors (rw (c.from.ensures) at c.in-Some.ensures);
      fat_are = c.notify.ensures.answers.fat;
      lock_limit = c.notify.ensures.answers.limit;
      rest = c.notify.ensures.rest;
      thread_limit = c.wake.ensures.limit;
    })
