use Rattle.std.proofs.Common.{◌∙◌}
use Rattle.heap.proofs.monitor_events.Ending.{ended_over}
use Rattle.heap.proofs.monitor_events.ends.end.Goals as goal

pub returns : goal.returns
returns c = record {
  world = λ world.
      ended_over world c.args.heap.now c.wake_all.new.self c.args.threads.now c.set_ended.new.threads
      c.wake_members.new.threads c.args.thread c.object-object.result
      c.object-object.ensures c.set_ended.ensures c.wake_members.ensures c.wake_all.ensures.answers.monitors;
  fat_are = c.wake_all.ensures.answers.fat;
  lock_limit = c.wake_all.ensures.answers.limit;
  rest = c.wake_all.ensures.rest;
  thread_limit = c.wake_members.ensures.limit ∙ c.set_ended.ensures.limit;
}
