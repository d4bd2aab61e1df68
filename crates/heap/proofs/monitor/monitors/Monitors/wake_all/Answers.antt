use Rattle.std.proofs.Common.{refl}
use Rattle.model.specs.declared.monitor_answer.MonitorAnswer.TheVariants.{Done}
use Rattle.heap.specs.declared.monitor.call.Call.TheVariants.{WakeAll}
use Rattle.heap.proofs.monitor.Done.{record_done}
use Rattle.heap.proofs.monitor.monitors.Monitors.wake_all.Goals as goal

pub returns-in-Fat : goal.returns-in-Fat
returns-in-Fat c =
    record_done (WakeAll c.args.object) Done c.self.inside.table c.wake_all.new.self c.self.inside.words.items
    c.as_slice.result.now c.self.inside.limit c.in-Fat.index c.args.self.now
    c.self.view_is c.self.invariant c.requires c.as_slice.ensures.value c.in-Fat.ensures.same refl c.wake_all.ensures
    refl
