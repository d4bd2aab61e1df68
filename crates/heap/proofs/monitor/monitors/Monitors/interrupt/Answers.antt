use Rattle.std.proofs.Common.{refl}
use Rattle.model.specs.declared.monitor_answer.MonitorAnswer.TheVariants.{Done}
use Rattle.heap.specs.declared.monitor.call.Call.TheVariants.{Interrupt}
use Rattle.heap.proofs.monitor.Done.{record_done}
use Rattle.heap.proofs.monitor.monitors.Monitors.interrupt.Goals as goal

pub returns-in-Fat : goal.returns-in-Fat
returns-in-Fat c =
    record_done (Interrupt c.args.object c.args.thread) Done c.self.inside.table c.interrupt.new.self
    c.self.inside.words.items c.as_slice.result.now c.self.inside.limit c.in-Fat.index c.args.self.now
    c.self.view_is c.self.invariant c.requires c.as_slice.ensures.value c.in-Fat.ensures.same refl c.interrupt.ensures
    refl
