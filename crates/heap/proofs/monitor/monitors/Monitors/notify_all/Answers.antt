use Rattle.std.proofs.Common.{refl}
use Rattle.heap.specs.declared.monitor.call.Call.TheVariants.{NotifyAll}
use Rattle.heap.proofs.monitor.Done.{record_done}
use Rattle.heap.proofs.monitor.monitors.Monitors.notify_all.Goals as goal

pub returns-in-Fat : goal.returns-in-Fat
returns-in-Fat c =
    record_done (NotifyAll c.args.object c.args.thread) c.notify_all.result c.self.inside.table c.notify_all.new.self
    c.self.inside.words.items c.as_slice.result.now c.self.inside.limit c.in-Fat.index c.args.self.now
    c.self.view_is c.self.invariant c.requires c.as_slice.ensures.value c.in-Fat.ensures.same
    c.notify_all.ensures.answer c.notify_all.ensures.after refl
