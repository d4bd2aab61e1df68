use Rattle.std.proofs.Common.{refl}
use Rattle.heap.specs.declared.monitor.call.Call.TheVariants.{Notify}
use Rattle.heap.proofs.monitor.Done.{record_done}
use Rattle.heap.proofs.monitor.monitors.Monitors.notify.Goals as goal

pub returns-in-Fat : goal.returns-in-Fat
returns-in-Fat c =
    record_done (Notify c.args.object c.args.thread c.args.pick) c.notify.result c.self.inside.table c.notify.new.self
    c.self.inside.words.items c.as_slice.result.now c.self.inside.limit c.in-Fat.index c.args.self.now
    c.self.view_is c.self.invariant c.requires c.as_slice.ensures.value c.in-Fat.ensures.same c.notify.ensures.answer
    c.notify.ensures.after refl
