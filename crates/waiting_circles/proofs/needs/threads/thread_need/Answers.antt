use Rattle.std.proofs.Common.{Some, None, refl}
use Rattle.model.specs.State as model
use Rattle.heap.specs.java_threads.Statuses.{cause_of}
use Rattle.waiting_circles.specs.declared.needs.kinds.Need.TheVariants as the
use Rattle.waiting_circles.proofs.needs.Tops.{with_status}
use Rattle.waiting_circles.proofs.needs.threads.thread_need.Goals as goal

pub returns-in-Running : goal.returns-in-Running
returns-in-Running c =
    with_status c.args.program.now c.args.shared.now c.args.stack.now c.args.thread c.args.frames c.running_need.result model.Running c.in-Running.ensures
    c.running_need.ensures

pub returns-in-Waiting : goal.returns-in-Waiting
returns-in-Waiting c =
    with_status c.args.program.now c.args.shared.now c.args.stack.now c.args.thread c.args.frames None _ c.in-Waiting.ensures
    (λ trees bounds inflated state own program lent. refl)

pub returns-in-Relock : goal.returns-in-Relock
returns-in-Relock c =
    with_status c.args.program.now c.args.shared.now c.args.stack.now c.args.thread c.args.frames (Some (the.Monitor c.in-Relock.object))
    (model.Relock c.in-Relock.object c.in-Relock.count (cause_of c.in-Relock.cause)) c.in-Relock.ensures
    (λ trees bounds inflated state own program lent. refl)

pub returns-in-Ended : goal.returns-in-Ended
returns-in-Ended c =
    with_status c.args.program.now c.args.shared.now c.args.stack.now c.args.thread c.args.frames None (model.Ended c.in-Ended.field-0) c.in-Ended.ensures
    (λ trees bounds inflated state own program lent. refl)
