use Rattle.std.proofs.Common.{ap, sym, subst, ◌∙◌, if◌then◌else◌}
use Rattle.model.specs.Report as report
use Rattle.model.specs.State as model
use Rattle.model.specs.State.{Thread, ThreadStatus}
use Rattle.heap.specs.java_threads.Statuses.{cause_of}
use Rattle.machine_threads.specs.waiting_instructions.Waits.{IsEnd}
use Rattle.machine.specs.thread_standings.Parts.{end_of}
use Rattle.machine.proofs.thread_standings.Enabled.{relock_enabled}
use Rattle.machine.proofs.thread_standings.Tops.{row_is}
use Rattle.machine.proofs.thread_standings.Statuses.{thread_there}
use Rattle.machine.proofs.thread_standings.threads.thread_standing.Goals as goal

pub returns-in-Running : goal.returns-in-Running
returns-in-Running c = λ trees bounds inflated state own program lent ends.
    let is = row_is trees c.args.program.now bounds inflated c.args.thread c.args.shared.now c.args.stack.now state own lent in
    subst (λ (s : ThreadStatus). IsEnd trees c.running_standing.result (end_of trees c.args.frames c.args.thread state.world own s)) (c.in-Running.ensures ∙ ap (λ (thread : Thread). thread.status) is)
    (c.running_standing.ensures trees bounds inflated state own program lent)

pub returns-in-Relock : goal.returns-in-Relock
returns-in-Relock c = λ trees bounds inflated state own program lent ends.
    let is = row_is trees c.args.program.now bounds inflated c.args.thread c.args.shared.now c.args.stack.now state own lent in
    subst (λ (s : ThreadStatus). IsEnd trees c.relock_standing.result (end_of trees c.args.frames c.args.thread state.world own s)) (c.in-Relock.ensures ∙ ap (λ (thread : Thread). thread.status) is)
    (subst (λ b. IsEnd trees c.relock_standing.result (if b then report.Runnable else report.Blocked))
    (relock_enabled trees c.args.thread c.in-Relock.object c.in-Relock.count (cause_of c.in-Relock.cause) state.world own c.args.shared.now.heap.locks.monitors lent.represents.world_is.monitors)
    (c.relock_standing.ensures trees c.args.thread c.in-Relock.count))

pub returns-in-Ended : goal.returns-in-Ended
returns-in-Ended c = λ trees bounds inflated state own program lent ends.
    let is = row_is trees c.args.program.now bounds inflated c.args.thread c.args.shared.now c.args.stack.now state own lent in
    let status = c.in-Ended.ensures ∙ ap (λ (thread : Thread). thread.status) is in
    subst (λ (s : ThreadStatus). IsEnd trees c.ended_standing.result (end_of trees c.args.frames c.args.thread state.world own s)) status
    (c.ended_standing.ensures trees c.args.program.now.components.items state.world lent.represents.world_is.objects
    (λ thrown e. ends c.args.thread _ thrown (thread_there trees c.args.program.now bounds inflated c.args.thread c.args.shared.now c.args.stack.now state own lent) (sym status ∙ ap model.Ended e)))
