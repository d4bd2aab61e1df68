use Rattle.std.proofs.Common.{ℕ, subst}
use Rattle.model.specs.Step.{SteppedOf, PartOf}
use Rattle.machine_state.specs.Events.{Becomes}
use Rattle.machine_threads.proofs.thread_begins.Following.{is_started}
use Rattle.machine_threads.proofs.thread_begins.threads.begin_thread.Goals as goal

pub returns-else-thread-eq0 : goal.returns-else-thread-eq0
returns-else-thread-eq0 c = λ trees bounds inflated state program lent.
    let p = c.args.program.now in
    subst (λ (stepped : SteppedOf (PartOf ℕ)). Becomes trees p bounds inflated state.world stepped c.begin_started.result c.args.shared.now c.begin_started.new.shared c.args.stack.now c.begin_started.new.stack)
    (is_started trees c.args.frames state.world c.args.thread c.if-thread-eq0.false)
    (c.begin_started.ensures trees bounds inflated state program lent)
