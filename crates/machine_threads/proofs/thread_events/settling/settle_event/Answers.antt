use Rattle.std.proofs.Common.{Result, subst}
use Rattle.machine_state.specs.declared.answers.Answer.{Answer}
use Rattle.machine_state.specs.declared.refusals.EventRefusal.{EventRefusal}
use Rattle.machine_state.specs.Events.{Becomes}
use Rattle.machine_threads.proofs.thread_wakes.Ending.{refused_settled}
use Rattle.machine_threads.proofs.thread_events.settling.settle_event.Goals as goal

pub returns-in-Err : goal.returns-in-Err
returns-in-Err c = λ trees p bounds inflated world stepped old from h.
    let r = subst (λ (g : Result Answer EventRefusal). Becomes trees p bounds inflated world stepped g old c.args.shared.now from c.args.stack.now) c.in-Err.is h in
    (refused_settled c.args.thread trees bounds inflated world from stepped c.in-Err.refusal r.0, r.1)
