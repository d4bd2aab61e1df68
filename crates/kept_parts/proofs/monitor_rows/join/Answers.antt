use Rattle.std.proofs.Common.{Ok, ap, ◌∙◌, subst}
use Rattle.heap.specs.Heap.{HandsOn}
use Rattle.heap.specs.declared.monitor.call.Call.TheVariants.{Wait}
use Rattle.kept_parts.proofs.Waiters.{waits}
use Rattle.kept_parts.proofs.monitor_rows.join.Goals as goal

pub returns-in-Ok-Done : goal.returns-in-Ok-Done
returns-in-Ok-Done c =
    waits c.args.object c.args.thread c.args.count c.args.heap.now c.enter_again.new.heap c.wait.new.self c.in_ok-enter_again.ensures
    (subst (λ r. HandsOn r (Wait c.args.object c.args.thread) c.enter_again.new.heap c.wait.new.self) (c.in-Ok-Done.is ∙ ap Ok c.in-Ok-Done.field-0-is) c.wait.ensures)
