use Rattle.std.proofs.Common.{ap, ◌∙◌}
use Rattle.state_actions.specs.changed_monitors.Changed.{tells_owner}
use Rattle.state_actions.proofs.changed_monitors.Meant.{changed_entered, changed_said}
use Rattle.state_actions.proofs.changed_monitors.monitor_changed.Goals as goal

pub returns-in-Some : goal.returns-in-Some
returns-in-Some c =
    changed_entered c.args.heap.now.locks.monitors c.args.stack.now c.args.depth c.args.meant
    (record { object = c.entered_since-object.result; was_owner = c.was_owner.result }) c.in-Some.field-0 c.in-Some.ensures c.in-Some.is
    (c.was_owner.ensures ∙ ap (λ o. tells_owner o c.args.heap.now.locks.monitors) c.in-Some.is)

pub returns-in-None : goal.returns-in-None
returns-in-None c = changed_said c.args.heap.now.locks.monitors c.args.stack.now c.args.depth c.args.meant c.in-None.ensures
