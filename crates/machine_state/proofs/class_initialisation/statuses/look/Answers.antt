use Rattle.std.proofs.Common.{ap, ◌∙◌}
use Rattle.model.specs.ClassInitialisation.{status_of, look_by}
use Rattle.machine_state.proofs.class_initialisation.Looking.{ready_look}
use Rattle.machine_state.proofs.class_initialisation.statuses.look.Goals as goal

pub returns-then-is_ready : goal.returns-then-is_ready
returns-then-is_ready c = λ trees p bounds world program r class at.
    ready_look c.args.thread (status_of world class) c.args.shared.now.ready.items c.args.class c.is_ready.result c.is_ready.ensures c.if-is_ready.true
    (r.world_is.ready c.args.class class at)

pub returns-else-is_ready : goal.returns-else-is_ready
returns-else-is_ready c = λ trees p bounds world program r class at.
    c.look_by.ensures ∙ ap (look_by c.args.thread) (c.status_of.ensures trees p bounds world program r class at)
