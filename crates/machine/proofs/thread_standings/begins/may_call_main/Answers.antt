use Rattle.std.proofs.Common.{ap, sym, ◌∙◌}
use Rattle.model.specs.Step.{is_enabled_by}
use Rattle.machine_threads.proofs.thread_begins.Calling.{main, calls}
use Rattle.machine.proofs.thread_standings.Enabled.{push_enabled}
use Rattle.machine.proofs.thread_standings.begins.may_call_main.Goals as goal

pub returns-in-Some : goal.returns-in-Some
returns-in-Some c = λ trees bounds world program r.
    let p = c.args.program.now in
    let h = c.in-Some.ensures.callee trees program (main trees) program.linked.main in
    c.may_call.ensures
    ∙ push_enabled trees c.args.frames 0 world _ _ c.args.shared.now.heap.locks.monitors r.world_is.monitors
    ∙ sym (ap is_enabled_by (calls trees p program c.args.frames world c.args.class (c.requires trees program) c.class_object_of.result c.class_object_of.ensures c.in-Some.callee h))
