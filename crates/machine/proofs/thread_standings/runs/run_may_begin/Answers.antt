use Rattle.std.proofs.Common.{refl, ap, sym, ◌∙◌}
use Rattle.model.specs.Operands.{words}
use Rattle.model.specs.Step.{is_enabled_by, run_event}
use Rattle.machine_threads.proofs.thread_begins.Starting.{object_is, instance, calls, fails}
use Rattle.machine.proofs.thread_standings.Enabled.{push_enabled}
use Rattle.machine.proofs.thread_standings.runs.run_may_begin.Goals as goal

pub returns-in-Some : goal.returns-in-Some
returns-in-Some c = λ trees bounds inflated state stack program lent.
    let p = c.args.program.now in
    let t = c.args.thread in
    let r = c.object-object.result in
    let is = object_is trees p bounds inflated t c.args.shared.now stack state lent r c.object-object.ensures in
    let h = c.in-Some.ensures.run trees program state.world.heap lent.represents.world_is.objects (instance trees p bounds inflated t c.args.shared.now stack state lent r c.object-object.ensures) in
    c.may_call.ensures
    ∙ push_enabled trees c.args.frames t state.world _ _ c.args.shared.now.heap.locks.monitors lent.represents.world_is.monitors
    ∙ sym (ap is_enabled_by (calls trees p c.args.frames t state.world r _ c.in-Some.callee h _ refl))
    ∙ ap (λ n. is_enabled_by (run_event words trees c.args.frames t state.world n)) is

pub returns-in-None : goal.returns-in-None
returns-in-None c = λ trees bounds inflated state stack program lent.
    let p = c.args.program.now in
    let t = c.args.thread in
    let r = c.object-object.result in
    let is = object_is trees p bounds inflated t c.args.shared.now stack state lent r c.object-object.ensures in
    let h = c.in-None.ensures.run trees program state.world.heap lent.represents.world_is.objects (instance trees p bounds inflated t c.args.shared.now stack state lent r c.object-object.ensures) in
    sym (ap is_enabled_by (fails trees p c.args.frames t state.world r _ h))
    ∙ ap (λ n. is_enabled_by (run_event words trees c.args.frames t state.world n)) is
