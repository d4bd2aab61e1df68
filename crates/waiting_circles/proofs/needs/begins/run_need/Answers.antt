use Rattle.std.proofs.Common.{sym, ap, subst, ◌∙◌}
use Rattle.machine_threads.proofs.thread_begins.Starting.{object_is, instance}
use Rattle.waiting_circles.specs.Needs.{IsNeed}
use Rattle.waiting_circles.proofs.needs.Begun.{begins_run, run_selected, selected, runs_callee, runs_none}
use Rattle.waiting_circles.proofs.needs.begins.run_need.Goals as goal

pub returns-in-Some : goal.returns-in-Some
returns-in-Some c = λ ne trees bounds inflated state stack program lent.
    let p = c.args.program.now in
    let t = c.args.thread in
    let r = c.object-object.result in
    let is = object_is trees p bounds inflated t c.args.shared.now stack state lent r c.object-object.ensures in
    let h = c.in-Some.ensures.run trees program state.world.heap lent.represents.world_is.objects (instance trees p bounds inflated t c.args.shared.now stack state lent r c.object-object.ensures) in
    subst (IsNeed trees c.first_need.result)
    (sym (begins_run trees p c.args.frames t state.world t ne
    ∙ ap (λ n. run_selected trees p c.args.frames t state.world n (selected trees p c.args.frames t state.world n)) (sym is)
    ∙ runs_callee trees p c.args.frames t state.world r (selected trees p c.args.frames t state.world r) c.in-Some.callee h))
    (c.first_need.ensures trees t state.world)

pub returns-in-None : goal.returns-in-None
returns-in-None c = λ ne trees bounds inflated state stack program lent.
    let p = c.args.program.now in
    let t = c.args.thread in
    let r = c.object-object.result in
    let is = object_is trees p bounds inflated t c.args.shared.now stack state lent r c.object-object.ensures in
    let h = c.in-None.ensures.run trees program state.world.heap lent.represents.world_is.objects (instance trees p bounds inflated t c.args.shared.now stack state lent r c.object-object.ensures) in
    begins_run trees p c.args.frames t state.world t ne
    ∙ ap (λ n. run_selected trees p c.args.frames t state.world n (selected trees p c.args.frames t state.world n)) (sym is)
    ∙ runs_none trees p c.args.frames t state.world r (selected trees p c.args.frames t state.world r) h
