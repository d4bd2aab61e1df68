use Rattle.std.proofs.Common.{ℕ, [], sym, ap, subst, ◌∙◌, refl}
use Rattle.model.specs.Operands.{words}
use Rattle.model.specs.Step.{SteppedOf, PartOf, run_event}
use Rattle.machine_state.specs.Instructions.{Does}
use Rattle.machine_threads.proofs.thread_begins.Starting.{is_shared, object_is, instance, within, monitor_there, calls, fails}
use Rattle.machine_threads.proofs.thread_begins.runs.begin_run.Goals as goal

pub reference-word-requires : goal.reference-word-requires
reference-word-requires c =
    let able = c.requires.able in
    within able.trees c.args.program.now able.bounds able.inflated c.args.thread c.args.shared.now c.args.stack.now able.state able.lent c.object-object.result c.object-object.ensures

pub push_first-requires-clause-there : goal.push_first-requires-clause-there
push_first-requires-clause-there c =
    let able = c.requires.able in
    monitor_there able.trees c.args.program.now able.bounds able.inflated c.args.thread c.args.shared.now c.args.stack.now able.state able.lent c.object-object.result c.object-object.ensures c.in-Some.callee.entered c.in-Some.ensures.entered

pub returns-in-Some : goal.returns-in-Some
returns-in-Some c = λ trees bounds inflated state program lent.
    let p = c.args.program.now in
    let t = c.args.thread in
    let r = c.object-object.result in
    let h = c.in-Some.ensures.run trees program state.world.heap lent.represents.world_is.objects (instance trees p bounds inflated t c.args.shared.now c.args.stack.now state lent r c.object-object.ensures) in
    subst (λ (stepped : SteppedOf (PartOf ℕ)). Does trees p bounds inflated t state.world [] stepped c.push_first.result c.args.shared.now c.push_first.new.shared c.args.stack.now c.push_first.new.stack)
    (sym (calls trees p c.args.frames t state.world r _ c.in-Some.callee h c.reference-word.result c.reference-word.ensures)
    ∙ ap (run_event words trees c.args.frames t state.world) (object_is trees p bounds inflated t c.args.shared.now c.args.stack.now state lent r c.object-object.ensures))
    (c.push_first.ensures trees p bounds inflated state.world (is_shared trees p bounds inflated t c.args.shared.now c.args.stack.now state lent r c.object-object.ensures) lent.shows_stack h.0 h.2.body h.2.is)

pub returns-in-None : goal.returns-in-None
returns-in-None c = λ trees bounds inflated state program lent.
    let p = c.args.program.now in
    let t = c.args.thread in
    let r = c.object-object.result in
    let h = c.in-None.ensures.run trees program state.world.heap lent.represents.world_is.objects (instance trees p bounds inflated t c.args.shared.now c.args.stack.now state lent r c.object-object.ensures) in (
      ap (run_event words trees c.args.frames t state.world) (sym (object_is trees p bounds inflated t c.args.shared.now c.args.stack.now state lent r c.object-object.ensures)) ∙ fails trees p c.args.frames t state.world r _ h,
      record { shared = refl; stack = refl },
    )
