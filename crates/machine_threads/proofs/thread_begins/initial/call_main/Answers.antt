use Rattle.std.proofs.Common.{ℕ, sym, subst}
use Rattle.model.specs.Step.{SteppedOf, PartOf}
use Rattle.machine_state.specs.Events.{Becomes}
use Rattle.machine_threads.proofs.thread_begins.Calling.{main, main_has_code, is_shared, monitor_there, calls}
use Rattle.machine_threads.proofs.thread_begins.initial.call_main.Goals as goal

pub call_first-requires : goal.call_first-requires
call_first-requires c =
    let able = c.requires.able in
    record {
      there =
          monitor_there able.trees c.args.program.now able.bounds able.inflated 0 c.args.shared.now c.args.stack.now able.state able.lent able.program c.args.class (c.requires.initial able.trees able.program)
          c.class_object_of.result c.class_object_of.ensures c.in-Some.callee.entered c.in-Some.ensures.entered;
    }

pub unreachable-requires : goal.unreachable-requires
unreachable-requires c =
    let able = c.requires.able in
    main_has_code able.trees c.args.program.now able.program (c.in-None.ensures.callee able.trees able.program (main able.trees) able.program.linked.main)

pub returns : goal.returns
returns c = λ trees bounds inflated state program lent.
    let p = c.args.program.now in
    let h = c.in-Some.ensures.callee trees program (main trees) program.linked.main in
    subst (λ (stepped : SteppedOf (PartOf ℕ)). Becomes trees p bounds inflated state.world stepped c.call_first.result c.args.shared.now c.call_first.new.shared c.args.stack.now c.call_first.new.stack)
    (sym (calls trees p program c.args.frames state.world c.args.class (c.requires.initial trees program) c.class_object_of.result c.class_object_of.ensures c.in-Some.callee h))
    (c.call_first.ensures trees bounds inflated state.world program (is_shared trees p bounds inflated 0 c.args.shared.now c.args.stack.now state lent) lent.shows_stack (main trees) h.body h.is)
