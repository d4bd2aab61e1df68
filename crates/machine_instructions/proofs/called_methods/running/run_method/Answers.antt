use Rattle.std.proofs.Common.{None, ◌∷◌, refl, sym, subst, if◌then◌else◌, Some}
use Rattle.model.specs.State.{Invocation}
use Rattle.model.specs.Step.{SteppedOf, PartOf}
use Rattle.std.specs.Prelude.{ℕ}
use Rattle.machine_state.specs.Instructions.{Does}
use Rattle.machine_instructions.proofs.called_methods.RunMethods.{missing, fails, calling, built_in_done, is_callee, the_body, not_picked, pushes_is, is_shared}
use Rattle.machine_instructions.proofs.called_methods.running.run_method.Goals as goal

-- src/running.rt:52:9
pub returns-in_default : goal.returns-in_default
returns-in_default c = λ trees bounds inflated state frame rest site chosen is.
    absurd (missing c.methods_are_run.ensures.holds trees c.args.program.now bounds inflated c.args.thread c.args.shared.now c.args.stack.now state frame rest site c.args.call chosen is (sym c.in_default.ensures))

-- src/running.rt:58:13
pub run_built_in-requires : goal.run_built_in-requires
run_built_in-requires c =
    let r = c.requires.able in
    record {
      trees = r.trees;
      p = c.args.program.now;
      bounds = r.bounds;
      inflated = r.inflated;
      state = r.state;
      frame = r.frame;
      rest = r.rest;
      offset = r.site.next;
      is = calling c.methods_are_run.ensures.holds r.trees c.args.program.now r.bounds r.inflated c.args.thread c.args.shared.now c.args.stack.now r.state r.frame r.rest r.site c.args.call r.chosen r.is
          c.in-Some.row.now (sym c.in-Some.ensures) c.in-BuiltIn.method c.in-BuiltIn.is c.place_behind-next.result c.place_behind-next.ensures;
    }

-- src/running.rt:62:17
pub returns-then-pick-ne0 : goal.returns-then-pick-ne0
returns-then-pick-ne0 c = λ trees bounds inflated state frame rest site chosen is. (
  not_picked c.methods_are_run.ensures.holds trees c.args.program.now bounds inflated c.args.thread c.args.shared.now c.args.stack.now state frame rest site c.args.call chosen is
      c.in-Some.row.now (sym c.in-Some.ensures) c.in-Code.code c.in-Code.is (if c.in-Some.row.now.is_synchronized then Some c.args.call.object else None) refl c.args.frames c.args.pick c.if-pick-ne0.true,
  record { shared = refl; stack = refl },
)

-- src/running.rt:37:1
pub returns-in-Abstract : goal.returns-in-Abstract
returns-in-Abstract c = λ trees bounds inflated state frame rest site chosen is.
    fails c.methods_are_run.ensures.holds trees c.args.program.now bounds inflated c.args.thread c.args.shared.now c.args.stack.now state frame rest site c.args.call chosen is
    c.in-Some.row.now (sym c.in-Some.ensures) c.in-Abstract.is c.args.frames c.args.pick c.raised.result c.raised.ensures

-- src/running.rt:37:1
pub returns-in-BuiltIn : goal.returns-in-BuiltIn
returns-in-BuiltIn c = λ trees bounds inflated state frame rest site chosen is.
    let p = c.args.program.now in
    let run = c.methods_are_run.ensures.holds in
    subst (λ (s : SteppedOf (PartOf ℕ)). Does trees p bounds inflated c.args.thread state.world (Invocation frame ∷ rest) s c.run_built_in.result c.args.shared.now c.run_built_in.new.shared c.args.stack.now c.run_built_in.new.stack)
    (built_in_done run trees p bounds inflated c.args.thread c.args.shared.now c.args.stack.now state frame rest site c.args.call chosen is c.in-Some.row.now (sym c.in-Some.ensures) c.in-BuiltIn.method c.in-BuiltIn.is c.args.frames c.args.pick)
    (c.run_built_in.ensures trees bounds inflated state frame rest site.next
    (calling run trees p bounds inflated c.args.thread c.args.shared.now c.args.stack.now state frame rest site c.args.call chosen is c.in-Some.row.now (sym c.in-Some.ensures) c.in-BuiltIn.method c.in-BuiltIn.is c.place_behind-next.result c.place_behind-next.ensures)
    c.args.frames)

-- src/running.rt:37:1
pub returns-else-pick-ne0 : goal.returns-else-pick-ne0
returns-else-pick-ne0 c = λ trees bounds inflated state frame rest site chosen is.
    let p = c.args.program.now in
    let run = c.methods_are_run.ensures.holds in
    let t = c.args.thread in
    subst (λ (s : SteppedOf (PartOf ℕ)). Does trees p bounds inflated t state.world (Invocation frame ∷ rest) s c.call.result c.args.shared.now c.call.new.shared c.args.stack.now c.call.new.stack)
    (sym (pushes_is run trees p bounds inflated t c.args.shared.now c.args.stack.now state frame rest site c.args.call chosen is c.in-Some.row.now (sym c.in-Some.ensures) c.in-Code.code c.in-Code.is c.entered.result c.entered.ensures c.args.frames c.args.pick c.if-pick-ne0.false))
    (c.call.ensures trees p bounds inflated state.world
    (is_shared run trees p bounds inflated t c.args.shared.now c.args.stack.now state frame rest site c.args.call chosen is)
    frame rest is.lent.shows_stack _
    (the_body run trees p bounds inflated t c.args.shared.now c.args.stack.now state frame rest site c.args.call chosen is c.in-Some.row.now (sym c.in-Some.ensures) c.in-Code.code c.in-Code.is)
    (is_callee run trees p bounds inflated t c.args.shared.now c.args.stack.now state frame rest site c.args.call chosen is c.in-Some.row.now (sym c.in-Some.ensures) c.in-Code.code c.in-Code.is c.entered.result c.entered.ensures))
