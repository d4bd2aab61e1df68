use Rattle.std.proofs.Common.{◌∷◌, ℕ, sym, subst}
use Rattle.model.specs.State.{Invocation}
use Rattle.model.specs.Calls.{Runs}
use Rattle.model.specs.Step.{SteppedOf, PartOf}
use Rattle.machine_state.specs.Instructions.{Does}
use Rattle.machine_instructions.proofs.called_methods.Statics.{callee, invoking, static_event}
use Rattle.machine_instructions.proofs.called_methods.direct_calls.invoke_static.Goals as goal

pub run_method-requires-clause-able : goal.run_method-requires-clause-able
run_method-requires-clause-able c =
    let class = c.requires.running.0 in
    let r = c.requires.running.1 in
    record {
      trees = r.trees;
      bounds = r.bounds;
      inflated = r.inflated;
      state = r.state;
      frame = r.frame;
      rest = r.rest;
      site = r.site;
      chosen = Runs (callee r.trees c.args.program.now r.bounds r.inflated c.args.thread c.args.shared.now c.args.stack.now r.state r.frame r.rest r.code r.site r.meaning c.args.parameters class c.args.method r.is);
      is = invoking r.trees c.args.program.now r.bounds r.inflated c.args.thread c.args.shared.now c.args.stack.now r.state r.frame r.rest r.code r.site r.meaning c.args.parameters class c.args.method r.is
          c.class_object.result c.class_object.ensures c.from.result c.from.ensures;
    }

pub returns : goal.returns
returns c = λ class trees bounds inflated state frame rest code site meaning is.
    let p = c.args.program.now in
    let t = c.args.thread in
    let old = c.args.shared.now in
    let from = c.args.stack.now in
    subst (λ (s : SteppedOf (PartOf ℕ)). Does trees p bounds inflated t state.world (Invocation frame ∷ rest) s c.run_method.result old c.run_method.new.shared from c.run_method.new.stack)
    (sym (static_event trees p bounds inflated t old from state frame rest code site meaning c.args.parameters class c.args.method is c.class_object.result c.class_object.ensures c.from.result c.from.ensures c.args.frames c.args.pick))
    (c.run_method.ensures trees bounds inflated state frame rest site
    (Runs (callee trees p bounds inflated t old from state frame rest code site meaning c.args.parameters class c.args.method is))
    (invoking trees p bounds inflated t old from state frame rest code site meaning c.args.parameters class c.args.method is c.class_object.result c.class_object.ensures c.from.result c.from.ensures))
