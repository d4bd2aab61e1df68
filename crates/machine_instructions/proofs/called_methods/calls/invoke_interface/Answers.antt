use Rattle.std.proofs.Common.{◌∷◌, ◌+◌, ℕ, sym, ap, subst}
use Rattle.model.specs.State.{Invocation}
use Rattle.model.specs.Step.{SteppedOf, PartOf}
use Rattle.machine_state.specs.Instructions.{Does}
use Rattle.machine_instructions.proofs.called_methods.Receivers.{interface_null, interface_missing, interface_event, interface_invoking, chosen_interface}
use Rattle.machine_instructions.proofs.called_methods.calls.invoke_interface.Goals as goal

pub returns-in_default : goal.returns-in_default
returns-in_default c = λ trees bounds inflated state frame rest code site meaning is.
    interface_null trees c.args.program.now bounds inflated c.args.thread c.args.shared.now c.args.stack.now state frame rest code site meaning c.args.parameters c.args.selector is c.in_default.ensures c.args.frames c.args.pick c.raised.result c.raised.ensures

pub returns-in_default-interface_method : goal.returns-in_default-interface_method
returns-in_default-interface_method c = λ trees bounds inflated state frame rest code site meaning is.
    interface_missing trees c.args.program.now bounds inflated c.args.thread c.args.shared.now c.args.stack.now state frame rest code site meaning c.args.parameters c.args.selector is c.in-Some.object c.in-Some.ensures c.in_default-interface_method.ensures c.args.frames c.args.pick c.raised-in_default-interface_method.result c.raised-in_default-interface_method.ensures

pub run_method-requires-clause-able : goal.run_method-requires-clause-able
run_method-requires-clause-able c =
    let r = c.requires.running in
    record {
      trees = r.trees;
      bounds = r.bounds;
      inflated = r.inflated;
      state = r.state;
      frame = r.frame;
      rest = r.rest;
      site = r.site;
      chosen = chosen_interface r.trees c.args.program.now r.bounds r.inflated c.args.thread c.args.shared.now c.args.stack.now r.state r.frame r.rest r.code r.site r.meaning c.args.parameters c.args.selector r.is c.in-Some.object;
      is = interface_invoking r.trees c.args.program.now r.bounds r.inflated c.args.thread c.args.shared.now c.args.stack.now r.state r.frame r.rest r.code r.site r.meaning c.args.parameters c.args.selector r.is
          c.in-Some.object c.in-Some.ensures c.in-Some-interface_method.method c.in-Some-interface_method.ensures (c.from.result + 1) (ap (λ n. n + 1) c.from.ensures);
    }

pub returns : goal.returns
returns c = λ trees bounds inflated state frame rest code site meaning is.
    let p = c.args.program.now in
    let t = c.args.thread in
    let old = c.args.shared.now in
    let from = c.args.stack.now in
    let e = ap (λ (n : ℕ). n + 1) c.from.ensures in
    subst (λ (s : SteppedOf (PartOf ℕ)). Does trees p bounds inflated t state.world (Invocation frame ∷ rest) s c.run_method.result old c.run_method.new.shared from c.run_method.new.stack)
    (sym (interface_event trees p bounds inflated t old from state frame rest code site meaning c.args.parameters c.args.selector is c.in-Some.object c.in-Some.ensures (c.from.result + 1) e c.args.frames c.args.pick))
    (c.run_method.ensures trees bounds inflated state frame rest site
    (chosen_interface trees p bounds inflated t old from state frame rest code site meaning c.args.parameters c.args.selector is c.in-Some.object)
    (interface_invoking trees p bounds inflated t old from state frame rest code site meaning c.args.parameters c.args.selector is c.in-Some.object c.in-Some.ensures c.in-Some-interface_method.method c.in-Some-interface_method.ensures (c.from.result + 1) e))
