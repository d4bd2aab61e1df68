use Rattle.std.proofs.Common.{◌∷◌, ℕ, sym, subst}
use Rattle.model.specs.State.{Invocation}
use Rattle.model.specs.Step.{SteppedOf, PartOf}
use Rattle.machine_state.specs.Instructions.{Does}
use Rattle.machine_instructions.proofs.called_methods.Prints.{calling, prints}
use Rattle.machine_instructions.proofs.called_methods.printing.println.Goals as goal

pub run_built_in-requires : goal.run_built_in-requires
run_built_in-requires c =
    let p = c.args.program.now in
    let r = c.requires.running in
    record {
      trees = r.trees;
      p = p;
      bounds = r.bounds;
      inflated = r.inflated;
      state = r.state;
      frame = r.frame;
      rest = r.rest;
      offset = _;
      is = calling r.trees p r.bounds r.inflated c.args.thread c.args.shared.now c.args.stack.now r.state r.frame r.rest r.code r.site r.meaning r.is c.place_behind-next.result c.place_behind-next.ensures;
    }

pub returns : goal.returns
returns c = λ frames trees bounds inflated state frame rest code site meaning is.
    let p = c.args.program.now in
    let t = c.args.thread in
    let old = c.args.shared.now in
    let from = c.args.stack.now in
    subst (λ (s : SteppedOf (PartOf ℕ)). Does trees p bounds inflated t state.world (Invocation frame ∷ rest) s c.run_built_in.result old c.run_built_in.new.shared from c.run_built_in.new.stack)
    (sym (prints trees p bounds inflated t old from state frame rest code site meaning is frames c.args.pick c.receiver.result c.receiver.ensures c.if-is_none.ensures))
    (c.run_built_in.ensures trees bounds inflated state frame rest _
    (calling trees p bounds inflated t old from state frame rest code site meaning is c.place_behind-next.result c.place_behind-next.ensures) frames)
