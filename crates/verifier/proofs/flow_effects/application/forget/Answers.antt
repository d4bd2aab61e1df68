use Rattle.std.proofs.Common.{◌∙◌, ◌≤◌, length, map, arith}
use Rattle.std.proofs.lemmas.List.{length-map}
use Rattle.model.specs.InitialisedTypes.{forgotten}
use Rattle.types.specs.View.{type_in}
use Rattle.instruction_types.proofs.Lists.{one_changed, all_changed}
use Rattle.verifier.proofs.flow_effects.application.forget.Goals as goal

pub loop-i-preserved : goal.loop-i-preserved
loop-i-preserved c = λ files.
    one_changed (type_in files) (forgotten c.args.offset) c.args.types.now c.loop-i.types c.loop-i.i _ c.forgotten.result (omega (arith, c.loop-i.auto.types)) (c.forgotten.ensures files) (c.loop-i.invariant files)

pub returns : goal.returns
returns c = λ files.
    let types = map (type_in files) c.args.types.now in
    let past : length types ≤ c.loop-i.i = omega (arith, length-map c.args.types.now (type_in files)) in
    c.loop-i.invariant files ∙ all_changed (forgotten c.args.offset) c.loop-i.i types past
