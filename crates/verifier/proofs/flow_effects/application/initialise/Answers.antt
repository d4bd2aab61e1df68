use Rattle.std.proofs.Common.{◌∙◌, ◌≤◌, length, map, arith}
use Rattle.std.proofs.lemmas.List.{length-map}
use Rattle.model.specs.InitialisedTypes.{initialised}
use Rattle.types.specs.View.{type_in}
use Rattle.instruction_types.proofs.Lists.{one_changed, all_changed}
use Rattle.verifier.proofs.flow_effects.application.initialise.Goals as goal

pub loop-i-preserved : goal.loop-i-preserved
loop-i-preserved c =
    let view = type_in c.args.set.now in
    one_changed view (initialised (view c.args.receiver)) c.args.types.now c.loop-i.types c.loop-i.i _ c.initialised.result (omega (arith, c.loop-i.auto.types)) c.initialised.ensures c.loop-i.invariant

pub returns : goal.returns
returns c =
    let view = type_in c.args.set.now in
    let types = map view c.args.types.now in
    let past : length types ≤ c.loop-i.i = omega (arith, length-map c.args.types.now view) in
    c.loop-i.invariant ∙ all_changed (initialised (view c.args.receiver)) c.loop-i.i types past
