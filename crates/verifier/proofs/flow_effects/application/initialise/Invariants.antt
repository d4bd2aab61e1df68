use Rattle.std.proofs.Common.{◌≡◌, map}
use Rattle.model.specs.InitialisedTypes.{initialised}
use Rattle.types.specs.View.{type_in}
use Rattle.instruction_types.proofs.Lists.{changed}
use Rattle.verifier.proofs.flow_effects.application.initialise.Given as goal

abbrev pub invariant-loop-i : goal.invariant-loop-i
invariant-loop-i l = map (type_in l.set) l.types ≡ changed (initialised (type_in l.set l.receiver)) l.i (map (type_in l.set) l.initial.types)
