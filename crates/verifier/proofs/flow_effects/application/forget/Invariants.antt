use Rattle.std.proofs.Common.{◌≡◌, map}
use Rattle.model.specs.Classes.{Program}
use Rattle.model.specs.InitialisedTypes.{forgotten}
use Rattle.types.specs.View.{type_in}
use Rattle.instruction_types.proofs.Lists.{changed}
use Rattle.verifier.proofs.flow_effects.application.forget.Given as goal

abbrev pub invariant-loop-i : goal.invariant-loop-i
invariant-loop-i l = (files : Program) → map (type_in files) l.types ≡ changed (forgotten l.offset) l.i (map (type_in files) l.initial.types)
