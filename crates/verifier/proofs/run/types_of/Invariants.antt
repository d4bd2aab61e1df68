use Rattle.std.proofs.Common.{◌≡◌, take}
use Rattle.verifier.specs.Packed.{unpacked}
use Rattle.verifier.proofs.run.types_of.Given as goal

abbrev pub invariant-runs : goal.invariant-runs
invariant-runs l = l.types.items ≡ unpacked (take l.run-index l.runs)
