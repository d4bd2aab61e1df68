use Rattle.std.proofs.Common.{◌≡◌, ◌++◌, drop}
use Rattle.std.specs.Prelude.{slice_set}
use Rattle.verifier.specs.Packed.{unpacked}
use Rattle.verifier.proofs.Runs.{set_left}
use Rattle.verifier.proofs.run.runs_with.Given as goal

abbrev pub invariant-runs : goal.invariant-runs
invariant-runs l =
    unpacked l.made.items ++ set_left l.of l.left (unpacked (drop l.run-index l.runs)) ≡ slice_set (unpacked l.runs) l.place l.of
