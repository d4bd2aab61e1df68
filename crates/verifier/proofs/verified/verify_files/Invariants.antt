use Rattle.std.proofs.Common.{ℕ, ◌<◌, ◌≤◌, ◌-◌}
use Rattle.verifier.specs.Steps.{TakesAtMost}
use Rattle.verifier.specs.Places.{AreTypedIn}
use Rattle.verifier.proofs.Counting.{classes_steps}
use Rattle.verifier.proofs.verified.verify_files.Given as goal

abbrev pub invariant-loop-class : goal.invariant-loop-class
invariant-loop-class l =
    record {
      behind : 37 ≤ l.class;
      typed : (k : ℕ) → 37 ≤ k → k < l.class → AreTypedIn l.hierarchy k;
      taken : TakesAtMost l.hierarchy (classes_steps l.hierarchy (l.class - 37)) l.fn.steps.left l.steps.left;
    }
