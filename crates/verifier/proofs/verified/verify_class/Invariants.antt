use Rattle.std.proofs.Common.{ℕ, ◌<◌}
use Rattle.verifier.specs.Steps.{TakesAtMost}
use Rattle.verifier.specs.Places.{IsTypedAt}
use Rattle.verifier.proofs.Counting.{methods_steps}
use Rattle.verifier.proofs.verified.verify_class.Given as goal

abbrev pub invariant-loop-member : goal.invariant-loop-member
invariant-loop-member l =
    record {
      typed : (k : ℕ) → k < l.member → IsTypedAt l.hierarchy l.class k;
      taken : TakesAtMost l.hierarchy (methods_steps l.hierarchy l.class l.member) l.fn.steps.left l.steps.left;
    }
