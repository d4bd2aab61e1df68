use Rattle.std.proofs.Common.{◌∙◌, ap, refl, arith}
use Rattle.std.specs.Global.{Vec}
use Rattle.verifier.specs.declared.run.Run.{Run}
use Rattle.types.specs.declared.verification_type.VerificationType.TheVariants as type
use Rattle.verifier.proofs.Runs.{kept, begun}
use Rattle.verifier.proofs.run.runs_of.Goals as goal
use Rattle.verifier.proofs.run.runs_of.Goals.{then-not-is_same_type+in_ok-push, else-not-is_same_type}

pub types-preserved : goal.types-preserved
types-preserved c =
    let before = c.types.runs.items in
    let types = c.args.types.now in
    let items = λ (v : Vec Run). v.items in
    elim c.if-not-is_same_type.branch [
      | then-not-is_same_type+in_ok-push w ↦ record {
        begun = omega arith;
        done = begun before types c.types.begin c.types.i type.Unusable c.types-test.true c.types.invariant.done c.if-not-is_same_type.runs.items c.if-not-is_same_type.begin (ap items w.runs-is ∙ w.in_ok-push.ensures.items) w.begin-is;
      }
      | else-not-is_same_type w ↦ record {
        begun = omega arith;
        done = kept before types c.types.begin c.types.i type.Unusable c.types-test.true c.types.invariant.done c.if-not-is_same_type.runs.items c.if-not-is_same_type.begin c.types.invariant.begun (ap items w.runs-is) w.begin-is (w.if-not-is_same_type.ensures refl);
      }
    ]
