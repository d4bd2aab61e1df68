use Rattle.std.proofs.Common.{◌∙◌, ap}
use Rattle.std.specs.Global.{Vec}
use Rattle.verifier.specs.declared.run.Run.{Run}
use Rattle.verifier.specs.Packed.{unpacked}
use Rattle.verifier.proofs.Runs.{passed_none, passed_here, passed_before, pass_end}
use Rattle.verifier.proofs.run.runs_with.Goals as goal
use Rattle.verifier.proofs.run.runs_with.Goals.{in-None+in_ok-push_run-in-None, in-Some+then-place-run+in_ok-push_with-in-Some, in-Some+else-place-run+in_ok-push_run-in-Some}

pub runs-preserved : goal.runs-preserved
runs-preserved c =
    let types = λ (v : Vec Run). unpacked v.items in
    let made = unpacked c.runs.made.items in
    let after = unpacked c.match-left.made.items in
    elim c.match-left.branch [
      | in-None+in_ok-push_run-in-None w ↦ passed_none c.args.of c.args.runs.now c.runs.run-index _ c.runs-test.true made after _ c.runs.left c.match-left.left w.in-None.is w.left-is c.runs.invariant (ap types w.made-is ∙ w.in_ok-push_run-in-None.ensures)
      | in-Some+then-place-run+in_ok-push_with-in-Some w ↦ passed_here c.args.of c.args.runs.now c.runs.run-index _ c.runs-test.true made after _ c.runs.left c.match-left.left w.in-Some.place w.in-Some.is w.left-is w.if-place-run.true c.runs.invariant (ap types w.made-is ∙ w.in_ok-push_with-in-Some.ensures)
      | in-Some+else-place-run+in_ok-push_run-in-Some w ↦ passed_before c.args.of c.args.runs.now c.runs.run-index _ c.runs-test.true made after _ c.runs.left c.match-left.left w.in-Some.place w.in-Some.is w.left-is w.if-place-run.false c.runs.invariant (ap types w.made-is ∙ w.in_ok-push_run-in-Some.ensures)
    ]

pub returns : goal.returns
returns c = pass_end c.args.of c.runs.left c.args.runs.now c.runs.run-index (unpacked c.runs.made.items) _ c.runs-test.false c.runs.invariant
