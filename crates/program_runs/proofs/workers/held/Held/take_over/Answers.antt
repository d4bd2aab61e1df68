use Rattle.std.proofs.Common.{◌<◌, arith}
use Rattle.program_runs.proofs.workers.Stays.{taken, left}
use Rattle.program_runs.proofs.workers.held.Held.take_over.Goals.{in-Committed, in-Stale}
use Rattle.program_runs.proofs.workers.held.Held.take_over.Goals as goal

pub returns-clause-done : goal.returns-clause-done
returns-clause-done g c =
    let some : 0 < c.in-Some.out.burst.steps = omega (arith, c.steps.ensures, c.if-steps-eq0.false) in
    elim c.match-branch-2.branch [
      | in-Committed w ↦ rw w.result-is (taken _ c.self.inside.world _ c.in-Some.out c.commit.new.self _ w.in-Committed.is c.in-Some.is some c.self.view_is c.in_ok-commit.ensures.done)
      | in-Stale w ↦ rw w.result-is (left _ c.self.inside.world _ c.in-Some.out c.commit.new.self _ w.in-Stale.is c.in-Some.is c.self.view_is c.in_ok-commit.ensures.done)
    ]
