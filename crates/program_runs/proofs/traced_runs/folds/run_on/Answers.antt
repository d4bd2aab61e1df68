use Rattle.std.proofs.Common.{◌≡◌, ◌+◌, ap, arith, replicate, subst}
use Rattle.model.specs.Classes.{Program}
use Rattle.machine.specs.declared.machine.Stopped.TheVariants as stopped
use Rattle.machine.specs.schedule_runs.Done.{GoesThrough}
use Rattle.machine.proofs.schedule_runs.Joined.{begins}
use Rattle.program_runs.specs.traced_runs.Telling.{RunsOn, tried}
use Rattle.program_runs.proofs.traced_runs.Runs.{passed_on, run_ends, run_stops, runs_more, runs_none}
use Rattle.program_runs.proofs.traced_runs.folds.run_on.Goals as goal

pub run-init : goal.run-init
run-init c = record {
  passed = begins c.args.machine.now;
  runs = runs_none c.args.window c.args.machine.now c.args.line.number c.args.from.method c.args.line.event c.args.from.offset;
}

pub run-preserved : goal.run-preserved
run-preserved c =
    let of = c.args in
    let runs = c.run.invariant.runs in
    let passed = c.run.invariant.passed in
    record {
      passed =
          passed_on of.window of.machine.now c.run.machine of.line.number of.from.method of.line.event c.run.more of.from.offset c.run.to passed runs c.once.result c.in-Most.is c.once.new.machine c.once.ensures;
      runs =
          runs_more of.window of.machine.now c.run.machine of.line.number of.from.method of.line.event c.run.more of.from.offset c.run.to passed runs (of.line.number + c.from.result)
          (ap (λ j. of.line.number + j) c.from.ensures) c.in-Some.frame (c.in_ok-next.ensures c.in-Some.frame c.in-Some.is);
    }

pub returns-in_default-clause-goes : goal.returns-in_default-clause-goes
returns-in_default-clause-goes c =
    let of = c.args in
    run_ends of.window of.machine.now c.run.machine of.line.number of.from.method of.line.event c.run.more of.from.offset c.run.to c.run.invariant.passed c.run.invariant.runs

pub returns-in_default-once-clause-goes : goal.returns-in_default-once-clause-goes
returns-in_default-once-clause-goes c =
    let of = c.args in
    run_stops of.window of.machine.now c.run.machine of.line.number of.from.method of.line.event c.run.more of.from.offset c.run.to c.run.invariant.passed c.run.invariant.runs
    c.once.result c.in_default-once.not-Most c.once.new.machine c.once.ensures

pub returns-clause-goes : goal.returns-clause-goes
returns-clause-goes c =
    let of = c.args in
    let all : c.run.more ≡ of.most = omega arith in
    subst (λ n. GoesThrough (n, stopped.Most) (replicate (tried n stopped.Most) of.line.event) of.machine.now c.run.machine) all
    (run_ends of.window of.machine.now c.run.machine of.line.number of.from.method of.line.event c.run.more of.from.offset c.run.to c.run.invariant.passed c.run.invariant.runs)

pub returns-clause-runs : goal.returns-clause-runs
returns-clause-runs c =
    let of = c.args in
    let all : c.run.more ≡ of.most = omega arith in
    subst (λ n. (trees : Program) → RunsOn trees of.window of.machine.now of.line.number of.from.method of.line.event n of.from.offset c.run.to) all c.run.invariant.runs
