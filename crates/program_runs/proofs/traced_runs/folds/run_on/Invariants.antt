use Rattle.std.proofs.Common.{replicate}
use Rattle.model.specs.Classes.{Program}
use Rattle.machine.proofs.schedule_runs.Joined.{IsPassed}
use Rattle.program_runs.specs.traced_runs.Telling.{RunsOn}
use Rattle.program_runs.proofs.traced_runs.folds.run_on.Given as goal

abbrev pub invariant-run : goal.invariant-run
invariant-run l = record {
  passed : IsPassed (replicate l.more l.line.event) l.more l.fn.machine l.machine;
  runs : (trees : Program) → RunsOn trees l.window l.fn.machine l.line.number l.from.method l.line.event l.more l.from.offset l.to;
}
