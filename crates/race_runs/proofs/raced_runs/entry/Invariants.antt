use Rattle.std.proofs.Common.{replicate}
use Rattle.race_runs.proofs.raced_runs.Passed.{IsPassed}
use Rattle.race_runs.proofs.raced_runs.entry.Given as goal

abbrev pub invariant-events : goal.invariant-events
invariant-events l = IsPassed (replicate l.done l.given.event) l.done l.fn.machine l.machine l.fn.finder l.finder
