use Rattle.std.proofs.Common.{◌*◌, ◌≤◌, take}
use Rattle.model.specs.Schedule.{events_of}
use Rattle.race_runs.proofs.raced_runs.Passed.{IsPassed}
use Rattle.race_runs.proofs.raced_runs.events.Given as goal

abbrev pub invariant-entries : goal.invariant-entries
invariant-entries l =
    (l.done ≤ l.given-index * 4294967295) × IsPassed (events_of (take l.given-index l.given-items)) l.done l.fn.machine l.machine l.fn.finder l.finder
