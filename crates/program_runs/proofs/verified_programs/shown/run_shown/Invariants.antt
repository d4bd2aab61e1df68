use Rattle.std.proofs.Common.{◌*◌, ◌≤◌, take}
use Rattle.model.specs.Schedule.{events_of}
use Rattle.machine.proofs.schedule_runs.Joined.{IsPassed}
use Rattle.program_runs.proofs.verified_programs.shown.run_shown.Given as goal

abbrev pub invariant-entries : goal.invariant-entries
invariant-entries g l = (l.done ≤ l.entry-index * 4294967295) × IsPassed (events_of (take l.entry-index l.entry-items)) l.done l.fn.machine l.machine
