use Rattle.std.proofs.Common.{take}
use Rattle.model.specs.Schedule.{events_of}
use Rattle.program_runs.proofs.continued_runs.Passing.{HasPassed}
use Rattle.program_runs.proofs.continued_runs.following.follow.Given as goal

-- the entries so far are passed
abbrev pub invariant-entries : goal.invariant-entries
invariant-entries g l = HasPassed (events_of (take l.entry-index l.entry-items)) l.fn.world l.world
