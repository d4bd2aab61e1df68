use Rattle.std.proofs.Common.{◌≤◌}
use Rattle.program_runs.specs.worlds.Turns.{MayNone}
use Rattle.program_runs.proofs.worlds.turns.first_between.Given as goal

-- none so far
abbrev pub invariant-threads : goal.invariant-threads
invariant-threads l = (l.fn.from ≤ l.thread) × MayNone l.machine l.fn.from l.thread
