use Rattle.std.proofs.Common.{◌≤◌}
use Rattle.program_runs.specs.worlds.Commits.{HasNone}
use Rattle.program_runs.proofs.worlds.commits.first_copy.Given as goal

-- none so far
abbrev pub invariant-threads : goal.invariant-threads
invariant-threads l = (l.fn.from ≤ l.thread) × HasNone l.machine l.fn.from l.thread
