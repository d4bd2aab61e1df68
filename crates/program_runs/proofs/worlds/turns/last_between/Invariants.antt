use Rattle.program_runs.specs.worlds.Turns.{MayNone}
use Rattle.program_runs.proofs.worlds.turns.last_between.Given as goal

-- none so far
abbrev pub invariant-threads : goal.invariant-threads
invariant-threads l = MayNone l.machine l.thread l.fn.to
