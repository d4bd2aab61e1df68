use Rattle.std.proofs.Common.{◌≤◌, length}
use Rattle.program_runs.proofs.worlds.Counting.{AreLeft}
use Rattle.program_runs.proofs.worlds.turns.enabled_at.Given as goal

-- those so far, and those left
abbrev pub invariant-threads : goal.invariant-threads
invariant-threads l = (l.thread ≤ length l.machine.shared.threads.threads) × AreLeft l.machine l.thread l.left l.fn.place
