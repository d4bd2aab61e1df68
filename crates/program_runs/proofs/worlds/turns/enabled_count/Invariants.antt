use Rattle.std.proofs.Common.{◌≤◌, length}
use Rattle.program_runs.proofs.worlds.Counting.{AreCounted}
use Rattle.program_runs.proofs.worlds.turns.enabled_count.Given as goal

-- those so far
abbrev pub invariant-threads : goal.invariant-threads
invariant-threads l = (l.count ≤ l.thread) × (l.thread ≤ length l.machine.shared.threads.threads) × AreCounted l.machine l.thread l.count
