use Rattle.std.proofs.Common.{◌≡◌, ◌≤◌, take}
use Rattle.program_runs.specs.policies.Runs.{waiting_in}
use Rattle.program_runs.proofs.policies.waiters.waiting.Given as goal

-- those so far
abbrev pub invariant-threads : goal.invariant-threads
invariant-threads l = (l.count ≤ l.thread) × (l.count ≡ waiting_in (take l.thread l.threads.threads))
