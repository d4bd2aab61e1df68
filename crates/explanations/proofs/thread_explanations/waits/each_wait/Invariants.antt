use Rattle.std.proofs.Common.{◌≡◌, ◌≤◌, length}
use Rattle.explanations.specs.thread_explanations.Waits.{first_waits}
use Rattle.explanations.proofs.thread_explanations.waits.each_wait.Given as goal

abbrev pub invariant-loop-thread : goal.invariant-loop-thread
invariant-loop-thread l = (l.each.items ≡ first_waits l.program l.shared l.ends l.thread) × (l.thread ≤ length l.shared.threads.threads)
