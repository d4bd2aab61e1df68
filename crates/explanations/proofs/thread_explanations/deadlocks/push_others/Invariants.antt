use Rattle.std.proofs.Common.{◌≡◌, ◌++◌, ℕ, codes, take}
use Rattle.std.specs.List.{flat_map}
use Rattle.explanations.specs.thread_explanations.Deadlocks.{wait_words}
use Rattle.explanations.proofs.thread_explanations.deadlocks.push_others.Given as goal

abbrev pub invariant-loop-thread : goal.invariant-loop-thread
invariant-loop-thread l = l.line.items ≡ l.fn.line.items ++ flat_map (λ (thread : ℕ). codes ", " ++ wait_words l.waits thread) (take l.thread-index l.threads)
