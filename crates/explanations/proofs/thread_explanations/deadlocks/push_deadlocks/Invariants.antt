use Rattle.std.proofs.Common.{◌≡◌, ◌++◌, List, ℕ, map, take, vec_items}
use Rattle.std.specs.List.{flat_map}
use Rattle.model.specs.Report.{line}
use Rattle.explanations.specs.thread_explanations.Deadlocks.{deadlock_words}
use Rattle.explanations.proofs.thread_explanations.deadlocks.push_deadlocks.Given as goal

abbrev pub invariant-loop-cycle : goal.invariant-loop-cycle
invariant-loop-cycle l = l.text.items ≡ l.fn.text.items ++ flat_map (λ (cycle : List ℕ). line (deadlock_words l.waits l.ends cycle)) (map vec_items (take l.cycle-index l.cycles))
