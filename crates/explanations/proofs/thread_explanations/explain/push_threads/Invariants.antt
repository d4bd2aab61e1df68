use Rattle.std.proofs.Common.{◌≡◌, ◌++◌, map, take}
use Rattle.model.specs.Report.{end_state_of}
use Rattle.explanations.specs.thread_explanations.Details.{lines_at}
use Rattle.explanations.specs.thread_explanations.Explained.{told_of_all}
use Rattle.explanations.proofs.thread_explanations.explain.push_threads.Given as goal

abbrev pub invariant-loop-thread : goal.invariant-loop-thread
invariant-loop-thread l = l.text.items ≡ l.fn.text.items ++ told_of_all 0 (map end_state_of (take l.thread l.ends)) (lines_at l.details)
