use Rattle.std.proofs.Common.{map, vec_items}
use Rattle.explanations.proofs.thread_explanations.Paths.{AreBelow}
use Rattle.explanations.proofs.thread_explanations.cycles.cycles.Given as goal

abbrev pub invariant-loop-number : goal.invariant-loop-number
invariant-loop-number l = AreBelow l.waits (map vec_items l.found.items) l.number
