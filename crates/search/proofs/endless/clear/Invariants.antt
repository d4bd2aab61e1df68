use Rattle.std.proofs.Common.{length}
use Rattle.search.proofs.Marks.{AreCleared}
use Rattle.search.proofs.endless.clear.Given as goal

abbrev pub invariant-edges : goal.invariant-edges
invariant-edges l = AreCleared l.edges (length l.fn.marks) l.at l.marks
