use Rattle.search.proofs.Marks.{IsSwept}
use Rattle.search.proofs.endless.sweep.Given as goal

abbrev pub invariant-edges : goal.invariant-edges
invariant-edges l = IsSwept l.edges l.fn.marks l.at l.is_more l.marks
