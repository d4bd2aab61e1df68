use Rattle.std.proofs.Common.{length}
use Rattle.search.proofs.Marks.{IsSpread, left}
use Rattle.search.proofs.endless.spread.Given as goal

abbrev pub invariant-sweeps : goal.invariant-sweeps
invariant-sweeps l = IsSpread l.edges (length l.fn.marks) l.is_more l.marks

abbrev pub decreases-sweeps : goal.decreases-sweeps
decreases-sweeps l = left l.is_more l.marks
