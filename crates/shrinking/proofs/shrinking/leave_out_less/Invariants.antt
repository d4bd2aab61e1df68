use Rattle.std.proofs.Common.{◌≤◌}
use Rattle.model.specs.Schedule.{events_of}
use Rattle.shrinking.specs.Shrunk.{IsKept}
use Rattle.shrinking.proofs.shrinking.leave_out_less.Given as goal

abbrev pub invariant-sizes : goal.invariant-sizes
invariant-sizes g l = IsKept (g.T.Tries.has l.tries) (events_of l.fn.best) (events_of l.best) × (1 ≤ l.size)
