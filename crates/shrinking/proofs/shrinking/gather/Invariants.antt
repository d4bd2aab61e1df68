use Rattle.model.specs.Schedule.{events_of}
use Rattle.shrinking.specs.Shrunk.{IsKept}
use Rattle.shrinking.proofs.shrinking.gather.Given as goal

abbrev pub invariant-places : goal.invariant-places
invariant-places g l = IsKept (g.T.Tries.has l.tries) (events_of l.fn.best) (events_of l.best)
