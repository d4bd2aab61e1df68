use Rattle.hierarchy.proofs.CycleLaws.{IsUp}
use Rattle.hierarchy.proofs.cycles.leads_back.Given as goal

abbrev pub invariant-loop-step : goal.invariant-loop-step
invariant-loop-step l = IsUp l.set l._step l.class l.lower
