use Rattle.waiting_circles.proofs.rounds.Ways.{IsOn}
use Rattle.waiting_circles.proofs.rounds.goes_round.Given as goal

abbrev pub invariant-loop-step : goal.invariant-loop-step
invariant-loop-step l = IsOn l.nexts l.first l.at l.step
