use Rattle.alone_events.proofs.Moves.{moves_alone}
use Rattle.alone_events.proofs.theorems.moves_are_alone.Goals as goal

pub returns : goal.returns
returns c = record { holds = moves_alone c.stacks_are_lent.ensures.holds c.calls_and_returns_are_alone.ensures.holds c.calls_and_returns_are_free.ensures.holds }
