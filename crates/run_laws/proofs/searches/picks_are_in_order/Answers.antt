use Rattle.run_laws.proofs.searches.Picks.{picks_in_order}
use Rattle.run_laws.proofs.searches.picks_are_in_order.Goals as goal

pub returns : goal.returns
returns c = record { holds = picks_in_order }
