use Rattle.search.proofs.met_states.Bridge.{higher_left}
use Rattle.search.proofs.met_states.higher_picks_are_left.Goals as goal

pub returns : goal.returns
returns c = record { holds = higher_left c.picks_are_in_order.ensures.holds }
