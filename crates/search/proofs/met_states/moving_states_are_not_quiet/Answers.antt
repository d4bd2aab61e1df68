use Rattle.search.proofs.met_states.Bridge.{not_quiet}
use Rattle.search.proofs.met_states.moving_states_are_not_quiet.Goals as goal

pub returns : goal.returns
returns c = record { holds = not_quiet c.picks_are_in_order.ensures.holds }
