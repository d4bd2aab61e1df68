use Rattle.search.proofs.met_states.Bridge.{new_met}
use Rattle.search.proofs.met_states.new_states_are_met.Goals as goal

pub returns : goal.returns
returns c = record { holds = new_met }
