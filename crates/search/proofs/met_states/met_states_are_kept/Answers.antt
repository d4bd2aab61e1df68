use Rattle.search.proofs.met_states.Bridge.{kept_met}
use Rattle.search.proofs.met_states.met_states_are_kept.Goals as goal

pub returns : goal.returns
returns c = record { holds = kept_met }
