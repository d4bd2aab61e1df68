use Rattle.search.proofs.met_states.Bridge.{whole}
use Rattle.search.proofs.met_states.searches_are_whole.Goals as goal

pub returns : goal.returns
returns c = record { holds = whole }
