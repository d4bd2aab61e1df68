use Rattle.search.proofs.met_states.Bridge.{alike_met}
use Rattle.search.proofs.met_states.alike_states_are_met.Goals as goal

pub returns : goal.returns
returns c = record { holds = alike_met c.words_are_told.ensures.holds }
