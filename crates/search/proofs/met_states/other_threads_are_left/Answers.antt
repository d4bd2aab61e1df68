use Rattle.search.proofs.met_states.Bridge.{others_left}
use Rattle.search.proofs.met_states.other_threads_are_left.Goals as goal

pub returns : goal.returns
returns c = record { holds = others_left }
