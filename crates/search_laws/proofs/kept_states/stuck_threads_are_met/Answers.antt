use Rattle.search_laws.proofs.Ends.{stuck_met}
use Rattle.search_laws.proofs.kept_states.stuck_threads_are_met.Goals as goal

pub returns : goal.returns
returns c = record { holds = stuck_met }
