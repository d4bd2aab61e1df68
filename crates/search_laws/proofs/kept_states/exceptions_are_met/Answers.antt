use Rattle.search_laws.proofs.Ends.{exceptions_met}
use Rattle.search_laws.proofs.kept_states.exceptions_are_met.Goals as goal

pub returns : goal.returns
returns c = record { holds = exceptions_met }
