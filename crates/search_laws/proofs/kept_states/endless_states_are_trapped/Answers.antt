use Rattle.search_laws.proofs.Verdicts.{endless_states_trapped}
use Rattle.search_laws.proofs.kept_states.endless_states_are_trapped.Goals as goal

pub returns : goal.returns
returns c = record { holds = endless_states_trapped }
