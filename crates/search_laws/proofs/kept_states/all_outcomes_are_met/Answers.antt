use Rattle.search_laws.proofs.Verdicts.{outcomes_met}
use Rattle.search_laws.proofs.kept_states.all_outcomes_are_met.Goals as goal

pub returns : goal.returns
returns c = record { holds = outcomes_met }
