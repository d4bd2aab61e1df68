use Rattle.search_laws.proofs.Verdicts.{all_conflicts_met}
use Rattle.search_laws.proofs.kept_states.conflicts_are_met.Goals as goal

pub returns : goal.returns
returns c = record { holds = all_conflicts_met }
