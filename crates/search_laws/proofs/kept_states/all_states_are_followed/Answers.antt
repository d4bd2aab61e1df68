use Rattle.search_laws.proofs.Verdicts.{all_states_followed}
use Rattle.search_laws.proofs.kept_states.all_states_are_followed.Goals as goal

pub returns : goal.returns
returns c = record { holds = all_states_followed }
