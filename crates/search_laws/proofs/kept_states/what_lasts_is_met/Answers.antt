use Rattle.search_laws.proofs.Verdicts.{what_lasts_is_met}
use Rattle.search_laws.proofs.kept_states.what_lasts_is_met.Goals as goal

pub returns : goal.returns
returns c = record { holds = what_lasts_is_met }
