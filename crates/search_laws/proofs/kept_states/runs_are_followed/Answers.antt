use Rattle.search_laws.proofs.Verdicts.{runs_followed}
use Rattle.search_laws.proofs.kept_states.runs_are_followed.Goals as goal

pub returns : goal.returns
returns c = record { holds = runs_followed }
