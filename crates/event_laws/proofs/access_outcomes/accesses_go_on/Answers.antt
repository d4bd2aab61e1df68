use Rattle.event_laws.proofs.access_outcomes.Steps.{go_on}
use Rattle.event_laws.proofs.access_outcomes.accesses_go_on.Goals as goal

pub returns : goal.returns
returns c = record { holds = go_on }
