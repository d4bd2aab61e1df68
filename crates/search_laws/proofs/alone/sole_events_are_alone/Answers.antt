use Rattle.search_laws.proofs.Sole.{sole_alone}
use Rattle.search_laws.proofs.alone.sole_events_are_alone.Goals as goal

pub returns : goal.returns
returns c = record { holds = sole_alone }
