use Rattle.search_laws.proofs.Schedules.{local_passed}
use Rattle.search_laws.proofs.kept_states.local_events_are_passed.Goals as goal

pub returns : goal.returns
returns c = record { holds = local_passed }
