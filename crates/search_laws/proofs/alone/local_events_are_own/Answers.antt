use Rattle.search_laws.proofs.OwnEvents.{local_events_own}
use Rattle.search_laws.proofs.alone.local_events_are_own.Goals as goal

pub returns : goal.returns
returns c = record { holds = local_events_own }
