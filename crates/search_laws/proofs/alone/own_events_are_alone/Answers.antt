use Rattle.search_laws.proofs.OwnEvents.{own_events_alone}
use Rattle.search_laws.proofs.alone.own_events_are_alone.Goals as goal

pub returns : goal.returns
returns c = record { holds = own_events_alone }
