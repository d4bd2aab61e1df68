use Rattle.search_laws.proofs.OwnedMonitors.{owned_monitors_alone}
use Rattle.search_laws.proofs.alone.events_on_owned_monitors_are_alone.Goals as goal

pub returns : goal.returns
returns c = record { holds = owned_monitors_alone }
