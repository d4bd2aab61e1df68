use Rattle.event_laws.proofs.entered_monitors.Steps.{entries_tell}
use Rattle.event_laws.proofs.entered_monitors.entries_tell_owners.Goals as goal

pub returns : goal.returns
returns c = record { holds = entries_tell }
