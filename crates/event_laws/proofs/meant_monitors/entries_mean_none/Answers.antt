use Rattle.event_laws.proofs.meant_monitors.Steps.{mean_none}
use Rattle.event_laws.proofs.meant_monitors.entries_mean_none.Goals as goal

pub returns : goal.returns
returns c = record { holds = mean_none }
