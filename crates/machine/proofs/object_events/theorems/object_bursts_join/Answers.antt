use Rattle.machine.proofs.object_events.Joined.{bursts_joined}
use Rattle.machine.proofs.object_events.theorems.object_bursts_join.Goals as goal

pub returns : goal.returns
returns c = record { holds = bursts_joined }
