use Rattle.machine.proofs.object_events.Whole.{are_bursts}
use Rattle.machine.proofs.object_events.theorems.object_steps_are_events.Goals as goal

pub returns : goal.returns
returns c = record { holds = are_bursts }
