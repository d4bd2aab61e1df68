use Rattle.machine_state.proofs.thread_bursts.Events.{joined}
use Rattle.machine_state.proofs.thread_bursts.theorems.events_join.Goals as goal

pub returns : goal.returns
returns c = record { holds = joined }
