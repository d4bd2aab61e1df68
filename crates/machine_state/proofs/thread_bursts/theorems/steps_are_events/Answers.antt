use Rattle.machine_state.proofs.thread_bursts.Local.{is_burst}
use Rattle.machine_state.proofs.thread_bursts.theorems.steps_are_events.Goals as goal

pub returns : goal.returns
returns c = record { holds = is_burst }
