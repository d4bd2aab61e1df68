use Rattle.machine_state.proofs.state_events.Events.{events_whole}
use Rattle.machine_state.proofs.state_events.events_are_whole.Goals as goal

pub returns : goal.returns
returns c = record { holds = events_whole }
