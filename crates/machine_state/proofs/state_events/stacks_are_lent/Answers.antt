use Rattle.machine_state.proofs.state_events.Events.{stacks_lent}
use Rattle.machine_state.proofs.state_events.stacks_are_lent.Goals as goal

pub returns : goal.returns
returns c = record { holds = stacks_lent }
