use Rattle.machine_state.proofs.allocations.Filling.{copies_made}
use Rattle.machine_state.proofs.allocations.copies_are_made.Goals as goal

pub returns : goal.returns
returns c = record { holds = copies_made }
