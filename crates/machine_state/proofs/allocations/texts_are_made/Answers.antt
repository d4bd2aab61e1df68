use Rattle.machine_state.proofs.allocations.Allocating.{texts_made}
use Rattle.machine_state.proofs.allocations.texts_are_made.Goals as goal

pub returns : goal.returns
returns c = record { holds = texts_made }
