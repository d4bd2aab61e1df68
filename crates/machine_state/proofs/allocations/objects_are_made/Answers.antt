use Rattle.machine_state.proofs.allocations.Allocating.{made}
use Rattle.machine_state.proofs.allocations.objects_are_made.Goals as goal

pub returns : goal.returns
returns c = record { holds = made }
