use Rattle.machine_state.proofs.allocations.Allocating.{refused}
use Rattle.machine_state.proofs.allocations.allocations_are_refused.Goals as goal

pub returns : goal.returns
returns c = record { holds = refused }
