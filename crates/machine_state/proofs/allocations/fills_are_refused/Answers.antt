use Rattle.machine_state.proofs.allocations.Filling.{fills_refused}
use Rattle.machine_state.proofs.allocations.fills_are_refused.Goals as goal

pub returns : goal.returns
returns c = record { holds = fills_refused }
