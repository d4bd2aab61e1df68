use Rattle.machine_state.proofs.allocations.Filling.{are_filled}
use Rattle.machine_state.proofs.allocations.texts_are_filled.Goals as goal

pub returns : goal.returns
returns c = record { holds = are_filled }
