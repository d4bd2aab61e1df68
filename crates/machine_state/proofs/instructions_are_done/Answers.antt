use Rattle.machine_state.proofs.Doing.{instructions}
use Rattle.machine_state.proofs.instructions_are_done.Goals as goal

pub returns : goal.returns
returns c = record { holds = instructions }
