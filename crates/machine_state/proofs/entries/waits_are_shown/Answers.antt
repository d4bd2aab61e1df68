use Rattle.machine_state.proofs.entries.Entering.{waits_shown}
use Rattle.machine_state.proofs.entries.waits_are_shown.Goals as goal

pub returns : goal.returns
returns c = record { holds = waits_shown }
