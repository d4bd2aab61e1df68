use Rattle.machine_state.proofs.entries.Entering.{entries_shown}
use Rattle.machine_state.proofs.entries.entries_are_shown.Goals as goal

pub returns : goal.returns
returns c = record { holds = entries_shown }
