use Rattle.machine_state.proofs.entries.Changing.{threads_shown}
use Rattle.machine_state.proofs.entries.threads_are_shown.Goals as goal

pub returns : goal.returns
returns c = record { holds = threads_shown }
