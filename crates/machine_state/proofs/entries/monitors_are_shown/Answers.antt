use Rattle.machine_state.proofs.entries.Changing.{monitors_shown}
use Rattle.machine_state.proofs.entries.monitors_are_shown.Goals as goal

pub returns : goal.returns
returns c = record { holds = monitors_shown }
