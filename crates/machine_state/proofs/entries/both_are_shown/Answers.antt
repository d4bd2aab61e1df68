use Rattle.machine_state.proofs.entries.Changing.{both_shown}
use Rattle.machine_state.proofs.entries.both_are_shown.Goals as goal

pub returns : goal.returns
returns c = record { holds = both_shown }
