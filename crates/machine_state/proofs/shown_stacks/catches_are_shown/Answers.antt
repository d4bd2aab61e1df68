use Rattle.machine_state.proofs.shown_stacks.Laws.{catch}
use Rattle.machine_state.proofs.shown_stacks.catches_are_shown.Goals as goal

pub returns : goal.returns
returns c = record { holds = catch }
