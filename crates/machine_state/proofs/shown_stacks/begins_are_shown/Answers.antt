use Rattle.machine_state.proofs.shown_stacks.Laws.{begin}
use Rattle.machine_state.proofs.shown_stacks.begins_are_shown.Goals as goal

pub returns : goal.returns
returns c = record { holds = begin }
