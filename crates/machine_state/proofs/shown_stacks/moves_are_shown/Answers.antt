use Rattle.machine_state.proofs.shown_stacks.Laws.{move_on}
use Rattle.machine_state.proofs.shown_stacks.moves_are_shown.Goals as goal

pub returns : goal.returns
returns c = record { holds = move_on }
