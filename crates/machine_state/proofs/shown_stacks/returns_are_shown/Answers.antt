use Rattle.machine_state.proofs.shown_stacks.Laws.{return}
use Rattle.machine_state.proofs.shown_stacks.returns_are_shown.Goals as goal

pub returns : goal.returns
returns c = record { holds = return }
