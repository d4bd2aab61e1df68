use Rattle.machine_state.proofs.shown_stacks.Laws.{call}
use Rattle.machine_state.proofs.shown_stacks.calls_are_shown.Goals as goal

pub returns : goal.returns
returns c = record { holds = call }
